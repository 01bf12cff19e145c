use Rattle.std.proofs.Common.{◌≡◌, length, arith, ap, ◌∙◌}
use Rattle.acvp_caps.proofs.DomainLemmas.{domain-some, list-of}
use Rattle.acvp_caps.proofs.domain.Domain.count.Goals as goal

pub returns-clause-some : goal.returns-clause-some
returns-clause-some c =
    let some = domain-some c.self.inside.items.items c.args.self.now c.self.view_is c.self.invariant in
    let count : c.count_members.result ≡ length c.args.self.now = (rw c.deref.ensures.value at c.count_members.ensures)
    ∙ ap length c.self.view_is in
    omega (arith, some, count)

pub returns-clause-ascending : goal.returns-clause-ascending
returns-clause-ascending c = (list-of c.self.inside.items.items c.args.self.now c.self.view_is).ascending
