use Rattle.std.proofs.Common.{Some, ap, sym, ◌∙◌}
use Rattle.acvp_caps.proofs.DomainLemmas.{least-value, least-all}
use Rattle.acvp_caps.proofs.domain.Domain.least.Goals as goal

value : goal.returns-clause-value
value c =
    least-value c.self.inside.items.items c.args.self.now c.next_member.result c.self.view_is c.self.invariant
    (rw c.deref.ensures.value at c.next_member.ensures)
    ∙ ap Some (sym c.unwrap_or.ensures)

pub returns-clause-value : goal.returns-clause-value
returns-clause-value c = value c

pub returns-clause-least : goal.returns-clause-least
returns-clause-least c = least-all c.self.inside.items.items c.args.self.now c.unwrap_or.result c.self.view_is (value c)
