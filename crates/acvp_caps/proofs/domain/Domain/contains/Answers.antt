use Rattle.acvp_caps.proofs.DomainLemmas.{contains-value, contains-both}
use Rattle.acvp_caps.proofs.domain.Domain.contains.Goals as goal

pub returns-clause-value : goal.returns-clause-value
returns-clause-value c =
    contains-value c.self.inside.items.items c.args.self.now c.args.n c.has_member.result c.self.view_is
    (rw c.deref.ensures.value at c.has_member.ensures)

pub returns-clause-member : goal.returns-clause-member
returns-clause-member c =
    contains-both c.self.inside.items.items c.args.self.now c.args.n c.has_member.result c.self.view_is
    (rw c.deref.ensures.value at c.has_member.ensures)
