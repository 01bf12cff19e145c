use Rattle.acvp_caps.proofs.DomainLemmas.{greatest-value, greatest-all}
use Rattle.acvp_caps.proofs.domain.Domain.greatest.Goals as goal

pub returns-clause-value : goal.returns-clause-value
returns-clause-value c =
    greatest-value c.self.inside.items.items c.args.self.now c.greatest_member.result c.self.view_is c.self.invariant
    (rw c.deref.ensures.value at c.greatest_member.ensures)

pub returns-clause-greatest : goal.returns-clause-greatest
returns-clause-greatest c =
    greatest-all c.self.inside.items.items c.args.self.now c.greatest_member.result c.self.view_is
    (rw c.deref.ensures.value at c.greatest_member.ensures)
