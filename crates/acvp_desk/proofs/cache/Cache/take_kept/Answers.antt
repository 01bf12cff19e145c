use Rattle.std.proofs.Common.{IfSome, subst, ap}
use Rattle.acvp_desk.specs.Cached.{IsTrueTo}
use Rattle.acvp_desk.proofs.CacheLemmas.{true_looked_up, true_removed}
use Rattle.acvp_desk.proofs.cache.Cache.take_kept.Goals as goal

pub invariant_of-self : goal.invariant_of-self
invariant_of-self c = rw c.pop.ensures.entries (
  c.self.invariant.0,
  true_removed (IsTrueTo c.self.inside.seeds) c.self.inside.entries.entries c.args.number c.self.invariant.1,
  c.self.invariant.2,
)

pub returns-clause-is_true : goal.returns-clause-is_true
returns-clause-is_true c =
    subst (λ s. IfSome c.pop.result (IsTrueTo s c.args.number)) (ap (λ v. v.seeds) c.self.view_is)
    (true_looked_up (IsTrueTo c.self.inside.seeds) c.pop.result c.self.inside.entries.entries c.args.number
    c.self.invariant.1 c.pop.ensures.value)
