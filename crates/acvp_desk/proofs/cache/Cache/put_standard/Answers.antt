use Rattle.std.proofs.Common.{subst, sym, ap}
use Rattle.acvp_desk.specs.Cached.{IsStandardOf}
use Rattle.acvp_desk.proofs.CacheLemmas.{true_after_put}
use Rattle.acvp_desk.proofs.cache.Cache.put_standard.Goals as goal

pub invariant_of-self : goal.invariant_of-self
invariant_of-self c = (
  c.self.invariant.0,
  c.self.invariant.1,
  true_after_put (IsStandardOf c.self.inside.seeds) c.put.result c.self.inside.standards c.put.new.self c.args.number
      c.args.standard c.put.ensures.entries c.put.ensures.err c.self.invariant.2
      (subst (λ s. IsStandardOf s c.args.number c.args.standard) (ap (λ v. v.seeds) (sym c.self.view_is)) c.requires),
)
