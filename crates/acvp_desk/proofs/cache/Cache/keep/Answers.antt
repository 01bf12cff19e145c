use Rattle.std.proofs.Common.{◌≡◌, ◌⊎◌, ◌∙◌, nat_eq, subst, sym, ap}
use Rattle.lru.specs.LruCache.{lru_cache, put_entries}
use Rattle.acvp_desk.specs.Cached.{IsTrueTo}
use Rattle.acvp_desk.proofs.CacheLemmas.{capacity_after_put, true_after_put, put_or_kept}
use Rattle.acvp_desk.proofs.cache.Cache.keep.Goals as goal

pub invariant_of-self : goal.invariant_of-self
invariant_of-self c = (
  capacity_after_put c.put.result c.self.inside.entries c.put.new.self c.args.number c.args.entry c.put.ensures.entries
      c.put.ensures.err ∙ c.self.invariant.0,
  true_after_put (IsTrueTo c.self.inside.seeds) c.put.result c.self.inside.entries c.put.new.self c.args.number
      c.args.entry c.put.ensures.entries c.put.ensures.err c.self.invariant.1
      (subst (λ s. IsTrueTo s c.args.number c.args.entry)
      (ap (λ v. v.seeds) (sym c.keep_standard.ensures ∙ sym c.self.view_is)) c.requires),
  c.self.invariant.2,
)

pub returns-clause-entries : goal.returns-clause-entries
returns-clause-entries c =
    subst (λ es. (c.put.new.self.entries ≡ put_entries nat_eq (lru_cache es 64) c.args.number c.args.entry)
    ⊎ (c.put.new.self.entries ≡ es))
    (ap (λ v. v.entries) (c.self.view_is ∙ c.keep_standard.ensures))
    (put_or_kept c.put.result c.self.inside.entries c.put.new.self c.args.number c.args.entry c.put.ensures.entries
    c.put.ensures.err c.self.invariant.0)
