-- What holds of each entry of the cache still does after its calls.
use Rattle.std.proofs.Common.{◌≡◌, ◌⊎◌, ◌∙◌, ap, ℕ, List, Option, Some, None, IfSome, Result, Ok, Err, OnOk, OnErr}
use Rattle.std.proofs.Common.{nat_eq, sym, subst, inl, inr, eqb-true}
use Rattle.std.specs.Map.{lookup, remove_entry}
use Rattle.lru.specs.LruCache.{LruCache, lru_cache, put_entries}
use Rattle.lru.proofs.CallerLemmas.{Contains-lookup, Contains-remove_entry, Contains-put_entries}
use Rattle.acvp_desk.specs.declared.entry.Entry.{Entry}
use Rattle.acvp_desk.specs.Cached.{HoldsOfEach, IsStandardIn, IsStandardOf, IsTrueTo}
use Rattle.acvp_desk.specs.declared.standard.Standard.{Standard}
use Rattle.acvp_answers.specs.Standards.{standard_of}

module _ {E : Type 0} (P : ℕ → E → Type 0) where
  -- what is found
  true_found : (es : List (ℕ × E)) (k : ℕ) (v : E) → HoldsOfEach P es → lookup (nat_eq k) es ≡ Some v → P k v
  true_found es k v h f =
      let at = Contains-lookup (nat_eq k) es v f in
      subst (λ n. P n v) (sym (eqb-true k at.0 at.2)) (h.each at.0 v at.1)

  pub true_looked_up : (o : Option E) (es : List (ℕ × E)) (k : ℕ) → HoldsOfEach P es → o ≡ lookup (nat_eq k) es
      → IfSome o (P k)
  true_looked_up None es k h f = tt
  true_looked_up (Some v) es k h f = true_found es k v h (sym f)

  -- what is left
  pub true_removed : (es : List (ℕ × E)) (k : ℕ) → HoldsOfEach P es → HoldsOfEach P (remove_entry (nat_eq k) es)
  true_removed es k h = record { each = λ n e c. h.each n e (Contains-remove_entry (nat_eq k) es (n, e) c) }

  -- one more
  true_put : (c : LruCache ℕ E) (k : ℕ) (v : E) → HoldsOfEach P c.entries → P k v
      → HoldsOfEach P (put_entries nat_eq c k v)
  true_put c k v h t = record {
    each = λ n e d. elim (Contains-put_entries nat_eq c k v (n, e) d) [
      | inl was ↦ h.each n e was
      | inr new ↦ elim new.1 [
        | inl key ↦ subst (λ m. P m e) (sym key) (subst (P k) (sym new.0) t)
        | inr old ↦ subst (λ m. P m e) (eqb-true k n old.2) (subst (P k) (sym new.0) t)
      ]
    ];
  }

  -- after `put`, whatever came of it
  pub true_after_put : {X F : Type 0} (r : Result X F) (old new : LruCache ℕ E) (k : ℕ) (v : E)
      → OnOk r (new ≡ lru_cache (put_entries nat_eq old k v) old.cap) → OnErr r (new ≡ old)
      → HoldsOfEach P old.entries → P k v → HoldsOfEach P new.entries
  true_after_put (Ok x) old new k v ok err h t = rw ok (true_put old k v h t)
  true_after_put (Err e) old new k v ok err h t = rw err h

module _ {E : Type 0} where
  -- after `put`, whatever came of it, as many are cached at most
  pub capacity_after_put : {X F : Type 0} (r : Result X F) (old new : LruCache ℕ E) (k : ℕ) (v : E)
      → OnOk r (new ≡ lru_cache (put_entries nat_eq old k v) old.cap) → OnErr r (new ≡ old) → new.cap ≡ old.cap
  capacity_after_put (Ok x) old new k v ok err = ap (λ c. c.cap) ok
  capacity_after_put (Err e) old new k v ok err = ap (λ c. c.cap) err

-- the standard answers of an entry that is true to a vector set are that set's
pub true_standard : (seeds : List (List ℕ)) (number : ℕ) (e : Entry) (s : Standard) → IsTrueTo seeds number e
    → IsStandardIn e s
    → IsStandardOf seeds number s
true_standard seeds number e s t i =
    let given = subst (λ o. IfSome o (λ answers. answers ≡ standard_of e.prompts)) i.answers t.standard in
    rw i.capability (rw i.epoch (given ∙ ap standard_of t.prompts))

-- after `put`, the pair is at the front, or all is as it was
pub put_or_kept : {X E : Type 0} (r : Result X E) (old new : LruCache ℕ Entry) (k : ℕ) (v : Entry)
    → OnOk r (new ≡ lru_cache (put_entries nat_eq old k v) old.cap) → OnErr r (new ≡ old) → old.cap ≡ 64
    → (new.entries ≡ put_entries nat_eq (lru_cache old.entries 64) k v) ⊎ (new.entries ≡ old.entries)
put_or_kept (Ok x) old new k v ok err cap =
    inl (ap (λ c. c.entries) ok ∙ ap (λ n. put_entries nat_eq (lru_cache old.entries n) k v) cap)
put_or_kept (Err e) old new k v ok err cap = inr (ap (λ c. c.entries) err)
