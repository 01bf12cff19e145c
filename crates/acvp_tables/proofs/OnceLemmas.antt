-- Changes of the one row that passes a test.
use Rattle.std.proofs.Common.{◌≡◌, ℕ, zero, suc, ◌<◌, ◌≤◌, Bool, true, false, List, [], ◌∷◌, length, filter, get_or}
use Rattle.std.proofs.Common.{set, refl, ap, arith}
use Rattle.std.specs.List.{list_any}
use Rattle.std.proofs.lemmas.Bool.Decides.{nat_tests}
use Rattle.acvp_tables.specs.Changes.{changed}

-- no row passes
pub changed_none : {R : Type 0} (p : R → Bool) (f : R → R) (rows : List R) → list_any p rows ≡ false
    → rows ≡ changed p f rows
changed_none p f [] none = refl
changed_none p f (r ∷ rows) none = grind (arith, nat_tests, none, changed_none p f rows)

-- no row passes where none is kept by the filter
pub none_kept : {R : Type 0} (p : R → Bool) (f : R → R) (rows : List R) → length (filter p rows) ≤ 0
    → rows ≡ changed p f rows
none_kept p f [] none = refl
none_kept p f (r ∷ rows) none = grind (arith, nat_tests, none, none_kept p f rows)

-- a row that passes is kept
some_kept : {R : Type 0} (p : R → Bool) (rows : List R) (i : ℕ) (d : R) → i < length rows → p (get_or rows i d) ≡ true
    → 1 ≤ length (filter p rows)
some_kept p [] i d low on = absurd (omega arith)
some_kept p (r ∷ rows) zero d low on = grind (arith, nat_tests, on)
some_kept p (r ∷ rows) (suc i) d low on =
    let short : i < length rows = omega arith in
    grind (arith, nat_tests, some_kept p rows i d short on)

-- the first row doesn't pass where another does and no more than one
lone : {R : Type 0} (p : R → Bool) (r : R) (rows : List R) (b : Bool) → p r ≡ b → 1 ≤ length (filter p rows)
    → length (filter p (r ∷ rows)) ≤ 1 → p r ≡ false
lone p r rows true on some once = absurd (let more : suc (length (filter p rows)) ≤ 1 = rw on at once in omega arith)
lone p r rows false off some once = off

-- the row of a place passes, and no more than one does
pub changed_at : {R : Type 0} (p : R → Bool) (f : R → R) (rows : List R) (i : ℕ) (d : R) → i < length rows
    → p (get_or rows i d) ≡ true
    → length (filter p rows) ≤ 1 → set rows i (f (get_or rows i d)) ≡ changed p f rows
changed_at p f [] i d low on once = absurd (omega arith)
changed_at p f (r ∷ rows) zero d low on once =
    let none : length (filter p rows) ≤ 0 = grind (arith, nat_tests, on, once) in
    grind (arith, nat_tests, on, none_kept p f rows none)
changed_at p f (r ∷ rows) (suc i) d low on once =
    let short : i < length rows = omega arith in
    let off : p r ≡ false = lone p r rows (p r) refl (some_kept p rows i d short on) once in
    let few : length (filter p rows) ≤ 1 = grind (arith, nat_tests, off, once) in
    let rest : set rows i (f (get_or rows i d)) ≡ changed p f rows = changed_at p f rows i d short on few in
    rw off (ap (λ xs. r ∷ xs) rest)
