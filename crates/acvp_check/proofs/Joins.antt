-- Conditions after one another.
use Rattle.std.proofs.Common.{◌≡◌, ℕ, zero, suc, ◌+◌, ◌<◌, Bool, true, false, List, [], ◌∷◌, ◌++◌, length, map, drop, get_or}
use Rattle.std.proofs.Common.{Option, None, Some, refl, ap, sym, ◌∙◌, arith}
use Rattle.std.specs.Prelude.{Result, Ok, Err, filter, find, is_some}
use Rattle.std.specs.List.{flat_map, list_any}
use Rattle.std.proofs.lemmas.List.{drop_more}
use Rattle.std.proofs.lemmas.Bool.Decides.{nat_tests}
use Rattle.acvp_mac.specs.Conditions.{Condition, first_broken, judged}
use Rattle.acvp_tables.specs.Content.{session_at}
use Rattle.acvp_tables.specs.State.{session_record, session_record_at}
use Rattle.acvp_tables.specs.declared.rows.SessionRow.{SessionRow}

-- the first fault, or else the rest
abbrev pub then : {F : Type 0} → Result (Unit {0}) F → Result (Unit {0}) F → Result (Unit {0}) F
then (Ok done) rest = rest
then (Err fault) rest = Err fault

pub judged_joined : {F : Type 0} (front rest : List (Condition F))
    → judged (front ++ rest) (tt {0}) ≡ then (judged front (tt {0})) (judged rest (tt {0}))
judged_joined [] rest = refl
judged_joined ((true, f) ∷ front) rest = judged_joined front rest
judged_joined ((false, f) ∷ front) rest = refl

-- what is judged tells the first broken condition, and that there is none
pub is_broken : {F : Type 0} (conditions : List (Condition F)) (fault : F) → judged conditions (tt {0}) ≡ Err fault
    → first_broken conditions ≡ Some fault
is_broken [] fault e = absurd (cc)
is_broken ((true, f) ∷ conditions) fault e = is_broken conditions fault e
is_broken ((false, f) ∷ conditions) fault e = cc (e)

pub is_held : {F : Type 0} (conditions : List (Condition F)) (done : Unit {0}) → judged conditions (tt {0}) ≡ Ok done
    → first_broken conditions ≡ None
is_held [] done e = refl
is_held ((true, f) ∷ conditions) done e = is_held conditions done e
is_held ((false, f) ∷ conditions) done e = absurd (cc)

-- the row at a place of the list is the same, whatever stands behind its end
pub same_at : {R : Type 0} (rows : List R) (i : ℕ) (d e : R) → i < length rows → get_or rows i d ≡ get_or rows i e
same_at [] i d e low = absurd (omega (arith, low))
same_at (r ∷ rows) zero d e low = refl
same_at (r ∷ rows) (suc i) d e low = same_at rows i d e (omega (arith, low))

module _ {R F : Type 0} (conditions : R → List (Condition F)) where
  abbrev pub of_rest : List R → ℕ → Result (Unit {0}) F
  of_rest rows i = judged (flat_map conditions (drop i rows)) (tt {0})

  -- the conditions on a row, and then those on the rows behind it
  pub row_first : (rows : List R) (i : ℕ) (row : R) → i < length rows → row ≡ get_or rows i row
      → of_rest rows i ≡ then (judged (conditions row) (tt {0})) (of_rest rows (i + 1))
  row_first rows i row low is = rw (drop_more rows i row low)
      (rw (← is) (judged_joined (conditions row) (flat_map conditions (drop (i + 1) rows))))

  row_at : (rows : List R) (i : ℕ) (d : R) → i < length rows
      → of_rest rows i ≡ then (judged (conditions (get_or rows i d)) (tt {0})) (of_rest rows (i + 1))
  row_at rows i d low = row_first rows i (get_or rows i d) low (same_at rows i d (get_or rows i d) low)

  -- a row on which all holds, and one on which something is broken
  pub row_passed : (rows : List R) (i : ℕ) (d : R) (result whole : Result (Unit {0}) F) (done : Unit {0})
      → i < length rows → result ≡ judged (conditions (get_or rows i d)) (tt {0}) → result ≡ Ok done
      → of_rest rows i ≡ whole → of_rest rows (i + 1) ≡ whole
  row_passed rows i d result whole done low judges is so_far =
      sym (row_at rows i d low ∙ ap (λ r. then r (of_rest rows (i + 1))) (sym judges ∙ is)) ∙ so_far

  pub row_broken : (rows : List R) (i : ℕ) (d : R) (result whole : Result (Unit {0}) F) (fault : F)
      → i < length rows → result ≡ judged (conditions (get_or rows i d)) (tt {0}) → result ≡ Err fault
      → of_rest rows i ≡ whole → Err fault ≡ whole
  row_broken rows i d result whole fault low judges is so_far =
      sym (row_at rows i d low ∙ ap (λ r. then r (of_rest rows (i + 1))) (sym judges ∙ is)) ∙ so_far

-- what is found is there
pub found_any : {R : Type 0} (p : R → Bool) (rows : List R) → is_some (find p rows) ≡ list_any p rows
found_any p [] = refl
found_any p (r ∷ rows) = grind (arith, nat_tests, found_any p rows)

-- all rows are selected
pub all_selected : {R : Type 0} (rows : List R) → filter (λ _. true) rows ≡ rows
all_selected [] = refl
all_selected (r ∷ rows) = ap (λ rest. r ∷ rest) (all_selected rows)

-- a session is there where its record is
pub session_there : (n : ℕ) (rows : List SessionRow)
    → is_some (session_record_at n (map session_record rows)) ≡ is_some (session_at n rows)
session_there n [] = refl
session_there n (r ∷ rows) = grind (arith, nat_tests, session_there n rows)

-- what is found isn't none
pub apart : {F : Type 0} (o : Option F) (found : F) → o ≡ Some found → o ≡ None → ⊥
apart o found some none = let both_ways : Some found ≡ None = sym some ∙ none in cc (both_ways)
