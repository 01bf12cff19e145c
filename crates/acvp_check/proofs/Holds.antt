-- That all conditions of a list hold, as one truth value.
use Rattle.std.proofs.Common.{◌≡◌, ℕ, ◌+◌, Bool, true, false, List, [], ◌∷◌, ◌++◌, map, None, refl, ap, ◌∙◌, arith}
use Rattle.std.specs.Prelude.{filter, not, ◌&&◌, ◌||◌, ◌==◌}
use Rattle.std.specs.List.{flat_map, list_all, list_any}
use Rattle.std.proofs.lemmas.Bool.Decides.{nat_tests}
use Rattle.std.proofs.lemmas.List.Concat.{flat_map-cons}
use Rattle.std.proofs.lemmas.List.Folds.{list_all-append}
use Rattle.acvp_mac.specs.Conditions.{Condition, first_broken}
use Rattle.acvp_tables.specs.State.{IsNumbered}
use Rattle.acvp_check.specs.Conditions.{numbered}
use Rattle.acvp_check.specs.declared.finding.RowKey.{RowKey}

abbrev pub holds : {F : Type 0} → List (Condition F) → Bool
holds conditions = list_all (λ c. c.0) conditions

pub none_broken : {F : Type 0} (cs : List (Condition F)) → first_broken cs ≡ None → holds cs ≡ true
none_broken [] e = refl
none_broken ((true, f) ∷ cs) e = none_broken cs e
none_broken ((false, f) ∷ cs) e = absurd (cc)

pub all_held : {F : Type 0} (cs : List (Condition F)) → holds cs ≡ true → first_broken cs ≡ None
all_held [] e = refl
all_held ((true, f) ∷ cs) e = all_held cs e
all_held ((false, f) ∷ cs) e = absurd (cc)

-- ---- of two, of each row

pub both : (a b : Bool) → (a && b) ≡ true → (a ≡ true) × (b ≡ true)
both true b e = (refl, e)
both false b e = absurd (cc)

pub joint : (a b : Bool) → a ≡ true → b ≡ true → (a && b) ≡ true
joint a b ea eb = rw (ea, eb) refl

pub holds-joined : {F : Type 0} (xs ys : List (Condition F)) → holds (xs ++ ys) ≡ (holds xs && holds ys)
holds-joined xs ys = list_all-append (λ c. c.0) xs ys

pub holds-each : {R F : Type 0} (f : R → List (Condition F)) (rows : List R)
    → holds (flat_map f rows) ≡ list_all (λ r. holds (f r)) rows
holds-each f [] = refl
holds-each f (r ∷ rows) = rw (flat_map-cons f r rows)
    (holds-joined (f r) (flat_map f rows) ∙ ap (λ b. holds (f r) && b) (holds-each f rows))

pub all_both : {R : Type 0} (p q : R → Bool) (rows : List R) → list_all p rows ≡ true → list_all q rows ≡ true
    → list_all (λ r. p r && q r) rows ≡ true
all_both p q [] ep eq = refl
all_both p q (r ∷ rows) ep eq =
    let here = both (p r) (list_all p rows) ep in
    let there = both (q r) (list_all q rows) eq in
    joint (p r && q r) (list_all (λ r. p r && q r) rows) (joint (p r) (q r) here.0 there.0)
    (all_both p q rows here.1 there.1)

-- ---- numbers

pub numbers_rise : {R : Type 0} (number : R → ℕ) (key : R → RowKey) (i : ℕ) (rows : List R)
    → holds (numbered number key i rows) ≡ true → IsNumbered number i rows
numbers_rise number key i [] e = refl
numbers_rise number key i (r ∷ rows) e =
    let p = both (number r == i) (holds (numbered number key (i + 1) rows)) e in
    let here : number r ≡ i = grind (arith, nat_tests, p.0) in
    rw here (ap (λ more. i ∷ more) (numbers_rise number key (i + 1) rows p.1))

pub rising_numbers : {R : Type 0} (number : R → ℕ) (key : R → RowKey) (i : ℕ) (rows : List R)
    → IsNumbered number i rows → holds (numbered number key i rows) ≡ true
rising_numbers number key i [] e = refl
rising_numbers number key i (r ∷ rows) e =
    let here : number r ≡ i = cc (e) in
    let rest : IsNumbered number (i + 1) rows = cc (e) in
    let on : (number r == i) ≡ true = grind (arith, nat_tests, here) in
    joint (number r == i) (holds (numbered number key (i + 1) rows)) on (rising_numbers number key (i + 1) rows rest)

-- of rows without what is derived
pub numbered_records : {R Q : Type 0} (h : R → Q) (number : Q → ℕ) (i : ℕ) (rows : List R)
    → IsNumbered (λ r. number (h r)) i rows → IsNumbered number i (map h rows)
numbered_records h number i [] e = refl
numbered_records h number i (r ∷ rows) e =
    let here : number (h r) ≡ i = cc (e) in
    let rest : IsNumbered (λ r. number (h r)) (i + 1) rows = cc (e) in
    rw here (ap (λ more. i ∷ more) (numbered_records h number (i + 1) rows rest))

pub numbered_rows : {R Q : Type 0} (h : R → Q) (number : Q → ℕ) (i : ℕ) (rows : List R)
    → IsNumbered number i (map h rows) → IsNumbered (λ r. number (h r)) i rows
numbered_rows h number i [] e = refl
numbered_rows h number i (r ∷ rows) e =
    let here : number (h r) ≡ i = cc (e) in
    let rest : IsNumbered number (i + 1) (map h rows) = cc (e) in
    rw here (ap (λ more. i ∷ more) (numbered_rows h number (i + 1) rows rest))

-- ---- what holds of each row that passes a test

-- a row passes, of which it is known what holds
pub at_passing : {R : Type 0} (p q : R → Bool) (b : Bool) → ((r : R) → q r ≡ true → p r ≡ b) → (rows : List R)
    → list_all p rows ≡ true → list_any q rows ≡ true → b ≡ true
at_passing p q b is [] all some = absurd (cc)
at_passing p q b is (r ∷ rows) all some = grind (arith, nat_tests, all, some, is r, at_passing p q b is rows)

-- no row passes
pub none_passing : {R : Type 0} (q : R → Bool) (rows : List R) → list_any q rows ≡ false → filter q rows ≡ []
none_passing q [] none = refl
none_passing q (r ∷ rows) none = grind (arith, nat_tests, none, none_passing q rows)

-- where each row passes, none passes what no such row passes
pub none_without : {R : Type 0} (p q : R → Bool) → ((r : R) → p r ≡ true → q r ≡ false) → (rows : List R)
    → list_all p rows ≡ true → filter q rows ≡ []
none_without p q apart [] all = refl
none_without p q apart (r ∷ rows) all = grind (arith, nat_tests, all, apart r, none_without p q apart rows)

-- each row passes a test that all do
pub each_passes : {R : Type 0} (p : R → Bool) → ((r : R) → p r ≡ true) → (rows : List R) → list_all p rows ≡ true
each_passes p is [] = refl
each_passes p is (r ∷ rows) = joint (p r) (list_all p rows) (is r) (each_passes p is rows)

pub then_holds : (a b : Bool) → (not a || b) ≡ true → a ≡ true → b ≡ true
then_holds true b e on = e
then_holds false b e on = absurd (cc)

pub holds_then : (a b : Bool) → (a ≡ true → b ≡ true) → (not a || b) ≡ true
holds_then true b e = e refl
holds_then false b e = refl
