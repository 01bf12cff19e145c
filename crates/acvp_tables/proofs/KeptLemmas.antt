-- Lists of numbered rows, and one of them changed.
use Rattle.std.proofs.Common.{◌≡◌, ℕ, ◌+◌, ◌≤◌, ◌<◌, Bool, true, false, List, [], ◌∷◌, ◌++◌, length, refl, ap, sym, ◌∙◌}
use Rattle.std.proofs.Common.{arith, length-append}
use Rattle.std.specs.Prelude.{filter, find, not, ◌==◌, Option, Some, None, is_some}
use Rattle.std.specs.List.{list_all, list_any, range_with_len}
use Rattle.std.proofs.lemmas.Bool.Decides.{nat_tests}
use Rattle.std.proofs.lemmas.List.{length-map}
use Rattle.std.proofs.lemmas.List.Elements.{filter-append}
use Rattle.std.proofs.lemmas.List.Folds.{list_any-append}
use Rattle.acvp_tables.specs.State.{IsNumbered, of_all}
use Rattle.acvp_tables.specs.Changes.{changed}
use Rattle.acvp_tables.proofs.CountedLemmas.{one_changed}
use Rattle.acvp_tables.proofs.Follows.{map-unchanged}

-- ---- what holds of some

pub of_all_weaker : {X : Type 0} (p q : X → Bool) → ((x : X) → p x ≡ true → q x ≡ true) → (x : Option X)
    → of_all p x ≡ true → of_all q x ≡ true
of_all_weaker p q gives None e = refl
of_all_weaker p q gives (Some x) e = gives x e

pub list_all_weaker : {R : Type 0} (p q : R → Bool) → ((r : R) → p r ≡ true → q r ≡ true) → (rows : List R)
    → list_all p rows ≡ true
    → list_all q rows ≡ true
list_all_weaker p q gives [] all = refl
list_all_weaker p q gives (r ∷ rows) all = grind (arith, nat_tests, all, gives r, list_all_weaker p q gives rows)

pub list_all-filter : {R : Type 0} (p q : R → Bool) (rows : List R) → list_all p rows ≡ true
    → list_all p (filter q rows) ≡ true
list_all-filter p q [] all = refl
list_all-filter p q (r ∷ rows) all = grind (arith, nat_tests, all, list_all-filter p q rows)

-- fewer pass a filter of fewer
pub fewer : {R : Type 0} (p q : R → Bool) (rows : List R) → length (filter p (filter q rows)) ≤ length (filter p rows)
fewer p q [] = omega arith
fewer p q (r ∷ rows) = grind (arith, nat_tests, fewer p q rows)

-- how many pass
any_counts : {R : Type 0} (p : R → Bool) (rows : List R) → list_any p rows ≡ true → 1 ≤ length (filter p rows)
any_counts p [] e = cc
any_counts p (r ∷ rows) e = grind (arith, nat_tests, e, any_counts p rows)

counts_any : {R : Type 0} (p : R → Bool) (rows : List R) → 1 ≤ length (filter p rows) → list_any p rows ≡ true
counts_any p [] e = absurd (omega arith)
counts_any p (r ∷ rows) e = grind (arith, nat_tests, e, counts_any p rows)

all_counts : {R : Type 0} (p : R → Bool) (rows : List R) → list_all p rows ≡ true
    → length (filter (λ r. not (p r)) rows) ≤ 0
all_counts p [] e = omega arith
all_counts p (r ∷ rows) e = grind (arith, nat_tests, e, all_counts p rows)

counts_all : {R : Type 0} (p : R → Bool) (rows : List R) → length (filter (λ r. not (p r)) rows) ≤ 0
    → list_all p rows ≡ true
counts_all p [] e = refl
counts_all p (r ∷ rows) e = grind (arith, nat_tests, e, counts_all p rows)

pub none_pass : {R : Type 0} (p : R → Bool) (rows : List R) → list_any p rows ≡ false → length (filter p rows) ≡ 0
none_pass p [] e = refl
none_pass p (r ∷ rows) e = grind (arith, nat_tests, e, none_pass p rows)

-- where no row can pass both tests
pub none_selected : {R : Type 0} (p test : R → Bool) → ((r : R) → p r ≡ true → test r ≡ true → ⊥) → (rows : List R)
    → list_all p rows ≡ true
    → filter test rows ≡ []
none_selected p test apart [] all = refl
none_selected p test apart (r ∷ rows) all = grind (arith, nat_tests, all, apart r, none_selected p test apart rows)

-- ---- more rows

pub any_before : {R : Type 0} (p : R → Bool) (xs ys : List R) → list_any p xs ≡ true → list_any p (xs ++ ys) ≡ true
any_before p xs ys e = grind (arith, nat_tests, list_any-append p xs ys, e)

pub any_behind : {R : Type 0} (p : R → Bool) (xs ys : List R) → list_any p ys ≡ true → list_any p (xs ++ ys) ≡ true
any_behind p xs ys e = grind (arith, nat_tests, list_any-append p xs ys, e)

pub found_before : {R : Type 0} (test : R → Bool) (xs ys : List R) → is_some (find test xs) ≡ true
    → is_some (find test (xs ++ ys)) ≡ true
found_before test [] ys e = cc
found_before test (x ∷ xs) ys e = grind (arith, nat_tests, e, found_before test xs ys)

pub found_last : {R : Type 0} (test : R → Bool) (xs : List R) (y : R) → test y ≡ true
    → is_some (find test (xs ++ y ∷ [])) ≡ true
found_last test [] y e = grind (arith, nat_tests, e)
found_last test (x ∷ xs) y e = grind (arith, nat_tests, e, found_last test xs y)

-- as many pass, or more
pub more_pass : {R : Type 0} (p : R → Bool) (xs ys : List R) → length (filter p xs) ≤ length (filter p (xs ++ ys))
more_pass p [] ys = omega arith
more_pass p (x ∷ xs) ys = grind (arith, nat_tests, more_pass p xs ys)

-- one more passes where there is room
pub one_more : {R : Type 0} (p : R → Bool) (r : R) (rows : List R) (most : ℕ) → length (filter p rows) ≤ most
    → (p r ≡ true → length (filter p rows) < most)
    → length (filter p (rows ++ r ∷ [])) ≤ most
one_more p r rows most few room = simp (filter-append, length-append) (go (p r) refl)
  where
    go : (b : Bool) → p r ≡ b → length (filter p rows) + length (filter p (r ∷ [])) ≤ most
    go true e = rw e (omega (arith, room e))
    go false e = rw e (omega (arith, few))

-- some are there where one is found
pub some_found : {R : Type 0} (test : R → Bool) (rows : List R) (row : R) → find test rows ≡ Some row → 1 ≤ length rows
some_found test [] row found = cc
some_found test (r ∷ rows) row found = omega arith

-- the next number
pub numbered-push : {R : Type 0} (number : R → ℕ) (i : ℕ) (rows : List R) (row : R) → IsNumbered number i rows
    → number row ≡ i + length rows
    → IsNumbered number i (rows ++ row ∷ [])
numbered-push number i [] row e new = ap (λ n. n ∷ []) (omega (arith, new))
numbered-push number i (r ∷ rows) row e new =
    let here : number r ≡ i = cc (e) in
    let rest : IsNumbered number (i + 1) rows = cc (e) in
    rw here (ap (λ more. i ∷ more) (numbered-push number (i + 1) rows row rest (omega (arith, new))))

-- no row has it yet
pub past_last : {R : Type 0} (number : R → ℕ) (n i : ℕ) (rows : List R) → IsNumbered number i rows → i + length rows ≤ n
    → is_some (find (λ row. number row == n) rows) ≡ false
past_last number n i [] e past = refl
past_last number n i (r ∷ rows) e past =
    let here : number r ≡ i = cc (e) in
    let rest : IsNumbered number (i + 1) rows = cc (e) in
    let later : (i + 1) + length rows ≤ n = omega arith in
    let off : (number r == n) ≡ false = grind (arith, nat_tests, here, past) in
    grind (arith, nat_tests, off, past_last number n (i + 1) rows rest later)

-- ---- changed rows

pub length-changed : {R : Type 0} (test : R → Bool) (f : R → R) (rows : List R)
    → length (changed test f rows) ≡ length rows
length-changed test f rows = length-map rows _

pub numbered-changed : {R : Type 0} (number : R → ℕ) (i : ℕ) (test : R → Bool) (f : R → R)
    → ((r : R) → number (f r) ≡ number r) → (rows : List R)
    → IsNumbered number i rows → IsNumbered number i (changed test f rows)
numbered-changed number i test f keeps rows e = map-unchanged number test f keeps rows ∙ e
    ∙ ap (range_with_len i) (sym (length-changed test f rows))

pub list_all-changed : {R : Type 0} (p test : R → Bool) (f : R → R) → ((r : R) → p (f r) ≡ p r) → (rows : List R)
    → list_all p (changed test f rows) ≡ list_all p rows
list_all-changed p test f keeps [] = refl
list_all-changed p test f keeps (r ∷ rows) = grind (arith, nat_tests, keeps r, list_all-changed p test f keeps rows)

-- it holds of what is changed
pub all_kept : {R : Type 0} (p test : R → Bool) (f : R → R) → ((r : R) → test r ≡ true → p (f r) ≡ true)
    → (rows : List R)
    → list_all p rows ≡ true → list_all p (changed test f rows) ≡ true
all_kept p test f gives [] all = refl
all_kept p test f gives (r ∷ rows) all = grind (arith, nat_tests, all, gives r, all_kept p test f gives rows)

pub list_any-changed : {R : Type 0} (p test : R → Bool) (f : R → R) → ((r : R) → p (f r) ≡ p r) → (rows : List R)
    → list_any p (changed test f rows) ≡ list_any p rows
list_any-changed p test f keeps [] = refl
list_any-changed p test f keeps (r ∷ rows) = grind (arith, nat_tests, keeps r, list_any-changed p test f keeps rows)

pub found-changed : {R : Type 0} (number : R → ℕ) (n : ℕ) (test : R → Bool) (f : R → R)
    → ((r : R) → number (f r) ≡ number r) → (rows : List R)
    → is_some (find (λ r. number r == n) (changed test f rows)) ≡ is_some (find (λ r. number r == n) rows)
found-changed number n test f keeps [] = refl
found-changed number n test f keeps (r ∷ rows) =
    grind (arith, nat_tests, keeps r, found-changed number n test f keeps rows)

-- ---- the one row that passes a test is changed

-- where it did not pass, what another row gives is given still
pub any_kept : {R : Type 0} (p test : R → Bool) (f : R → R) (rows : List R) (row : R) → length (filter test rows) ≤ 1
    → find test rows ≡ Some row
    → p row ≡ false → list_any p rows ≡ true → list_any p (changed test f rows) ≡ true
any_kept p test f rows row once found fails any =
    let count = rw fails at (one_changed p test f rows row once found) in
    counts_any p (changed test f rows) (omega (arith, any_counts p rows any, count))

-- and it gives what it does then
pub any_changed : {R : Type 0} (p test : R → Bool) (f : R → R) (rows : List R) (row : R) → length (filter test rows) ≤ 1
    → find test rows ≡ Some row
    → p row ≡ false → p (f row) ≡ true → list_any p (changed test f rows) ≡ true
any_changed p test f rows row once found fails now =
    let count = rw (fails, now) at (one_changed p test f rows row once found) in
    counts_any p (changed test f rows) (omega (arith, count))

-- all pass still where it does then
pub rest_kept : {R : Type 0} (p test : R → Bool) (f : R → R) (rows : List R) (row : R) → length (filter test rows) ≤ 1
    → find test rows ≡ Some row
    → p (f row) ≡ true → list_all p rows ≡ true → list_all p (changed test f rows) ≡ true
rest_kept p test f rows row once found now all =
    let count = rw now at (one_changed (λ r. not (p r)) test f rows row once found) in
    counts_all p (changed test f rows) (omega (arith, all_counts p rows all, count))
