-- Rows of a table under a key of two columns in ranges of numbers.
use Rattle.std.proofs.Common.{◌≡◌, inl, inr, ◌<◌, ◌≤◌, ◌<ℤ◌, ℕ, zero, suc, ℤ, List, [], ◌∷◌, ◌++◌, map, length, take}
use Rattle.std.proofs.Common.{int_lt, Bool, true, false, IsTrue, refl, sym, ap, ap₂, subst, ◌∙◌, arith, Less}
use Rattle.std.specs.Prelude.{◌&&◌, ◌||◌}
use Rattle.acvp_store.specs.Ranges.{joined}
use Rattle.acvp_store.proofs.Words.{all-append, all-filter, all-map, all-permutation, all_from_map, all_of, all_weaker}
use Rattle.acvp_store.proofs.Words.{AllByRecursion, AreShown, ascending-filter, ascending-map, ascending_from_map}
use Rattle.acvp_store.proofs.Words.{ascending_weaker, BeginsWith, cases_Bool, column, Entry, entry_row, filter}
use Rattle.acvp_store.proofs.Words.{filter_none, first_number, HoldsEntries, Int, ints, is_int, is_lt}
use Rattle.acvp_store.proofs.Words.{is_number_between, IsAscending, IsPermutation, IsPermutation-append}
use Rattle.acvp_store.proofs.Words.{IsPermutation-cons, IsPermutation-middle, IsPermutation-refl, IsPermutation-sym}
use Rattle.acvp_store.proofs.Words.{IsPermutation-trans, IsTable, IsTree, last_number, nat_tests, pull_back, Row, rowid}
use Rattle.acvp_store.proofs.Words.{Value, value_cmp, value_cmp-Int}

-- ---- what is shown

-- a row that is no longer than what it begins with is that
begins_exact : (columns row : Row) → length row ≡ length columns → BeginsWith columns row → row ≡ columns
begins_exact [] [] same is = refl
begins_exact (v ∷ columns) (w ∷ row) same is =
    let head : w ≡ v = cc (is) in
    let rest : take (length columns) row ≡ columns = cc (is) in
    ap₂ (λ x l. x ∷ l) head (begins_exact columns row (omega (arith, same)) rest)
begins_exact _ _ same is = absurd (omega (arith, same))

pub shown_exactly : {A : Type 0} (columns : A → Row) (width : ℕ) (fills : (a : A) → length (columns a) ≡ width)
    (Good : A → Type 0) (rows : List Row) (found : List A) → AllByRecursion (λ r. length r ≡ width) rows
    → AreShown Good columns rows found → rows ≡ map columns found
shown_exactly columns width fills Good [] [] full shows = refl
shown_exactly columns width fills Good (r ∷ rows) (a ∷ found) full shows =
    ap₂ (λ x l. x ∷ l) (begins_exact (columns a) r (full.0 ∙ sym (fills a)) shows.0.0)
    (shown_exactly columns width fills Good rows found full.1 shows.1)
shown_exactly columns width fills _ _ _ full shows = absurd shows

-- ---- numbers that the database chose

its_number : (v : Value) → IsTrue (is_int v) → (n : ℤ) × (v ≡ Int n)
its_number (Int n) good = (n, refl)
its_number _ good = absurd (cc)

lower_id : (m n : ℤ) → value_cmp (Int m) (Int n) ≡ Less → m <ℤ n
lower_id m n low =
    let test : is_lt (value_cmp (Int m) (Int n)) ≡ int_lt m n = ap is_lt (value_cmp-Int m n) ∙ grind (arith, ints) in
    let is : int_lt m n ≡ true = sym test ∙ ap is_lt low in
    grind (arith, ints, is)

higher_id : (m n : ℤ) → m <ℤ n → value_cmp (Int m) (Int n) ≡ Less
higher_id m n low = value_cmp-Int m n ∙ grind (arith, ints, low)

abbrev below : Row → Row → Type 0
below x y = value_cmp (rowid x) (rowid y) ≡ Less

module _ {A : Type 0} (columns : A → Row) where
  abbrev encode : Entry A → Row
  encode = entry_row columns

  abbrev rows_of : List (Entry A) → List A
  rows_of entries = map (λ e. e.row) entries

  rising : (rows : List Row) (entries : List (Entry A)) → rows ≡ map encode entries → IsTable rows
      → IsAscending (λ a b. a.id <ℤ b.id) entries
  rising rows entries is rise =
      ascending_weaker (λ a b. below (encode a) (encode b)) (λ a b. a.id <ℤ b.id)
      (λ a b lower. lower_id a.id b.id lower) entries
      (ascending_from_map below encode entries (subst IsTable is rise))

  -- rows that stand for a list lie as those of a tree do
  pub entries_tree : (rows : List Row) (list : List A) → HoldsEntries columns rows list → IsTree rows
  entries_tree rows list holds =
      let rise = ascending-map below encode holds.entries
      (ascending_weaker (λ a b. a.id <ℤ b.id) (λ a b. below (encode a) (encode b))
      (λ a b low. higher_id a.id b.id low) holds.entries holds.rising) in
      let ints = all-map (λ (r : Row). IsTrue (is_int (rowid r))) encode holds.entries
      (all_of (λ e. IsTrue (is_int (rowid (encode e)))) (λ e. refl) holds.entries) in
      subst IsTree (sym holds.rows_are) (rise, ints)

  -- each row is that of a member
  pub each_entry : (Good : A → Type 0) (rows : List Row) (list : List A) → AllByRecursion Good list
      → HoldsEntries columns rows list
      → AllByRecursion (λ row. (a : A) × Good a × ((id : ℤ) × (row ≡ encode (record { id = id; row = a })))) rows
  each_entry Good rows list good holds =
      let Of : Row → Type 0 = λ row. (a : A) × Good a × ((id : ℤ) × (row ≡ encode (record { id = id; row = a }))) in
      let members = all_from_map Good (λ (e : Entry A). e.row) holds.entries
      (all-permutation Good list _ (IsPermutation-sym _ _ holds.same) good) in
      subst (AllByRecursion Of) (sym holds.rows_are)
      (all-map Of encode holds.entries
      (all_weaker (λ (e : Entry A). Good e.row) (λ e. Of (encode e))
      (λ e is. (e.row, is, (e.id, refl))) holds.entries members))

  -- ---- the rows of a range stand for what is told of their columns

  module _ (shown : Row → Row) (Typed : Row → Type 0) (row_is : (row : Row) (a : A) → Typed row → shown row ≡ columns a
      → row ≡ column row 0 ∷ columns a) where
    record Encoded (rows : List Row) (list : List A) : Type 0 where
      entries : List (Entry A)
      rows_are : rows ≡ map encode entries
      members : rows_of entries ≡ list

    encoded : (rows : List Row) (list : List A) → AllByRecursion Typed rows
        → AllByRecursion (λ r. IsTrue (is_int (rowid r))) rows → map shown rows ≡ map columns list → Encoded rows list
    encoded [] [] typed whole is = record { entries = []; rows_are = refl; members = refl }
    encoded (r ∷ rows) (a ∷ list) typed whole is =
        let head : shown r ≡ columns a = cc in
        let rest : map shown rows ≡ map columns list = cc in
        let more = encoded rows list typed.1 whole.1 rest in
        let number = its_number (rowid r) whole.0 in
        let row : r ≡ Int number.0 ∷ columns a = row_is r a typed.0 head ∙ ap (λ v. v ∷ columns a) number.1 in
        record {
          entries = record { id = number.0; row = a } ∷ more.entries;
          rows_are = ap₂ (λ x l. x ∷ l) row more.rows_are;
          members = ap (λ l. a ∷ l) more.members;
        }
    encoded _ _ typed whole is = absurd (cc)

    pub entries_hold : (p : Row → Bool) (table rows : List Row) (found : List A) → IsTree table
        → AllByRecursion Typed table → IsPermutation (map shown (filter p table)) rows → rows ≡ map columns found
        → HoldsEntries columns (filter p table) found
    entries_hold p table rows found tree typed same is =
        let picked = filter p table in
        let back = pull_back columns (map columns found) (map shown picked)
        (IsPermutation-sym _ _ (subst (IsPermutation (map shown picked)) is same)) found refl in
        let it = encoded picked back.0 (all-filter Typed p table typed)
        (all-filter (λ r. IsTrue (is_int (rowid r))) p table tree.1) back.2 in
        record {
          entries = it.entries;
          rows_are = it.rows_are;
          rising = rising picked it.entries it.rows_are (ascending-filter below p table tree.0);
          same = subst (λ xs. IsPermutation xs found) (sym it.members) (IsPermutation-sym _ _ back.1);
        }

  -- ---- two parts of the rows

  record Merged (rows : List Row) (es fs : List (Entry A)) : Type 0 where
    entries : List (Entry A)
    rows_are : rows ≡ map encode entries
    same : IsPermutation (rows_of entries) (rows_of es ++ rows_of fs)

  -- what passes p passes q or r, and never both
  abbrev pub IsParted : (p q r : Row → Bool) → Row → Type 0
  IsParted p q r x = (p x ≡ (q x || r x)) × ((q x && r x) ≡ false)

  module _ (p q r : Row → Bool) where
    merged : (rows : List Row) → AllByRecursion (IsParted p q r) rows → (es fs : List (Entry A))
        → filter q rows ≡ map encode es → filter r rows ≡ map encode fs → Merged (filter p rows) es fs
    merged [] parted [] [] is js = record { entries = []; rows_are = refl; same = IsPermutation-refl [] }
    merged [] parted (e ∷ es) fs is js = absurd (cc)
    merged [] parted [] (f ∷ fs) is js = absurd (cc)
    merged (x ∷ rows) parted es fs is js = elim (cases_Bool (q x)) [
      | inl first ↦
          let apart : r x ≡ false = rw first at parted.0.1 in
          let passes : p x ≡ true = parted.0.0 ∙ ap (λ b. b || r x) first in
          rw passes (in_first (merged rows parted.1) es (rw first at is) (rw apart at js))
      | inr not_first ↦ elim (cases_Bool (r x)) [
        | inl second ↦
            let passes : p x ≡ true = parted.0.0 ∙ ap₂ (λ a b. a || b) not_first second in
            rw passes (in_second (merged rows parted.1) fs (rw not_first at is) (rw second at js))
        | inr neither ↦
            let fails : p x ≡ false = parted.0.0 ∙ ap₂ (λ a b. a || b) not_first neither in
            rw fails (merged rows parted.1 es fs (rw not_first at is) (rw neither at js))
      ]
    ]
      where
        in_first : ((xs ys : List (Entry A)) → filter q rows ≡ map encode xs → filter r rows ≡ map encode ys
            → Merged (filter p rows) xs ys) → (es : List (Entry A)) → x ∷ filter q rows ≡ map encode es
            → filter r rows ≡ map encode fs → Merged (x ∷ filter p rows) es fs
        in_first more [] is js = absurd (cc)
        in_first more (e ∷ es) is js =
            let head : x ≡ encode e = cc (is) in
            let rest : filter q rows ≡ map encode es = cc (is) in
            let it = more es fs rest js in
            record {
              entries = e ∷ it.entries;
              rows_are = ap₂ (λ a l. a ∷ l) head it.rows_are;
              same =
                  IsPermutation-cons e.row _ _ it.same;
            }

        in_second : ((xs ys : List (Entry A)) → filter q rows ≡ map encode xs → filter r rows ≡ map encode ys
            → Merged (filter p rows) xs ys) → (fs : List (Entry A)) → filter q rows ≡ map encode es
            → x ∷ filter r rows ≡ map encode fs → Merged (x ∷ filter p rows) es fs
        in_second more [] is js = absurd (cc)
        in_second more (f ∷ fs) is js =
            let head : x ≡ encode f = cc (js) in
            let rest : filter r rows ≡ map encode fs = cc (js) in
            let it = more es fs is rest in
            record {
              entries = f ∷ it.entries;
              rows_are = ap₂ (λ a l. a ∷ l) head it.rows_are;
              same = IsPermutation-trans _ (f.row ∷ (rows_of es ++ rows_of fs)) _ (IsPermutation-cons f.row _ _ it.same)
                  (IsPermutation-sym _ _ (IsPermutation-middle (rows_of es) f.row (rows_of fs)));
            }

    pub both_hold : (rows : List Row) (xs ys : List A) → IsTree rows → AllByRecursion (IsParted p q r) rows
        → HoldsEntries columns (filter q rows) xs → HoldsEntries columns (filter r rows) ys
        → HoldsEntries columns (filter p rows) (xs ++ ys)
    both_hold rows xs ys tree parted a b =
        let it = merged rows parted a.entries b.entries a.rows_are b.rows_are in
        record {
          entries = it.entries;
          rows_are = it.rows_are;
          rising = rising (filter p rows) it.entries it.rows_are (ascending-filter below p rows tree.0);
          same = IsPermutation-trans _ (rows_of a.entries ++ rows_of b.entries) _ it.same
              (IsPermutation-append _ _ _ _ a.same b.same);
        }

  pub none_hold : HoldsEntries columns [] []
  none_hold = record { entries = []; rows_are = refl; rising = tt; same = IsPermutation-refl [] }

  -- ---- the ranges of all accounts, joined, of rows whose numbers are whole

  module _ (test : ℕ → ℕ → Row → Bool) where
    -- it passes where something else is so and its number lies between the two
    abbrev pub IsNumbered : Row → Type 0
    IsNumbered x = (b : Bool) × (n : ℕ) × ((f l : ℕ) → test f l x ≡ (b && is_number_between f l n))

    next_range : (k : ℕ) (x : Row) → IsNumbered x
        → IsParted (test (first_number 1) (last_number (suc k))) (test (first_number 1) (last_number k))
        (test (first_number (suc k)) (last_number (suc k))) x
    next_range k x is = rw (
      is.2 (first_number 1) (last_number (suc k)),
      is.2 (first_number 1) (last_number k),
      is.2 (first_number (suc k)) (last_number (suc k)),
    ) (passes is.0)
      where
        passes : (b : Bool) → ((b && is_number_between (first_number 1) (last_number (suc k)) is.1)
            ≡ ((b && is_number_between (first_number 1) (last_number k) is.1) ||
            (b && is_number_between (first_number (suc k)) (last_number (suc k)) is.1)))
            × (((b && is_number_between (first_number 1) (last_number k) is.1) &&
            (b && is_number_between (first_number (suc k)) (last_number (suc k)) is.1)) ≡ false)
        passes false = (refl, refl)
        passes true = (grind (arith, nat_tests), grind (arith, nat_tests))

    no_range : (x : Row) → IsNumbered x → test (first_number 1) (last_number zero) x ≡ false
    no_range x is = is.2 (first_number 1) (last_number zero) ∙ fails is.0
      where
        fails : (b : Bool) → (b && is_number_between (first_number 1) (last_number zero) is.1) ≡ false
        fails false = refl
        fails true = grind (arith, nat_tests)

    pub entries_joined : (rows : List Row) (lists : ℕ → List A) (n : ℕ) → IsTree rows → AllByRecursion IsNumbered rows
        → ((u : ℕ) → 0 < u → u ≤ n
        → HoldsEntries columns (filter (test (first_number u) (last_number u)) rows) (lists u))
        → HoldsEntries columns (filter (test (first_number 1) (last_number n)) rows) (joined lists n)
    unfolding joined
    entries_joined rows lists zero tree numbered ranges =
        let none = filter_none (test (first_number 1) (last_number zero)) rows
        (all_weaker IsNumbered (λ x. test (first_number 1) (last_number zero) x ≡ false) no_range rows numbered) in
        subst (λ rs. HoldsEntries columns rs []) (sym none) none_hold
    entries_joined rows lists (suc n) tree numbered ranges =
        both_hold (test (first_number 1) (last_number (suc n))) (test (first_number 1) (last_number n))
        (test (first_number (suc n)) (last_number (suc n))) rows (joined lists n) (lists (suc n)) tree
        (all_weaker IsNumbered (IsParted (test (first_number 1) (last_number (suc n)))
        (test (first_number 1) (last_number n)) (test (first_number (suc n)) (last_number (suc n))))
        (next_range n) rows numbered)
        (entries_joined rows lists n tree numbered (λ u some low. ranges u some (omega arith)))
        (ranges (suc n) (omega arith) (omega arith))

-- what is so of each of the lists is so of their members together
pub joined_all : {A : Type 0} (P : A → Type 0) (lists : ℕ → List A) (n : ℕ)
    → ((u : ℕ) → 0 < u → u ≤ n → AllByRecursion P (lists u)) → AllByRecursion P (joined lists n)
unfolding joined
joined_all P lists zero each = tt
joined_all P lists (suc n) each =
    all-append P (joined lists n) (lists (suc n)) (joined_all P lists n (λ u some low. each u some (omega arith)))
    (each (suc n) (omega arith) (omega arith))
