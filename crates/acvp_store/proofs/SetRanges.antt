-- Vector sets in ranges of numbers.
use Rattle.std.proofs.Common.{◌≡◌, ◌≢◌, inl, inr, ◌<◌, ℕ, zero, suc, ℤ, List, [], ◌∷◌, ◌++◌, map, length, true, Option}
use Rattle.std.proofs.Common.{Some, None, Ok, Err, Result, IfOk, IfErr, IsOk, refl, sym, ap, subst, ◌∙◌, arith}
use Rattle.std.specs.Str.{is_utf8, IsAscii}
use Rattle.acvp_answers.specs.Answer.{Answer}
use Rattle.acvp_answers.specs.declared.verdict.Verdict.{Verdict}
use Rattle.acvp_answers.specs.declared.verdict.Verdict.TheVariants.{Passed, Missing, Fail}
use Rattle.acvp_json.specs.KeptAnswers.{kept_answers}
use Rattle.acvp_store.proofs.Words.{all-append, all-map, all-permutation, all-slice_get, AllByRecursion, AllZip}
use Rattle.acvp_store.proofs.Words.{are_typed, AreKept, AreRangesBetween, AreShown, AreTexts, BeginsWith, cases_Bool}
use Rattle.acvp_store.proofs.Words.{column, Database, drop, filter, first_set, FitsSet, flag, GradedValue, HasStray}
use Rattle.acvp_store.proofs.Words.{HasStrayRow, HasStraySet, HoldsSets, Int, is_between, IsAscending, IsDatabase}
use Rattle.acvp_store.proofs.Words.{IsGradedAs, IsOkAnd, IsPermutation, IsPermutation-sym, IsRange, IsSet, IsSetRow}
use Rattle.acvp_store.proofs.Words.{IsTable, IsText, IsTree, IsUtf8, IsUtf8-from_ascii, IsUtf8-from_is_utf8, joined}
use Rattle.acvp_store.proofs.Words.{KeepsSets, last_set, Layout, MatchOption, MatchResult, Null, option_map, or_null}
use Rattle.acvp_store.proofs.Words.{RangeFault, Row, schema_of, set_columns, set_key, set_number, set_row, set_table}
use Rattle.acvp_store.proofs.Words.{set_tree, SetColumns, SetRow, Stray, Text, Value, verdicts_text, whole, whole_shown}
use Rattle.acvp_store.proofs.Words.{⊤}
use Rattle.acvp_store.proofs.Readings.{SetRange, answers, set_terms}
use Rattle.acvp_store.proofs.Places.{sets_at, sets_seen}
use Rattle.acvp_store.proofs.RangeColumns.{Meets, Orders, left_true, not_longer, null_is, range_in_order, range_met}
use Rattle.acvp_store.proofs.RangeColumns.{typed_at, with_null}
use Rattle.acvp_store.proofs.RangeJoins.{flag_once, option_once, kept_tree, kept_nothing, kept_both, sets_whole}
use Rattle.acvp_store.proofs.RangeStrays.{row_shown, zip_at, stray_row, stray_shown}
use Rattle.acvp_store.proofs.Writings.{set_place}

-- ---- what the schema says of a row

abbrev pub IsSetTyped : Row → Type 0
IsSetTyped row = are_typed (Some 0) 0 (set_table 4).columns (drop 1 row) ≡ true

pub sets_typed : (layout : Layout) (db : Database) → db.schema ≡ schema_of layout → IsDatabase db
    → AllByRecursion IsSetTyped (db.trees (set_tree layout))
sets_typed layout db schema sound =
    typed_at layout db schema sound (set_place layout) (set_table (set_tree layout)) (sets_at layout)

pub set_is : (row : Row) (s : SetColumns) → IsSetTyped row → BeginsWith (whole_shown s) (set_columns row)
    → row ≡ set_row s
set_is (a ∷ k ∷ b ∷ c ∷ d ∷ e ∷ f ∷ g ∷ h ∷ []) s typed is =
    ap (λ v. a ∷ v ∷ b ∷ c ∷ d ∷ e ∷ f ∷ g ∷ h ∷ []) (null_is k (left_true _ _ typed)) ∙ ap with_null is
set_is (a ∷ k ∷ b ∷ c ∷ d ∷ e ∷ f ∷ g ∷ h ∷ i ∷ row) s typed is =
    absurd (let few = not_longer (Some 0) 0 (set_table 4).columns (k ∷ b ∷ c ∷ d ∷ e ∷ f ∷ g ∷ h ∷ i ∷ row) typed in
    omega (arith, few))
set_is _ s typed is = absurd (cc)

-- ---- what is read of a row

pub text_column : {X : Type 0} (bytes : X → List ℕ) (v : Value) (o : Option X)
    → MatchOption o (v ≡ Null) (λ x. (v ≢ Null) × (v ≡ Text (bytes x))) → v ≡ or_null Text (option_map bytes o)
text_column bytes v None is = is
text_column bytes v (Some x) is = is.1

pub number_column : (v : Value) (o : Option ℕ) → MatchOption o (v ≡ Null) (λ n. (v ≢ Null) × (v ≡ whole n))
    → v ≡ or_null whole o
number_column v None is = is
number_column v (Some n) is = is.1

pub begins : (row : Row) (s : SetColumns) → 7 < length row → column row 0 ≡ whole s.number
    → column row 1 ≡ whole s.session → column row 2 ≡ Text s.capability → column row 3 ≡ flag s.cancelled
    → column row 4 ≡ or_null Text s.answers → column row 5 ≡ or_null Text s.verdicts
    → column row 6 ≡ or_null whole s.disposition → column row 7 ≡ whole s.epoch → BeginsWith (whole_shown s) row
begins (a ∷ b ∷ c ∷ d ∷ e ∷ f ∷ g ∷ h ∷ row) s long number session capability cancelled answers verdicts disposition
    epoch =
    λ i. number i ∷ session i ∷ capability i ∷ cancelled i ∷ answers i ∷ verdicts i ∷ disposition i ∷ epoch i ∷ []
begins _ s long number session capability cancelled answers verdicts disposition epoch = absurd (omega (arith, long))

-- ---- what the queries meet

pub sets_met : (layout : Layout) → Meets SetRange layout (set_tree layout) set_columns
sets_met layout =
    range_met SetRange layout (set_tree layout) set_columns set_terms refl (sets_seen layout) (λ params row. refl)

pub sets_in_order : (layout : Layout) → Orders SetRange layout (set_tree layout) set_columns
sets_in_order layout =
    range_in_order SetRange layout (set_tree layout) set_columns set_terms refl (sets_seen layout) (λ params row. refl)

-- ---- the rows of a range stand for what is told of their columns

numbers_above : (c : SetColumns) (s : SetRow) → c.number ≡ s.number → (columns : List SetColumns) (sets : List SetRow)
    → AllZip IsSet columns sets → AllByRecursion (λ d. set_key c < set_key d) columns
    → AllByRecursion (λ t. set_number s < set_number t) sets
numbers_above c s same [] [] zip low = tt
numbers_above c s same [] (t ∷ sets) zip low = absurd zip
numbers_above c s same (d ∷ columns) [] zip low = tt
numbers_above c s same (d ∷ columns) (t ∷ sets) zip low = (
  subst (λ n. n < t.number) same (subst (λ n. c.number < n) zip.0.number low.0),
  numbers_above c s same columns sets zip.1 low.1,
)

sets_rise : (columns : List SetColumns) (sets : List SetRow) → AllZip IsSet columns sets
    → IsAscending (λ c d. set_key c < set_key d) columns → IsAscending (λ s t. set_number s < set_number t) sets
sets_rise [] [] zip up = tt
sets_rise [] (s ∷ sets) zip up = absurd zip
sets_rise (c ∷ columns) [] zip up = tt
sets_rise (c ∷ columns) (s ∷ sets) zip up =
    (numbers_above c s zip.0.number columns sets zip.1 up.0, sets_rise columns sets zip.1 up.1)

all_shown : (rows : List Row) (columns : List SetColumns) → AreShown (λ c. IsUtf8 c.capability) whole_shown rows columns
    → AllByRecursion (λ c. IsUtf8 c.capability) columns
all_shown [] [] shows = tt
all_shown [] (c ∷ columns) shows = absurd shows
all_shown (r ∷ rows) [] shows = tt
all_shown (r ∷ rows) (c ∷ columns) shows = (shows.0.1, all_shown rows columns shows.1)

pub rows_through : {X B C E F G : Type 0} (f l : ℕ) (table : List Row) (outcome : Result X E) (rows_in : X → List Row)
    (found : Result B F) (items : B → List SetColumns) (result : Result C G) (told : C → List SetRow)
    → (IsOk found → IsOk outcome) → (IsOk result → IsOk found)
    → IfOk found (λ b. IfOk outcome (λ x. AreShown (λ c. IsUtf8 c.capability) whole_shown (rows_in x) (items b)))
    → IfOk result (λ s. IfOk found (λ b. AllZip IsSet (items b) (told s)))
    → IfOk found (λ b. IsTree table → IsRange (AreKept set_key set_row) set_key f l table (items b))
    → IfOk result (λ s. IsTree table → IsRange KeepsSets set_number f l table (told s))
rows_through f l table outcome rows_in found items (Err e) told ok_found ok_result shows zips rows = tt
rows_through f l table outcome rows_in (Err e) items (Ok s) told ok_found ok_result shows zips rows =
    absurd (let impossible = ok_result refl in cc)
rows_through f l table (Err e) rows_in (Ok b) items (Ok s) told ok_found ok_result shows zips rows =
    absurd (let impossible = ok_found refl in cc)
rows_through f l table (Ok x) rows_in (Ok b) items (Ok s) told ok_found ok_result shows zips rows = λ tree.
    let it = rows tree in
    record {
      holds = record {
        kept = record { columns = items b; kept = it.holds; same = zips };
        texts =
            all_shown (rows_in x) (items b) shows;
      };
      rising = sets_rise (items b) (told s) zips it.rising;
    }

-- ---- the columns of one set

text_once : (a b : Option (List ℕ)) → or_null Text a ≡ or_null Text b → a ≡ b
text_once None None is = refl
text_once (Some m) (Some n) is = cc
text_once _ _ is = absurd (cc)

pub once : (a b : SetColumns) → set_row a ≡ set_row b → a ≡ b
once a b is =
    let number : a.number ≡ b.number = cc (is) in
    let session : a.session ≡ b.session = cc (is) in
    let capability : a.capability ≡ b.capability = cc (is) in
    let cancelled = flag_once a.cancelled b.cancelled (cc (is)) in
    let answers = text_once a.answers b.answers (cc (is)) in
    let verdicts = text_once a.verdicts b.verdicts (cc (is)) in
    let disposition = option_once a.disposition b.disposition (cc (is)) in
    let epoch : a.epoch ≡ b.epoch = cc (is) in
    λ i. record {
      number = number i;
      session = session i;
      capability = capability i;
      cancelled = cancelled i;
      answers =
          answers i;
      verdicts = verdicts i;
      disposition = disposition i;
      epoch = epoch i;
    }

-- ---- its texts

kept_utf8 : (text : List ℕ) (answers : List Answer) → kept_answers text ≡ Some answers → IsUtf8 text
unfolding kept_answers
kept_utf8 text answers is = elim (cases_Bool (is_utf8 text)) [
  | inl utf8 ↦ IsUtf8-from_is_utf8 text utf8
  | inr other ↦ absurd (let e = rw other at is in cc)
]

letters : (verdicts : List Verdict) → IsAscii (verdicts_text verdicts)
letters [] i = omega arith
letters (Passed ∷ verdicts) zero = omega arith
letters (Missing ∷ verdicts) zero = omega arith
letters (Fail ∷ verdicts) zero = omega arith
letters (v ∷ verdicts) (suc i) = letters verdicts i

text_of : (text : Option (List ℕ)) (is : List ℕ) → text ≡ Some is → IsUtf8 is → IsText text
text_of None is e utf8 = tt
text_of (Some text) is e utf8 = let same : text ≡ is = cc in subst IsUtf8 (sym same) utf8

no_text : (text : Option (List ℕ)) → text ≡ None → IsText text
no_text None e = tt
no_text (Some text) e = absurd (cc)

texts : (c : SetColumns) (g : Option GradedValue) → IsGradedAs c g → IsUtf8 c.capability → AreTexts c
texts c None is utf8 = (utf8, no_text c.answers is.0, no_text c.verdicts is.1)
texts c (Some g) is utf8 = (
  utf8,
  text_of c.answers _ is.0 (kept_utf8 _ g.answers is.5),
  text_of c.verdicts _ is.1 (IsUtf8-from_ascii _ (letters g.verdicts)),
)

-- ---- a row that is of no set

abbrev IsOne : SetColumns → Type 0
IsOne c = (s : SetRow) × FitsSet s × IsSetRow (set_row c) s

of_one : (columns : List SetColumns) (sets : List SetRow) → AllZip IsSet columns sets
    → AllByRecursion (λ c. IsUtf8 c.capability) columns → AllByRecursion IsOne columns
of_one [] [] zip utf8 = tt
of_one (c ∷ columns) (s ∷ sets) zip utf8 = ((s, tt, (c, refl, zip.0, utf8.0)), of_one columns sets zip.1 utf8.1)
of_one _ _ zip utf8 = absurd zip

each : (rows : List Row) (sets : List SetRow) → AllByRecursion FitsSet sets → KeepsSets rows sets
    → AllByRecursion (λ row. (s : SetRow) × FitsSet s × IsSetRow row s) rows
each rows sets fits keeps =
    let holds = keeps.kept in
    let ordered = all-permutation IsOne holds.columns holds.kept.ordered (IsPermutation-sym _ _ holds.kept.same)
    (of_one holds.columns sets holds.same keeps.texts) in
    subst (AllByRecursion (λ row. (s : SetRow) × FitsSet s × IsSetRow row s)) (sym holds.kept.rows_are)
    (all-map (λ row. (s : SetRow) × FitsSet s × IsSetRow row s) set_row holds.kept.ordered ordered)

abbrev Columns : SetColumns → Type 0
Columns c = ⊤ × AreTexts c

shows : (row : Row) (s : SetRow) → FitsSet s → IsSetRow row s → (c : SetColumns) × Columns c
    × (set_columns row ≡ whole_shown c)
shows row s fits is = (is.0, (tt, texts is.0 s.graded is.2.graded is.3), ap set_columns is.1)

-- the columns of a row that is met are those of no set
stray_columns : (f l : ℕ) (table rows : List Row) (found : List SetColumns) (number : ℤ)
    → AllByRecursion IsSetTyped table → IsPermutation (map set_columns (filter (is_between f l) table)) rows
    → AreShown (λ c. IsUtf8 c.capability) whole_shown rows found → HasStraySet number found
    → HasStrayRow KeepsSets IsSetRow FitsSet (is_between f l) 0 number table
stray_columns f l table rows found number typed same shown stray =
    let at = zip_at (λ row c. BeginsWith (whole_shown c) row × IsUtf8 c.capability) rows found shown stray.place
    stray.columns stray.there in
    let row = row_shown set_columns (is_between f l) table rows same stray.place at.0 at.1 in
    let is = set_is row.0 stray.columns (all-slice_get IsSetTyped table row.1.0 row.0 row.1.1 typed)
    (subst (BeginsWith (whole_shown stray.columns)) (sym row.2) at.2.0) in
    stray_row KeepsSets IsSetRow FitsSet each (is_between f l) 0 number table row.0 row.1 row.3
    (ap (λ r. column r 0) is ∙ ap Int stray.is)
    (λ s fits other. stray.of_none s (subst (λ c. IsSet c s) (once other.0 stray.columns (sym other.1 ∙ is)) other.2))

pub stray_through : {X B C E : Type 0} (f l : ℕ) (table : List Row) (outcome : Result X E) (rows_in : X → List Row)
    (found : Result B RangeFault) (items : B → List SetColumns) (result : Result C RangeFault)
    → (IsOk found → IsOk outcome)
    → IfOk found (λ b. IfOk outcome (λ x. AreShown (λ c. IsUtf8 c.capability) whole_shown (rows_in x) (items b)))
    → IfErr found (λ fault. (number : ℤ) → fault ≡ Stray number
    → IsOkAnd outcome (λ x. HasStray Columns whole_shown 0 number (rows_in x)))
    → IfErr result (λ fault. (number : ℤ) → fault ≡ Stray number
    → MatchResult found (λ b. HasStraySet number (items b)) (λ before. before ≡ Stray number))
    → AllByRecursion IsSetTyped table
    → IfOk outcome (λ x. IsPermutation (map set_columns (filter (is_between f l) table)) (rows_in x))
    → IfErr result (λ fault. (number : ℤ) → fault ≡ Stray number
    → HasStrayRow KeepsSets IsSetRow FitsSet (is_between f l) 0 number table)
stray_through f l table outcome rows_in found items (Ok s) ok shown strays same typed rows = tt
stray_through f l table (Err e) rows_in (Ok b) items (Err fault) ok shown strays same typed rows =
    absurd (let impossible = ok refl in cc)
stray_through f l table (Err e) rows_in (Err before) items (Err fault) ok shown strays same typed rows =
    λ number is. absurd (strays number (same number is))
stray_through f l table (Ok x) rows_in (Ok b) items (Err fault) ok shown strays same typed rows =
    λ number is. stray_columns f l table (rows_in x) (items b) number typed rows shown (same number is)
stray_through f l table (Ok x) rows_in (Err before) items (Err fault) ok shown strays same typed rows = λ number is.
    stray_shown KeepsSets IsSetRow FitsSet each Columns whole_shown set_columns 0 0 (λ r. refl) shows
    (is_between f l) table (rows_in x) number rows (strays number (same number is))

-- ---- ranges, joined

zip_append : (columns more : List SetColumns) (sets others : List SetRow) → AllZip IsSet columns sets
    → AllZip IsSet more others → AllZip IsSet (columns ++ more) (sets ++ others)
zip_append [] more [] others a b = b
zip_append (c ∷ columns) more (s ∷ sets) others a b = (a.0, zip_append columns more sets others a.1 b)
zip_append _ more _ others a b = absurd a

keeps_none : KeepsSets [] []
keeps_none = record {
  kept =
      record { columns = []; kept = kept_nothing set_key set_row (λ c. refl); same = tt };
  texts = tt;
}

keeps_both : (first second : List Row) (xs ys : List SetRow) → KeepsSets first xs → KeepsSets second ys
    → IsTable (first ++ second) → KeepsSets (first ++ second) (xs ++ ys)
keeps_both first second xs ys a b rise = record {
  kept = record {
    columns = a.kept.columns ++ b.kept.columns;
    kept = kept_both set_key set_row
        (λ c. refl) first second a.kept.columns b.kept.columns a.kept.kept b.kept.kept rise;
    same = zip_append a.kept.columns b.kept.columns xs ys a.kept.same b.kept.same;
  };
  texts = all-append (λ (c : SetColumns). IsUtf8 c.capability) a.kept.columns b.kept.columns a.texts b.texts;
}

pub sets_joined : (rows : List Row) (lists : ℕ → List SetRow) (n : ℕ) → IsTree rows
    → AreRangesBetween first_set last_set KeepsSets set_number rows lists n
    → AllByRecursion (λ row. is_between (first_set 1) (last_set n) row ≡ true) rows → KeepsSets rows (joined lists n)
sets_joined = sets_whole KeepsSets set_number keeps_none keeps_both

pub sets_tree : (rows : List Row) (sets : List SetRow) → HoldsSets rows sets → IsTree rows
sets_tree rows sets holds = kept_tree set_key set_row (λ c. refl) rows holds.columns holds.kept
