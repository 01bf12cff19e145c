-- The statements on vector sets.
use Rattle.std.proofs.Common.{◌≡◌, inl, inr, ◌<◌, ◌^◌, ℕ, List, [], ◌∷◌, ◌++◌, ◌+◌, ◌*◌, map, length, append_assoc}
use Rattle.std.proofs.Common.{true, false, Option, Some, None, Ok, Result, IfOk, IsOk, slice_get, refl, sym, ap, subst}
use Rattle.std.proofs.Common.{◌∙◌, arith}
use Rattle.std.specs.Prelude.{◌==◌, if◌then◌else◌}
use Rattle.acvp_caps.specs.Capability.{CapabilityValue}
use Rattle.acvp_caps.specs.Registered.{registered_text}
use Rattle.acvp_answers.specs.Verdicts.{disposition_of}
use Rattle.acvp_answers.specs.declared.verdict.Verdict.{Verdict}
use Rattle.acvp_answers.specs.declared.verdict.Disposition.{Disposition}
use Rattle.acvp_answers.specs.declared.verdict.Disposition.TheVariants.{Passed, Fail, Missing}
use Rattle.acvp_store.proofs.Words.{AllByRecursion, ⊤}
use Rattle.acvp_store.proofs.Words.{AddsSets, AllZip, Alters, AreKept, AreVerdictsOf, Binary, binary, Both}
use Rattle.acvp_store.proofs.Words.{cancelled_set, cases_Bool, cast_row, changed, col, Database, disposition_number}
use Rattle.acvp_store.proofs.Words.{Does, eval_all, find, flag, GradedValue, HoldsSets, Is, is_none, is_set}
use Rattle.acvp_store.proofs.Words.{IsDispositionOf, IsGiven, IsGradedAs, IsPermutation, IsSet, IsSummary, IsSummaryOf}
use Rattle.acvp_store.proofs.Words.{kept_answers, kept_text, Layout, map-map, mode_of, new_set, new_sets, Null}
use Rattle.acvp_store.proofs.Words.{option_map, or_null, read_of, read_shown, Row, schema_of, set_at, set_key, set_row}
use Rattle.acvp_store.proofs.Words.{set_summary, set_table, set_tree, set_verdicts, SetColumns, SetRow, SetSummary}
use Rattle.acvp_store.proofs.Words.{short_of, short_shown, ShortColumns, State, Tally, TellsCapability, Term, Text}
use Rattle.acvp_store.proofs.Words.{text_shown, UnderStore, verdicts_text, whole, with_graded, zip_push, Value}
use Rattle.acvp_store.proofs.Keyed.{keyed, changing, keyed_same, find_is}
use Rattle.acvp_store.proofs.Parts.{cast_null, cast_whole, cast_flag, cast_option, cast_text_option}
use Rattle.acvp_store.proofs.SelectedRows.{null_flag}
use Rattle.acvp_store.proofs.Effects.{insert_effect, spares_then, update_effect}
use Rattle.acvp_store.proofs.Places.{sets_at, sets_seen}
use Rattle.acvp_store.proofs.QueryForms.{equals, simple}
use Rattle.acvp_store.proofs.Readings.{CapabilityAt, Reading, SetAt, VerdictsAt, answers, read_terms, reading_query}
use Rattle.acvp_store.proofs.Readings.{short_terms}
use Rattle.acvp_store.proofs.Writings.{Effects, SetAdded, SetCancelled, SetGraded, set_place, update, updating}
use Rattle.acvp_store.proofs.Writings.{writing_terms}
use Rattle.acvp_store.proofs.QueryRows.{ShowsAt, rows_at}
use Rattle.acvp_store.proofs.Told.{told_through, unread}

abbrev pub set_shown : SetColumns → Row
set_shown c = short_shown (short_of c)

-- ---- the columns that are read of a set

null_is : (o : Option (List ℕ)) → binary (Is Binary) (or_null Text o) Null ≡ flag (is_none o)
null_is None = null_flag Null
null_is (Some text) = null_flag (Text text)

pub short_shows : (params : Row) (c : SetColumns) → eval_all short_terms (params ∷ set_row c ∷ []) ≡ set_shown c
short_shows params c = rw (null_is c.answers) refl

-- where no disposition is that of the letters and the number, the columns are those of no set
pub not_given : (c : ShortColumns) (text : List ℕ) (number : ℕ) → c.verdicts ≡ Some text → c.disposition ≡ Some number
    → ((d : Disposition) → ¬ IsGiven text number d) → (d : Option Disposition) → ¬ IsDispositionOf c d
not_given c text number v n none None is = let impossible : Some text ≡ None = sym v ∙ is.1 in cc
not_given c text number v n none (Some d) is =
    let both : Some text ≡ Some (verdicts_text is.1) = sym v ∙ is.2 in
    let same : text ≡ verdicts_text is.1 = cc in
    none d (is.1, same, is.3, sym is.4 ∙ n)

-- ---- the rows of a number

set_rows_at : (r : Reading) (layout : Layout) (project : List Term) → reading_query r layout
    ≡ simple (set_tree layout) (equals 0 0 ∷ []) project
    → (show : SetColumns → Row) → ((k : Value) (c : SetColumns) → eval_all project ((k ∷ []) ∷ set_row c ∷ []) ≡ show c)
    → ShowsAt r layout (set_tree layout) set_key set_row show
set_rows_at r layout project is show shows =
    rows_at r layout (set_tree layout) project is (sets_seen layout) set_key set_row show (λ c. refl) shows

pub set_rows : (layout : Layout) → ShowsAt SetAt layout (set_tree layout) set_key set_row (λ c. read_shown (read_of c))
set_rows layout = set_rows_at SetAt layout read_terms refl (λ c. read_shown (read_of c)) (λ k c. refl)

pub capability_rows : (layout : Layout)
    → ShowsAt CapabilityAt layout (set_tree layout) set_key set_row (λ c. text_shown (Some c.capability))
capability_rows layout =
    set_rows_at CapabilityAt layout (col 1 3 ∷ []) refl (λ c. text_shown (Some c.capability)) (λ k c. refl)

pub verdict_rows : (layout : Layout)
    → ShowsAt VerdictsAt layout (set_tree layout) set_key set_row (λ c. text_shown c.verdicts)
verdict_rows layout = set_rows_at VerdictsAt layout (col 1 6 ∷ []) refl (λ c. text_shown c.verdicts) (λ k c. refl)

-- ---- what they tell

abbrev back : ℕ → Disposition
back n = if n == 0 then Fail else (if n == 1 then Missing else Passed)

back_is : (d : Disposition) (n : ℕ) → disposition_number d ≡ Some n → back n ≡ d
back_is Fail n h = let e : 0 ≡ n = cc in subst (λ k. back k ≡ Fail) e refl
back_is Missing n h = let e : 1 ≡ n = cc in subst (λ k. back k ≡ Missing) e refl
back_is Passed n h = let e : 2 ≡ n = cc in subst (λ k. back k ≡ Passed) e refl
back_is _ n h = absurd (cc)

told : (c : SetColumns) (g : Option GradedValue) (d : Option Disposition) → IsGradedAs c g
    → IsDispositionOf (short_of c) d → d ≡ option_map (λ (g : GradedValue). g.disposition) g
told c None None h is = refl
told c None (Some d) h is = absurd (let is_there : c.verdicts ≡ Some (verdicts_text is.1) = is.2 in
    let is_not : c.verdicts ≡ None = h.1 in cc)
told c (Some g) None h is = absurd (let is_not : c.verdicts ≡ None = is.1 in
    let is_there : c.verdicts ≡ Some (verdicts_text g.verdicts) = h.1 in cc)
told c (Some g) (Some d) h is = ap Some (sym (back_is d h.2 (sym is.4 ∙ h.3)) ∙ back_is g.disposition h.2 h.4)

pub summary_is : (c : SetColumns) (row : SetRow) (s : SetSummary) → IsSet c row → IsSummary (short_of c) s
    → s ≡ set_summary row
summary_is c row s h is =
    let number = is.number ∙ h.number in
    let session = is.session ∙ h.session in
    let epoch = is.epoch ∙ h.epoch in
    let cancelled = is.cancelled ∙ h.cancelled in
    let disposition = told c row.graded s.disposition h.graded is.disposition in
    λ i. record {
      number = number i;
      session = session i;
      epoch = epoch i;
      cancelled = cancelled i;
      disposition =
          disposition i;
    }

pub none_told : (s : Option SetSummary) → IsSummaryOf None s → s ≡ None
none_told None h = refl
none_told (Some s) h = absurd h

pub one_told : (c : SetColumns) (row : SetRow) (s : Option SetSummary) → IsSet c row → IsSummaryOf (Some (read_of c)) s
    → s ≡ Some (set_summary row)
one_told c row None h is = absurd is
one_told c row (Some s) h is = ap Some (summary_is c row s h is.1)

-- ---- the whole: of the columns of the set of a number, as `shown`, a query's answer tells what `pick` has of the set

module _ {B Y : Type 0} (of : SetColumns → B) (Tells : Option B → Y → Type 0) (pick : Option SetRow → Y)
    (none : (y : Y) → Tells None y → y ≡ pick None)
    (some : (c : SetColumns) (row : SetRow) (y : Y) → IsSet c row → Tells (Some (of c)) y → y ≡ pick (Some row))
    (n : ℕ) where
  told_of : (columns : List SetColumns) (sets : List SetRow) (y : Y) → AllZip IsSet columns sets
      → Tells (option_map of (find (λ c. c.number == n) columns)) y → y ≡ pick (set_at n sets)
  told_of [] [] y h is = none y is
  told_of (c ∷ columns) (r ∷ sets) y h is = elim (cases_Bool (r.number == n)) [
    | inl same ↦ let at : (c.number == n) ≡ true = ap (λ k. k == n) h.0.number ∙ same in
        rw same (some c r y h.0 (rw at at is))
    | inr apart ↦ let at : (c.number == n) ≡ false = ap (λ k. k == n) h.0.number ∙ apart in
        rw apart (told_of columns sets y h.1 (rw at at is))
  ]
  told_of _ _ y h is = absurd h

  first_of : (xs : List SetColumns) → slice_get (map of xs) 0 ≡ option_map of (slice_get xs 0)
  first_of [] = refl
  first_of (x ∷ xs) = refl

  module _ {X Z E F G : Type 0} (shown : B → Row) (view : Z → Y) (table : List Row) (rows_in : X → List Row) where
    pub find_told : (outcome : Result X E) (found : Result (Option B) F) (result : Result Z G)
        → (IsOk found → IsOk outcome) → (IsOk result → IsOk found)
        → IfOk found (λ b. IfOk outcome (λ x. (list : List B) → AllByRecursion (λ _. ⊤) list
        → IsPermutation (map shown list) (rows_in x) → b ≡ slice_get list 0))
        → IfOk result (λ z. IfOk found (λ b. Tells b (view z)))
        → IfOk outcome (λ x. (list : List SetColumns) (kept : AreKept set_key set_row table list)
        → IsPermutation (map (λ c. shown (of c)) (keyed set_key n kept.ordered)) (rows_in x))
        → IfOk result (λ z. (sets : List SetRow) → HoldsSets table sets → view z ≡ pick (set_at n sets))
    find_told outcome found result ok_found ok_result =
        told_through outcome found result ok_found ok_result _ _ _ _ (λ x b z one tells rows sets h.
        let all = keyed set_key n h.kept.ordered in
        let is : b ≡ slice_get (map of all) 0 = one (map of all)
        (unread _) (rw (map-map shown of all) (rows h.columns h.kept)) in
        let at : b ≡ option_map of (find (λ (c : SetColumns). c.number == n) h.columns) =
        is ∙ first_of all ∙ ap (option_map of)
        (ap (λ l. slice_get l 0) (keyed_same set_key n h.kept.ordered h.columns h.kept.rising h.kept.same)
        ∙ sym (find_is set_key n h.columns)) in
        told_of h.columns sets (view z) h.same (subst (λ o. Tells o (view z)) at tells))

-- ---- what the texts tell

pub capability_some : (c : SetColumns) (row : SetRow) (told : Option CapabilityValue) → IsSet c row
    → TellsCapability (Some (Some c.capability)) told → told ≡ Some row.capability
capability_some c row None h is = absurd is
capability_some c row (Some told) h is = cc (h.capability)

verdicts_none : (told : Option (List Verdict)) (column : Option (List ℕ)) → column ≡ None → AreVerdictsOf column told
    → told ≡ None
verdicts_none told None e is = is
verdicts_none told (Some text) e is = absurd (cc)

verdicts_some : (told : Option (List Verdict)) (column : Option (List ℕ)) (verdicts : List Verdict)
    → column ≡ Some (verdicts_text verdicts) → AreVerdictsOf column told → told ≡ Some verdicts
verdicts_some told None verdicts e is = absurd (cc)
verdicts_some told (Some text) verdicts e is = is verdicts (cc)

pub verdicts_told : (c : SetColumns) (row : SetRow) (told : Option (List Verdict)) → IsSet c row
    → AreVerdictsOf c.verdicts told → told ≡ set_verdicts row
verdicts_told c row told h is = go row.graded h.graded
  where
    go : (g : Option GradedValue) → IsGradedAs c g → told ≡ option_map (λ (g : GradedValue). g.verdicts) g
    go None none = verdicts_none told c.verdicts none.1 is
    go (Some g) some = verdicts_some told c.verdicts g.verdicts some.1 is

-- ---- one set changed

-- a change of the columns and one of the set go together
zip_changed : (n : ℕ) (f : SetColumns → SetColumns) (g : SetRow → SetRow)
    → ((c : SetColumns) (row : SetRow) → IsSet c row → IsSet (f c) (g row))
    → (columns : List SetColumns) (sets : List SetRow) → AllZip IsSet columns sets
    → AllZip IsSet (map (changing set_key n f) columns) (changed (is_set n) g sets)
zip_changed n f g turns [] [] h = tt
zip_changed n f g turns (c ∷ columns) (r ∷ sets) h = (
  elim (cases_Bool (r.number == n)) [
    | inl same ↦ let at : (c.number == n) ≡ true = ap (λ k. k == n) h.0.number ∙ same in rw (at, same) (turns c r h.0)
    | inr apart ↦ let at : (c.number == n) ≡ false = ap (λ k. k == n) h.0.number ∙ apart in rw (at, apart) h.0
  ],
  zip_changed n f g turns columns sets h.1,
)
zip_changed n f g turns _ _ h = absurd h

casts : (tree : ℕ) (c : SetColumns) → cast_row (set_table tree) (set_row c) ≡ set_row c
casts tree c = rw (cast_whole c.number, cast_null, cast_whole c.session, cast_flag c.cancelled)
    (rw (cast_text_option c.answers, cast_text_option c.verdicts)
    (rw (cast_option c.disposition, cast_whole c.epoch) refl))

-- An UPDATE of the set of a number
module _ (layout : Layout) (old : State) (n : ℕ) (terms : List Term) (more : Row) (f : SetColumns → SetColumns)
    (keeps : (c : SetColumns) → (f c).number ≡ c.number)
    (shows : (c : SetColumns) → eval_all (updating terms) ((whole n ∷ more) ∷ set_row c ∷ [])
    ≡ whole c.number ∷ set_row (f c))
    (g : SetRow → SetRow) (turns : (c : SetColumns) (row : SetRow) → IsSet c row → IsSet (f c) (g row)) where
  set_effect : old.now.schema ≡ schema_of layout → (tally : Tally) (after : Database)
      → Does old.step_limit (mode_of old) (whole n ∷ more) old.now [] None
      (update (set_place layout) (set_tree layout) terms) (Ok (tally, after))
      → Alters layout (set_tree layout) HoldsSets (changed (is_set n) g) old.now after
  set_effect schema tally after does =
      let tree = set_tree layout in
      let made = update_effect layout set_key set_row (λ x. refl) (set_place layout) (set_table tree) (sets_at layout)
      (sets_seen layout) (casts tree) terms n more f keeps shows old schema tally after does in
      record {
        schema = made.schema;
        kept = λ sets h. record {
          columns = map (changing set_key n f) h.columns;
          kept =
              made.kept h.columns h.kept;
          same = zip_changed n f g turns h.columns sets h.same;
        };
        others = made.others;
      }

-- ---- a cancelled set

abbrev off : SetColumns → SetColumns
off c = record c { cancelled = true }

graded_off : (c : SetColumns) (g : Option GradedValue) → IsGradedAs c g → IsGradedAs (off c) g
graded_off c None h = h
graded_off c (Some g) h = h

pub cancel_set_effect : (layout : Layout) (old : State) (n : ℕ)
    → Effects SetCancelled layout (whole n ∷ []) old
    (Alters layout (set_tree layout) HoldsSets (changed (is_set n) cancelled_set))
cancel_set_effect layout old n =
    set_effect layout old n (writing_terms SetCancelled) [] off (λ c. refl) (λ c. refl) cancelled_set
    (λ c row is. record {
      number = is.number;
      session = is.session;
      capability = is.capability;
      cancelled =
          refl;
      graded = graded_off c row.graded is.graded;
      epoch = is.epoch;
    })

-- ---- answers to a set

abbrev answered : List ℕ → List ℕ → ℕ → SetColumns → SetColumns
answered answers verdicts disposition c =
    record c { answers = Some answers; verdicts = Some verdicts; disposition = Some disposition }

abbrev pub grade_params : ℕ → List ℕ → List ℕ → ℕ → Row
grade_params n answers verdicts disposition = whole n ∷ Text answers ∷ Text verdicts ∷ whole disposition ∷ []

-- the columns are those of graded answers
pub grade_effect : (layout : Layout) (old : State) (n : ℕ) (g : GradedValue) (answers verdicts : List ℕ)
    (disposition : ℕ)
    → answers ≡ kept_text g.answers → kept_answers answers ≡ Some g.answers → verdicts ≡ verdicts_text g.verdicts
    → disposition_number g.disposition ≡ Some disposition → g.disposition ≡ disposition_of g.verdicts
    → Effects SetGraded layout (grade_params n answers verdicts disposition) old
    (Alters layout (set_tree layout) HoldsSets (changed (is_set n) (with_graded g)))
grade_effect layout old n g answers verdicts disposition a back v d given =
    set_effect layout old n (writing_terms SetGraded) (Text answers ∷ Text verdicts ∷ whole disposition ∷ [])
    (answered answers verdicts disposition) (λ c. refl) (λ c. refl) (with_graded g)
    (λ c row is. record {
      number = is.number;
      session = is.session;
      capability = is.capability;
      cancelled =
          is.cancelled;
      graded = (
        ap Some a,
        ap Some v,
        disposition,
        refl,
        d,
        subst (λ t. kept_answers t ≡ Some g.answers) a back,
        given,
      );
      epoch = is.epoch;
    })

-- ---- a new set

abbrev new_columns : ℕ → ℕ → List ℕ → ℕ → SetColumns
new_columns number session text epoch =
    record {
      number = number;
      session = session;
      capability = text;
      cancelled = false;
      answers = None;
      verdicts =
          None;
      disposition = None;
      epoch = epoch;
    }

abbrev pub add_set_params : ℕ → ℕ → List ℕ → ℕ → Row
add_set_params number session text epoch = whole number ∷ whole session ∷ Text text ∷ whole epoch ∷ []

pub add_set_effect : (layout : Layout) (old : State) (number session : ℕ) (capability : CapabilityValue) (text : List ℕ)
    (epoch : ℕ)
    → registered_text text ≡ Ok (Some capability) → number < 2 ^ 63
    → Effects SetAdded layout (add_set_params number session text epoch) old
    (AddsSets layout (new_set number session capability epoch ∷ []))
add_set_effect layout old number session capability text epoch reads low schema tally after does =
    let columns = new_columns number session text epoch in
    let made = insert_effect layout set_key set_row (λ x. refl) (set_place layout) _ _ _ _ (sets_at layout)
    (casts (set_tree layout))
    (writing_terms SetAdded) 9 (add_set_params number session text epoch) columns refl low old schema tally after
    does in
    let is : IsSet columns (new_set number session capability epoch) = record {
      number = refl;
      session = refl;
      capability = reads;
      cancelled = refl;
      graded = (refl, refl, refl);
      epoch = refl;
    } in
    record {
      schema = made.schema;
      kept = λ sets h. record {
        columns = h.columns ++ columns ∷ [];
        kept = made.kept h.columns h.kept;
        same = zip_push IsSet h.columns sets _ _ h.same is;
      };
      others = made.others;
    }

-- ---- new sets, one after the other

-- a set more
pub one_more : (mores news : List SetRow) (d e : Database)
    → Both (UnderStore (λ layout. AddsSets layout mores)) (UnderStore (λ layout. AddsSets layout news)) d e
    → UnderStore (λ layout. AddsSets layout (mores ++ news)) d e
one_more mores news d e h layout schema =
    let begun = h.1 layout schema in
    let first = begun.1 in
    let ended = h.2 layout first.schema in
    let second = ended.1 in (
      λ sound. ended.0 (begun.0 sound),
      record {
        schema = second.schema;
        kept = λ sets held. rw (← append_assoc sets mores news) (second.kept _ (first.kept sets held));
        others = spares_then layout (set_tree layout) d.trees h.0.trees e.trees first.others second.others;
      },
    )

-- the sets of one capability more
pub sets_more : (session epoch i : ℕ) (done : List CapabilityValue) (capability : CapabilityValue)
    → new_sets session epoch i (done ++ capability ∷ []) ≡ new_sets session epoch i done
    ++ new_set (session * 100 + (i + length done)) session capability epoch ∷ []
sets_more session epoch i [] capability = let at : i ≡ i + 0 = omega arith in
    ap (λ k. new_set (session * 100 + k) session capability epoch ∷ []) at
sets_more session epoch i (c ∷ done) capability =
    let at : (i + 1) + length done ≡ i + length (c ∷ done) = omega arith in
    ap (λ l. new_set (session * 100 + i) session c epoch ∷ l) (sets_more session epoch (i + 1) done capability
    ∙ ap (λ k. new_sets session epoch (i + 1) done ++ new_set (session * 100 + k) session capability epoch ∷ []) at)
