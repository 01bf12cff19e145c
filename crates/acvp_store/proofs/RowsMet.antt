-- Which rows a query by a number or a session's range meets, and that those of vector sets are judged.
use Rattle.std.proofs.Common.{◌≡◌, ◌<◌, ◌^◌, ◌+◌, ◌*◌, ℕ, List, [], ◌∷◌, map, Option, Some, None, refl, ◌∙◌}
use Rattle.acvp_caps.specs.Capability.{CapabilityValue}
use Rattle.acvp_store.proofs.Words.{account_columns, account_tree, AllByRecursion, AllZip, capability_column, col}
use Rattle.acvp_store.proofs.Words.{column, columns_of_object, eval_all, filter, is_live_row, is_of, IsJudged}
use Rattle.acvp_store.proofs.Words.{IsJudgedWhole, IsOfCapability, IsPermutation, IsSummary, IsSummaryOf, Layout}
use Rattle.acvp_store.proofs.Words.{object_tree, option_to_list, overlay, read_columns, ReadColumns, request_columns}
use Rattle.acvp_store.proofs.Words.{request_tree, Row, schema_of, session_columns, session_tree, set_tree, SetSummary}
use Rattle.acvp_store.proofs.Words.{short_columns, ShortColumns, Shown, State, status_columns, TellsCapability, whole}
use Rattle.acvp_store.proofs.Words.{Value}
use Rattle.acvp_store.proofs.QueryRows.{IsFitting, test_from, test_until, test_other, selected_in_order, MeetsUnder}
use Rattle.acvp_store.proofs.QueryRows.{rows_under}
use Rattle.acvp_store.proofs.QueryForms.{equals}
use Rattle.acvp_store.proofs.Readings.{AccountAt, CapabilityAt, ObjectAt, RequestAt, SessionAt, SetAt, SetsOf, StatusAt}
use Rattle.acvp_store.proofs.Readings.{account_terms, answers, live_terms, object_terms, read_terms, reading_text}
use Rattle.acvp_store.proofs.Readings.{request_terms, session_terms, short_terms, status_terms}
use Rattle.acvp_store.proofs.Parts.{both_true}
use Rattle.acvp_store.proofs.Places.{sets_seen}
use Rattle.acvp_store.proofs.SessionSets.{three_true}
use Rattle.acvp_store.proofs.SelectedRows.{null_flag, selected}
use Rattle.acvp_store.proofs.Versions.{map_same, test_whole}

-- ---- vector sets

short_shown_of : (params : Row) (r : Row) → eval_all short_terms (params ∷ r ∷ []) ≡ short_columns r
short_shown_of params r = rw (null_flag (column r 5)) refl

pub set_met : (layout : Layout) → MeetsUnder SetAt layout (set_tree layout) read_columns
set_met layout = rows_under SetAt layout (set_tree layout) read_terms refl (sets_seen layout) read_columns (λ k r. refl)

pub sets_met : (layout : Layout) (s : ℕ) (old new : State) (rows : List Row) → old.now.schema ≡ schema_of layout
    → Shown (reading_text SetsOf) (whole (s * 100) ∷ whole (s * 100 + 99) ∷ []) old new rows
    → IsPermutation (map short_columns (filter (is_live_row s) (old.now.trees (set_tree layout)))) rows
sets_met layout s old new rows schema h =
    let params = whole (s * 100) ∷ whole (s * 100 + 99) ∷ [] in
    selected_in_order params (λ (r : Row). r) (is_live_row s) live_terms
    (λ r. three_true _ _ _ _ _ _ (test_from (column r 0) (s * 100)) (test_until (column r 0) (s * 100 + 99))
    (test_other (column r 4) 1)) 0 (set_tree layout) short_terms short_columns (short_shown_of params)
    (overlay old.now.trees []) (old.now.trees (set_tree layout)) rows (sets_seen layout old.now.trees ∙ map_same _)
    (answers SetsOf layout params old new rows schema h)

pub judged_one : (found : Option ReadColumns) (told : Option SetSummary) → IsSummaryOf found told
    → AllByRecursion IsJudgedWhole (option_to_list found)
judged_one None told is = tt
judged_one (Some c) None is = absurd is
judged_one (Some c) (Some s) is = ((is.0, (s.disposition, is.1.disposition)), tt)

pub judged_each : (found : List ShortColumns) (told : List SetSummary) → AllZip IsSummary found told
    → AllByRecursion IsJudged found
judged_each [] told is = tt
judged_each (c ∷ found) [] is = absurd is
judged_each (c ∷ found) (s ∷ told) is = ((s.disposition, is.0.disposition), judged_each found told is.1)

pub capability_met : (layout : Layout) → MeetsUnder CapabilityAt layout (set_tree layout) capability_column
capability_met layout = rows_under CapabilityAt layout (set_tree layout) (col 1 3 ∷ []) refl (sets_seen layout)
    capability_column (λ k r. refl)

pub told_one : (found : Option (Option (List ℕ))) (told : Option CapabilityValue) → TellsCapability found told
    → AllByRecursion IsOfCapability (option_to_list found)
told_one None told is = tt
told_one (Some column) None is = absurd is
told_one (Some column) (Some told) is = ((told, is), tt)

-- ---- accounts and sessions

pub account_met : (layout : Layout) → MeetsUnder AccountAt layout account_tree account_columns
account_met layout =
    rows_under AccountAt layout account_tree account_terms refl (λ trees. refl) account_columns (λ k r. refl)

pub session_met : (layout : Layout) → MeetsUnder SessionAt layout session_tree session_columns
session_met layout = rows_under SessionAt layout session_tree session_terms refl (λ trees. refl) session_columns
    (λ k r. refl)

-- ---- requests

pub request_met : (layout : Layout) → MeetsUnder RequestAt layout request_tree request_columns
request_met layout = rows_under RequestAt layout request_tree request_terms refl (λ trees. refl) request_columns
    (λ k r. refl)

pub status_met : (layout : Layout) → MeetsUnder StatusAt layout request_tree status_columns
status_met layout = rows_under StatusAt layout request_tree status_terms refl (λ trees. refl) status_columns
    (λ k r. refl)

-- ---- objects

pub object_met : (layout : Layout) (kind n : ℕ) (k : Value) → n < 2 ^ 63 → IsFitting n k
    → (old new : State) (rows : List Row) → old.now.schema ≡ schema_of layout
    → Shown (reading_text ObjectAt) (whole kind ∷ k ∷ []) old new rows
    → IsPermutation (map columns_of_object (filter (is_of kind n) (old.now.trees object_tree))) rows
object_met layout kind n k low fits old new rows schema h =
    selected (whole kind ∷ k ∷ []) (λ (r : Row). r) (is_of kind n) (equals 1 0 ∷ equals 2 1 ∷ [])
    (λ r. both_true _ _ _ _ (test_whole (column r 1) kind) (rw (fits low) (test_whole (column r 2) n))) object_tree
    object_terms columns_of_object (λ r. refl)
    (overlay old.now.trees []) (old.now.trees object_tree) rows (map_same _)
    (answers ObjectAt layout (whole kind ∷ k ∷ []) old new rows schema h)
