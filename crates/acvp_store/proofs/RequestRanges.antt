-- Requests in ranges of numbers.
use Rattle.std.proofs.Common.{◌≡◌, inl, inr, ◌<◌, ◌^◌, ℕ, zero, suc, List, length, true, Some, Ok, Err, Result, IfOk}
use Rattle.std.proofs.Common.{IsOk, refl, sym, ap, subst, arith}
use Rattle.std.specs.Str.{is_utf8}
use Rattle.serde_json.specs.Data.{Data}
use Rattle.acvp_tables.specs.declared.rows.RequestBody.TheVariants as body
use Rattle.acvp_store.specs.Ranges.{joined}
use Rattle.acvp_store.proofs.Words.{all-append, all-map, all_both, AllByRecursion, all_of, all_weaker, AreFull}
use Rattle.acvp_store.proofs.Words.{AreKept, AreRanges, AreShown, body_json, BodyReads, body_text, cases_Bool}
use Rattle.acvp_store.proofs.Words.{first_number, FitsBody, FitsRequest, FitsRequestBody, HoldsRequests, is_between}
use Rattle.acvp_store.proofs.Words.{IsJudgedBody, IsJudgedRequest, IsRange, IsReadable, IsRequestRow, IsTree, IsUtf8}
use Rattle.acvp_store.proofs.Words.{IsUtf8-from_is_utf8, last_number, RequestBody, request_columns, request_key}
use Rattle.acvp_store.proofs.Words.{RequestRow, request_row, request_shown, Row}
use Rattle.acvp_store.proofs.QueryRows.{all_known}
use Rattle.acvp_store.proofs.RangeJoins.{kept_tree, ranges_whole}
use Rattle.acvp_store.proofs.RangeStrays.{each_kept}

-- ---- what is asked of a request that is kept

pub text_of_json : (text : List ℕ) (d : Data) → body_json text ≡ Some d → IsUtf8 text
text_of_json text d is = elim (cases_Bool (is_utf8 text)) [
  | inl utf8 ↦ IsUtf8-from_is_utf8 text utf8
  | inr other ↦ absurd (let e = rw other at is in cc)
]

text_reads : (b : RequestBody) → BodyReads b → IsUtf8 (body_text b)
text_reads (body.Registration o) reads = text_of_json _ _ reads
text_reads (body.Certification c) reads = text_of_json _ _ reads.0

readable : (b : RequestBody) → FitsRequestBody b → BodyReads b → IsReadable b
readable (body.Registration o) fits reads = (fits.0, reads)
readable (body.Certification c) fits reads = (tt, reads)

fits_body : (b : RequestBody) → FitsRequestBody b → FitsBody b
fits_body (body.Registration o) fits = fits
fits_body (body.Certification c) fits = fits

-- it fits, and its text reads
abbrev pub IsHad : RequestRow → Type 0
IsHad r = FitsRequest r × BodyReads r.body

abbrev pub IsMember : RequestRow → Type 0
IsMember r = IsReadable r.body × ((r.account < 2 ^ 16) × FitsBody r.body × IsUtf8 (body_text r.body))

had : (r : RequestRow) → IsHad r → IsMember r
had r h = (readable r.body h.0.1 h.1, (h.0.0, fits_body r.body h.0.1, text_reads r.body h.1))

-- ---- what is read reads back

judged_reads : (b : RequestBody) → IsJudgedBody b → BodyReads b
judged_reads (body.Registration o) judged = judged.1
judged_reads (body.Certification c) judged = judged

texts : (rows : List Row) (found : List RequestRow) → AreShown IsJudgedRequest request_shown rows found
    → AllByRecursion (λ r. BodyReads r.body) found
texts rows found shows =
    all_weaker IsJudgedRequest (λ r. BodyReads r.body) (λ r is. judged_reads r.body is.1) found
    (all_known request_shown IsJudgedRequest rows found shows)

pub with_texts : {X B E F : Type 0} (f l : ℕ) (table : List Row) (outcome : Result X E) (rows_in : X → List Row)
    (found : Result B F) (items : B → List RequestRow) → (IsOk found → IsOk outcome)
    → IfOk found (λ b. IfOk outcome (λ x. AreShown IsJudgedRequest request_shown (rows_in x) (items b)))
    → IfOk found (λ b. IsTree table → AreFull 7 table
    → IsRange (AreKept request_key request_row) request_key f l table (items b))
    → IfOk found (λ b. IsTree table → AreFull 7 table → IsRange HoldsRequests request_key f l table (items b))
with_texts f l table outcome rows_in (Err e) items ok shows rows = tt
with_texts f l table (Err e) rows_in (Ok b) items ok shows rows = absurd (let impossible = ok refl in cc)
with_texts f l table (Ok x) rows_in (Ok b) items ok shows rows = λ tree full.
    let it = rows tree full in
    record {
      holds = record { kept = it.holds; texts = texts (rows_in x) (items b) shows };
      rising = it.rising;
    }

-- ---- a row that is of no request

pub each : (table : List Row) (list : List RequestRow) → AllByRecursion FitsRequest list → HoldsRequests table list
    → AllByRecursion (λ row. (r : RequestRow) × FitsRequest r × IsRequestRow row r) table
each table list fits holds =
    all_weaker (λ row. (r : RequestRow) × IsHad r × (row ≡ request_row r)) (λ row. (r : RequestRow) × FitsRequest r
    × IsRequestRow row r) (λ row is. (is.0, is.1.0, (is.2, is.1.1))) table
    (each_kept request_key request_row IsHad table list
    (all_both FitsRequest (λ r. BodyReads r.body) IsHad (λ r a b. (a, b)) list fits holds.texts) holds.kept)

pub shows : (row : Row) (r : RequestRow) → FitsRequest r → IsRequestRow row r → (x : RequestRow) × IsMember x
    × (request_columns row ≡ request_shown x)
shows row r fits is = (r, had r (fits, is.1), ap request_columns is.0)

-- ---- ranges, joined

module _ (rows : List Row) (lists : ℕ → List RequestRow) where
  joined_read : (n : ℕ) → AreRanges HoldsRequests request_key rows lists n
      → AllByRecursion (λ r. BodyReads r.body) (joined lists n)
  unfolding joined
  joined_read zero ranges = tt
  joined_read (suc n) ranges =
      all-append (λ (r : RequestRow). BodyReads r.body) (joined lists n) (lists (suc n))
      (joined_read n (λ u some low. ranges u some (omega arith)))
      (ranges (suc n) (omega arith) (omega arith)).holds.texts

  pub requests_whole : (n : ℕ) → IsTree rows → AreRanges HoldsRequests request_key rows lists n
      → AllByRecursion (λ row. is_between (first_number 1) (last_number n) row ≡ true) rows
      → HoldsRequests rows (joined lists n)
  requests_whole n tree ranges inside = record {
    kept = ranges_whole request_key request_row (λ r. refl) rows lists n tree
        (λ u some low. let it = ranges u some low in record { holds = it.holds.kept; rising = it.rising }) inside;
    texts = joined_read n ranges;
  }

pub requests_tree : (rows : List Row) (list : List RequestRow) → HoldsRequests rows list → IsTree rows
requests_tree rows list holds = kept_tree request_key request_row (λ r. refl) rows list holds.kept

full_row : (r : RequestRow) → length (request_row r) ≡ 7
full_row r = refl

pub requests_full : (rows : List Row) (list : List RequestRow) → HoldsRequests rows list → AreFull 7 rows
requests_full rows list holds =
    subst (AreFull 7) (sym holds.kept.rows_are)
    (all-map (λ (r : Row). length r ≡ 7) request_row holds.kept.ordered
    (all_of (λ r. length (request_row r) ≡ 7) full_row holds.kept.ordered))
