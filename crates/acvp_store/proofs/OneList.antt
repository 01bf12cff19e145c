-- Two lists that the same rows stand for have the same members.
use Rattle.std.proofs.Common.{◌≡◌, ◌<◌, ◌^◌, ℕ, List, [], ◌∷◌, map, Option, Some, None, refl, sym, ap, ap₂, subst, ◌∙◌}
use Rattle.std.proofs.Common.{arith}
use Rattle.acvp_answers.specs.Answer.{Answer}
use Rattle.acvp_answers.specs.Verdicts.{disposition_of}
use Rattle.acvp_answers.proofs.VerdictTextLemmas.{same_verdicts}
use Rattle.acvp_store.proofs.Words.{all-permutation, all_from_map, all_of, AllByRecursion, AllZip, AreKept, body_json}
use Rattle.acvp_store.proofs.Words.{Certification, Entry, entry_row, Environment, GradedValue, HoldsEntries}
use Rattle.acvp_store.proofs.Words.{HoldsReviewers, HoldsSets, IsGradedAs, IsKeepable, IsPermutation, IsPermutation-map}
use Rattle.acvp_store.proofs.Words.{IsPermutation-sym, IsPermutation-trans, IsSet, KeepsObjects, kept_answers}
use Rattle.acvp_store.proofs.Words.{kept_text, Kind, kind_number, Module, object_columns, object_text, ObjectRow}
use Rattle.acvp_store.proofs.Words.{pull_back, reviewer_columns, ReviewerRow, Row, set_key, set_row, SetColumns, SetRow}
use Rattle.acvp_store.proofs.Words.{Vendor, verdicts_text, ⊤}
use Rattle.acvp_store.proofs.SetRanges.{once}

-- ---- tables under one number

-- members that are kept in the same way are one
same_members : {A : Type 0} (Good : A → Type 0) (stored : A → Row) (one : (a b : A) → Good a → Good b
    → stored a ≡ stored b → a ≡ b) (xs ys : List A) → AllByRecursion Good xs → AllByRecursion Good ys
    → map stored xs ≡ map stored ys → xs ≡ ys
same_members Good stored one [] [] good well is = refl
same_members Good stored one (x ∷ xs) (y ∷ ys) good well is =
    let head : stored x ≡ stored y = cc in
    let rest : map stored xs ≡ map stored ys = cc in
    ap₂ (λ a l. a ∷ l) (one x y good.0 well.0 head) (same_members Good stored one xs ys good.1 well.1 rest)
same_members _ stored one _ _ good well is = absurd (cc)

pub same_kept : {A : Type 0} (key : A → ℕ) (Good : A → Type 0) (stored : A → Row) (one : (a b : A) → Good a → Good b
    → stored a ≡ stored b → a ≡ b) (rows : List Row) (xs ys : List A) → AllByRecursion Good xs → AllByRecursion Good ys
    → AreKept key stored rows xs → AreKept key stored rows ys → IsPermutation xs ys
same_kept key Good stored one rows xs ys good well a b =
    let first = all-permutation Good xs a.ordered (IsPermutation-sym _ _ a.same) good in
    let second = all-permutation Good ys b.ordered (IsPermutation-sym _ _ b.same) well in
    let is = same_members Good stored one a.ordered b.ordered first second (sym a.rows_are ∙ b.rows_are) in
    IsPermutation-trans _ a.ordered _ (IsPermutation-sym _ _ a.same) (subst (λ l. IsPermutation l ys) (sym is) b.same)

-- ---- tables under a key of two columns

pub same_entries : {A : Type 0} (Good : A → Type 0) (columns : A → Row) (one : (a b : A) → Good a → Good b
    → columns a ≡ columns b → a ≡ b) (rows : List Row) (xs ys : List A) → AllByRecursion Good xs
    → AllByRecursion Good ys → HoldsEntries columns rows xs → HoldsEntries columns rows ys → IsPermutation xs ys
same_entries {A = A} Good columns one rows xs ys good well a b =
    let first = all_from_map Good (λ (e : Entry A). e.row) a.entries
    (all-permutation Good xs _ (IsPermutation-sym _ _ a.same) good) in
    let second = all_from_map Good (λ (e : Entry A). e.row) b.entries
    (all-permutation Good ys _ (IsPermutation-sym _ _ b.same) well) in
    let is = rows_same a.entries b.entries first second (sym a.rows_are ∙ b.rows_are) in
    IsPermutation-trans _ (map (λ e. e.row) a.entries) _ (IsPermutation-sym _ _ a.same)
    (subst (λ l. IsPermutation l ys) (sym is) b.same)
  where
    rows_same : (es fs : List (Entry A)) → AllByRecursion (λ e. Good e.row) es → AllByRecursion (λ e. Good e.row) fs
        → map (entry_row columns) es ≡ map (entry_row columns) fs → map (λ e. e.row) es ≡ map (λ e. e.row) fs
    rows_same [] [] first second is = refl
    rows_same [] (f ∷ fs) first second is = absurd (cc)
    rows_same (e ∷ es) [] first second is = absurd (cc)
    rows_same (e ∷ es) (f ∷ fs) first second is =
        let head : columns e.row ≡ columns f.row = cc in
        let rest : map (entry_row columns) es ≡ map (entry_row columns) fs = cc in
        ap₂ (λ x l. x ∷ l) (one e.row f.row first.0 second.0 head) (rows_same es fs first.1 second.1 rest)

-- ---- reviewers

one_reviewer : (a b : ReviewerRow) → a.session < 2 ^ 63 → b.session < 2 ^ 63 → reviewer_columns a ≡ reviewer_columns b
    → a ≡ b
one_reviewer a b low high is =
    let session : a.session ≡ b.session = cc (is) in
    let account : a.account ≡ b.account = cc (is) in
    λ i. record { session = session i; account = account i }

pub same_reviewers : (rows : List Row) (xs ys : List ReviewerRow) → HoldsReviewers rows xs → HoldsReviewers rows ys
    → IsPermutation xs ys
same_reviewers rows xs ys a b =
    same_entries (λ r. r.session < 2 ^ 63) reviewer_columns one_reviewer rows xs ys a.fits b.fits a.kept b.kept

-- ---- objects

one_kind : (k l : Kind) → kind_number k ≡ kind_number l → k ≡ l
one_kind Vendor Vendor e = refl
one_kind Module Module e = refl
one_kind Environment Environment e = refl
one_kind Certification Certification e = refl
one_kind _ _ e = absurd (omega (arith, e))

one_object : (a b : ObjectRow) → IsKeepable a → IsKeepable b → object_columns a ≡ object_columns b → a ≡ b
one_object a b good well is =
    let number : a.number ≡ b.number = cc (is) in
    let account : a.account ≡ b.account = cc (is) in
    let kinds : kind_number a.object.kind ≡ kind_number b.object.kind = cc (is) in
    let kind = one_kind a.object.kind b.object.kind kinds in
    let text : object_text a.object ≡ object_text b.object = cc (is) in
    let values : Some a.object.value ≡ Some b.object.value = sym good.1 ∙ ap body_json text ∙ well.1 in
    let value : a.object.value ≡ b.object.value = cc (values) in
    λ i. record { number = number i; account = account i; object = record { kind = kind i; value = value i } }

pub same_objects : (rows : List Row) (xs ys : List ObjectRow) → KeepsObjects rows xs → KeepsObjects rows ys
    → IsPermutation xs ys
same_objects rows xs ys a b =
    same_entries IsKeepable object_columns one_object rows xs ys a.numbers b.numbers a.kept b.kept

-- ---- vector sets

one_answers : (text : List ℕ) (a b : List Answer) → text ≡ kept_text a → text ≡ kept_text b
    → kept_answers (kept_text a) ≡ Some a → kept_answers (kept_text b) ≡ Some b → a ≡ b
one_answers text a b is too first second = let both : Some a ≡ Some b = sym first ∙ ap kept_answers (sym is ∙ too)
    ∙ second in cc (both)

one_graded : (c : SetColumns) (g h : Option GradedValue) → IsGradedAs c g → IsGradedAs c h → g ≡ h
one_graded c None None is too = refl
one_graded c None (Some h) is too = absurd (let there : None ≡ Some (kept_text h.answers) = sym is.0 ∙ too.0 in cc)
one_graded c (Some g) None is too = absurd (let there : None ≡ Some (kept_text g.answers) = sym too.0 ∙ is.0 in cc)
one_graded c (Some g) (Some h) is too =
    let texts : Some (kept_text g.answers) ≡ Some (kept_text h.answers) = sym is.0 ∙ too.0 in
    let text : kept_text g.answers ≡ kept_text h.answers = cc (texts) in
    let answers = one_answers (kept_text g.answers) g.answers h.answers refl text is.5 too.5 in
    let letters : Some (verdicts_text g.verdicts) ≡ Some (verdicts_text h.verdicts) = sym is.1 ∙ too.1 in
    let verdicts = same_verdicts g.verdicts h.verdicts (cc (letters)) in
    let disposition : g.disposition ≡ h.disposition = is.6 ∙ ap disposition_of verdicts ∙ sym too.6 in
    ap Some (λ i. record { answers = answers i; verdicts = verdicts i; disposition = disposition i })

one_set : (c : SetColumns) (s t : SetRow) → IsSet c s → IsSet c t → s ≡ t
one_set c s t is too =
    let number = sym is.number ∙ too.number in
    let session = sym is.session ∙ too.session in
    let capabilities = sym is.capability ∙ too.capability in
    let capability : s.capability ≡ t.capability = cc (capabilities) in
    let cancelled = sym is.cancelled ∙ too.cancelled in
    let graded = one_graded c s.graded t.graded is.graded too.graded in
    let epoch = sym is.epoch ∙ too.epoch in
    λ i. record {
      number = number i;
      session = session i;
      capability = capability i;
      epoch = epoch i;
      cancelled =
          cancelled i;
      graded = graded i;
    }

record Pair : Type 0 where
  columns : SetColumns
  set : SetRow
  is : IsSet columns set

record Paired (columns : List SetColumns) (sets : List SetRow) : Type 0 where
  pairs : List Pair
  firsts : columns ≡ map (λ (p : Pair). p.columns) pairs
  seconds : sets ≡ map (λ (p : Pair). p.set) pairs

paired : (columns : List SetColumns) (sets : List SetRow) → AllZip IsSet columns sets → Paired columns sets
paired [] [] zip = record { pairs = []; firsts = refl; seconds = refl }
paired (c ∷ columns) (s ∷ sets) zip =
    let more = paired columns sets zip.1 in
    record {
      pairs = record { columns = c; set = s; is = zip.0 } ∷ more.pairs;
      firsts =
          ap (λ l. c ∷ l) more.firsts;
      seconds = ap (λ l. s ∷ l) more.seconds;
    }
paired _ _ zip = absurd zip

sets_of : (pairs : List Pair) (sets : List SetRow) → AllZip IsSet (map (λ (p : Pair). p.columns) pairs) sets
    → map (λ (p : Pair). p.set) pairs ≡ sets
sets_of [] [] zip = refl
sets_of (p ∷ pairs) (s ∷ sets) zip =
    ap₂ (λ x l. x ∷ l) (one_set p.columns p.set s p.is zip.0) (sets_of pairs sets zip.1)
sets_of _ _ zip = absurd zip

pub same_sets : (rows : List Row) (xs ys : List SetRow) → HoldsSets rows xs → HoldsSets rows ys → IsPermutation xs ys
same_sets rows xs ys a b =
    let any = λ (columns : List SetColumns). all_of (λ (c : SetColumns). ⊤) (λ c. tt) columns in
    let columns = same_kept set_key (λ c. ⊤) set_row (λ c d here there is. once c d is) rows a.columns b.columns
    (any a.columns) (any b.columns) a.kept b.kept in
    let first = paired a.columns xs a.same in
    let back = pull_back (λ (p : Pair). p.columns) a.columns b.columns columns first.pairs first.firsts in
    let seconds = sets_of back.0 ys (subst (λ l. AllZip IsSet l ys) back.2 b.same) in
    let moved = IsPermutation-map (λ (p : Pair). p.set) first.pairs back.0 back.1 in
    subst (λ l. IsPermutation l ys) (sym first.seconds)
    (subst (IsPermutation (map (λ (p : Pair). p.set) first.pairs)) seconds moved)
