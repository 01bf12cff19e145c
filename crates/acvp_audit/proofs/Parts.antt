-- Where rows stand for a list, the rows in a range stand for the list's members in it; and two lists that the same rows
-- stand for have the same members.
use Rattle.std.proofs.Common.{◌≡◌, ◌<◌, ◌^◌, ℕ, Bool, true, false, List, [], ◌∷◌, ◌++◌, map, length, codes, decimal}
use Rattle.std.proofs.Common.{Some, refl, sym, ap, subst, ◌∙◌, inl, inr, arith}
use Rattle.acvp_caps.specs.Json.{number_at, text_at}
use Rattle.std.specs.Prelude.{◌&&◌, ◌==◌, if◌then◌else◌}
use Rattle.std.specs.List.{AllByRecursion, AllZip, filter, list_all}
use Rattle.std.specs.List.Sorted.{IsPermutation}
use Rattle.std.specs.Ordering.{is_le, is_ge}
use Rattle.std.proofs.lemmas.Bool.{cases_Bool}
use Rattle.std.proofs.lemmas.Fmt.{decimal_injective}
use Rattle.std.proofs.lemmas.List.{append_cancel_left}
use Rattle.std.proofs.lemmas.List.Sorted.{length_permutation}
use Rattle.sqlite_trees.proofs.ListLemmas.{all_of, all_both, all-filter, ascending-filter, filter-filter, filter-map}
use Rattle.sqlite_trees.proofs.ListLemmas.{filter_same, IsPermutation-filter}
use Rattle.sqlite_trees.specs.Tree.{rowid}
use Rattle.sqlite_value.specs.Order.{Row, value_cmp}
use Rattle.acvp_registry.specs.Json.{body_json}
use Rattle.acvp_registry.specs.Object.{is_registered}
use Rattle.acvp_registry.specs.declared.kind.Kind.{Kind}
use Rattle.acvp_registry.specs.declared.kind.Kind.TheVariants.{Vendor, Module, Environment, Certification}
use Rattle.acvp_tables.specs.Content.{kind_number}
use Rattle.acvp_tables.specs.declared.rows.SetRow.{SetRow}
use Rattle.acvp_tables.specs.declared.rows.ObjectRow.{ObjectRow}
use Rattle.acvp_tables.specs.declared.rows.RequestRow.{RequestRow}
use Rattle.acvp_tables.specs.declared.rows.RequestBody.{RequestBody}
use Rattle.acvp_tables.specs.declared.rows.RequestBody.TheVariants as body
use Rattle.acvp_tables.specs.declared.rows.RequestStatus.{RequestStatus}
use Rattle.acvp_tables.specs.declared.rows.RequestStatus.TheVariants as status
use Rattle.acvp_tables.specs.declared.rows.Certification.{Certification as Certified}
use Rattle.acvp_tables.specs.declared.rows.ReviewerRow.{ReviewerRow}
use Rattle.acvp_tables.specs.State.{given_number}
use Rattle.acvp_store.specs.Kept.{AreKept}
use Rattle.acvp_store.specs.Ranges.{is_between, is_number_between, is_column_between, IsRange, KeepsObjects}
use Rattle.acvp_store.specs.Stands.{SetColumns, set_key, set_row, IsSet, HoldsSets, Entry, entry_row, HoldsEntries}
use Rattle.acvp_store.specs.Stands.{object_columns, reviewer_columns, HoldsReviewers, IsKeepable}
use Rattle.acvp_store.specs.Stands.{request_key, request_row, HoldsRequests, BodyReads, body_number, body_text}
use Rattle.acvp_store.specs.Stands.{status_number, certification_data}
use Rattle.acvp_store.specs.Values.{whole}
use Rattle.acvp_store.proofs.OneList.{same_kept}
use Rattle.acvp_store.proofs.RangeJoins.{between_whole, option_once}
use Rattle.acvp_audit.specs.Read.{IsRegistrable}
use Rattle.acvp_audit.proofs.Lists.{all_pass}

-- ---- tables under one number

module _ {A : Type 0} (key : A → ℕ) (stored : A → Row) (rowid_is : (a : A) → rowid (stored a) ≡ whole (key a)) where
  test_is : (f l : ℕ) (a : A) → is_between f l (stored a) ≡ is_number_between f l (key a)
  test_is f l a = ap (λ v. is_ge (value_cmp v (whole f)) && is_le (value_cmp v (whole l))) (rowid_is a)
      ∙ between_whole f l (key a)

  pub kept_part : (f l : ℕ) (rows : List Row) (list : List A) → AreKept key stored rows list
      → AreKept key stored (filter (is_between f l) rows) (filter (λ a. is_number_between f l (key a)) list)
  kept_part f l rows list kept =
      let q = λ (a : A). is_number_between f l (key a) in
      record {
        ordered = filter q kept.ordered;
        rows_are = ap (filter (is_between f l)) kept.rows_are ∙ filter-map (is_between f l) stored kept.ordered
            ∙ ap (map stored) (filter_same (λ a. is_between f l (stored a)) q kept.ordered
            (all_of (λ a. is_between f l (stored a) ≡ q a) (test_is f l) kept.ordered));
        rising = ascending-filter (λ a b. key a < key b) q kept.ordered kept.rising;
        fits = all-filter (λ a. key a < 2 ^ 63) q kept.ordered kept.fits;
        same = IsPermutation-filter q kept.ordered list kept.same;
      }

-- ---- tables under a key of two columns

module _ {A : Type 0} (columns : A → Row) (p : Row → Bool) (q : A → Bool) (test_is : (e : Entry A)
    → p (entry_row columns e) ≡ q e.row) where
  pub entries_part : (rows : List Row) (list : List A) → HoldsEntries columns rows list
      → HoldsEntries columns (filter p rows) (filter q list)
  entries_part rows list holds =
      let of = λ (e : Entry A). q e.row in
      record {
        entries = filter of holds.entries;
        rows_are = ap (filter p) holds.rows_are ∙ filter-map p (entry_row columns) holds.entries
            ∙ ap (map (entry_row columns))
            (filter_same (λ e. p (entry_row columns e)) of holds.entries
            (all_of (λ e. p (entry_row columns e) ≡ of e) test_is holds.entries));
        rising = ascending-filter _ of holds.entries holds.rising;
        same = subst (λ xs. IsPermutation xs (filter q list)) (filter-map q (λ (e : Entry A). e.row) holds.entries)
            (IsPermutation-filter q _ list holds.same);
      }

-- ---- each table

zipped : (f l : ℕ) (columns : List SetColumns) (sets : List SetRow) → AllZip IsSet columns sets
    → AllZip IsSet (filter (λ c. is_number_between f l c.number) columns)
    (filter (λ s. is_number_between f l s.number) sets)
zipped f l [] [] zip = tt
zipped f l [] (s ∷ sets) zip = absurd zip
zipped f l (c ∷ columns) [] zip = absurd zip
zipped f l (c ∷ columns) (s ∷ sets) zip = elim (cases_Bool (is_number_between f l c.number)) [
  | inl is ↦
      let too : is_number_between f l s.number ≡ true = ap (is_number_between f l) (sym zip.0.number) ∙ is in
      rw (is, too) (zip.0, zipped f l columns sets zip.1)
  | inr isnt ↦
      let too : is_number_between f l s.number ≡ false = ap (is_number_between f l) (sym zip.0.number) ∙ isnt in
      rw (isnt, too) (zipped f l columns sets zip.1)
]

pub sets_part : (f l : ℕ) (rows : List Row) (sets : List SetRow) → HoldsSets rows sets
    → HoldsSets (filter (is_between f l) rows) (filter (λ s. is_number_between f l s.number) sets)
sets_part f l rows sets holds = record {
  columns = filter (λ c. is_number_between f l c.number) holds.columns;
  kept = kept_part set_key set_row (λ c. refl) f l rows holds.columns holds.kept;
  same = zipped f l holds.columns sets holds.same;
}

pub objects_part : (f l : ℕ) (rows : List Row) (objects : List ObjectRow) → KeepsObjects rows objects
    → KeepsObjects (filter (is_column_between 2 f l) rows) (filter (λ o. is_number_between f l o.number) objects)
objects_part f l rows objects keeps = record {
  kept = entries_part object_columns (is_column_between 2 f l) (λ o. is_number_between f l o.number)
      (λ e. between_whole f l e.row.number) rows objects keeps.kept;
  numbers = all-filter IsKeepable (λ o. is_number_between f l o.number) objects keeps.numbers;
}

pub reviewers_part : (f l : ℕ) (rows : List Row) (reviewers : List ReviewerRow) → HoldsReviewers rows reviewers
    → HoldsReviewers (filter (is_column_between 1 f l) rows) (filter (λ r. is_number_between f l r.session) reviewers)
reviewers_part f l rows reviewers holds = record {
  kept = entries_part reviewer_columns (is_column_between 1 f l) (λ r. is_number_between f l r.session)
      (λ e. between_whole f l e.row.session) rows reviewers holds.kept;
  fits = all-filter (λ (r : ReviewerRow). r.session < 2 ^ 63)
      (λ r. is_number_between f l r.session) reviewers holds.fits;
}

-- requests, each registration of which is of one of the three kinds
abbrev pub HoldsAsked : List Row → List RequestRow → Type 0
HoldsAsked rows requests = HoldsRequests rows requests
    × AllByRecursion (λ (r : RequestRow). IsRegistrable r.body) requests

pub requests_part : (f l : ℕ) (rows : List Row) (requests : List RequestRow) → HoldsAsked rows requests
    → HoldsAsked (filter (is_between f l) rows) (filter (λ r. is_number_between f l r.number) requests)
requests_part f l rows requests asked =
    let q = λ (r : RequestRow). is_number_between f l r.number in (
      record {
        kept = kept_part request_key request_row (λ r. refl) f l rows requests asked.0.kept;
        texts = all-filter (λ (r : RequestRow). BodyReads r.body) q requests asked.0.texts;
      },
      all-filter (λ (r : RequestRow). IsRegistrable r.body) q requests asked.1,
    )

-- ---- two lists of requests that the same rows stand for

kind_back : ℕ → Kind
kind_back n = if n == 1 then Vendor else (if n == 2 then Module else (if n == 3 then Environment else Certification))

kind_is : (kind : Kind) → kind_back (kind_number kind) ≡ kind
unfolding kind_back
kind_is Vendor = refl
kind_is Module = refl
kind_is Environment = refl
kind_is Certification = refl

few_kinds : (kind : Kind) → is_registered kind ≡ true → kind_number kind < 4
few_kinds Vendor is = omega arith
few_kinds Module is = omega arith
few_kinds Environment is = omega arith
few_kinds Certification is = absurd (cc)

-- the data of a certification tell its numbers
module_once : (c d : Certified) → c.«module» < 2 ^ 64 → d.«module» < 2 ^ 64
    → certification_data c ≡ certification_data d → c.«module» ≡ d.«module»
module_once c d low few is =
    let texts = ap (λ x. text_at (codes "moduleUrl") x) is in
    let both : Some (codes "/acvp/v1/modules/" ++ decimal c.«module»)
    ≡ Some (codes "/acvp/v1/modules/" ++ decimal d.«module») = texts in
    let text : codes "/acvp/v1/modules/" ++ decimal c.«module» ≡ codes "/acvp/v1/modules/" ++ decimal d.«module» =
    cc (both) in
    decimal_injective c.«module» d.«module» low few
    (append_cancel_left (codes "/acvp/v1/modules/") (decimal c.«module») (decimal d.«module») text)

environment_once : (c d : Certified) → c.environment < 2 ^ 64 → d.environment < 2 ^ 64
    → certification_data c ≡ certification_data d → c.environment ≡ d.environment
environment_once c d low few is =
    let both : Some (codes "/acvp/v1/oes/" ++ decimal c.environment)
    ≡ Some (codes "/acvp/v1/oes/" ++ decimal d.environment) = ap (λ x. text_at (codes "oeUrl") x) is in
    let text : codes "/acvp/v1/oes/" ++ decimal c.environment ≡ codes "/acvp/v1/oes/" ++ decimal d.environment =
    cc (both) in
    decimal_injective c.environment d.environment low few
    (append_cancel_left (codes "/acvp/v1/oes/") (decimal c.environment) (decimal d.environment) text)

session_once : (c d : Certified) → certification_data c ≡ certification_data d → c.session ≡ d.session
session_once c d is = let both : Some c.session ≡ Some d.session = ap (λ x. number_at (codes "session") x) is in
    cc (both)

body_once : (a b : RequestBody) → BodyReads a → BodyReads b → IsRegistrable a → IsRegistrable b
    → body_number a ≡ body_number b → body_text a ≡ body_text b → a ≡ b
body_once (body.Registration o) (body.Registration p) good well of too numbers texts =
    let kind : o.kind ≡ p.kind = sym (kind_is o.kind) ∙ ap kind_back numbers ∙ kind_is p.kind in
    let values : Some o.value ≡ Some p.value = sym good ∙ ap body_json texts ∙ well in
    let value : o.value ≡ p.value = cc (values) in
    λ i. body.Registration (record { kind = kind i; value = value i })
body_once (body.Registration o) (body.Certification d) good well of too numbers texts =
    absurd (omega (arith, few_kinds o.kind of, numbers))
body_once (body.Certification c) (body.Registration p) good well of too numbers texts =
    absurd (omega (arith, few_kinds p.kind too, numbers))
body_once (body.Certification c) (body.Certification d) good well of too numbers texts =
    let both : Some (certification_data c) ≡ Some (certification_data d) = sym good.0 ∙ ap body_json texts ∙ well.0 in
    let is : certification_data c ≡ certification_data d = cc (both) in
    let modules = module_once c d good.1 well.1 is in
    let environments = environment_once c d good.2 well.2 is in
    let sessions = session_once c d is in
    λ i. body.Certification (record { «module» = modules i; environment = environments i; session = sessions i })

status_once : (a b : RequestStatus) → status_number a ≡ status_number b → given_number a ≡ given_number b → a ≡ b
status_once status.Initial status.Initial n g = refl
status_once (status.Approved m) (status.Approved k) n g = let same : m ≡ k = cc (g) in ap status.Approved same
status_once status.Rejected status.Rejected n g = refl
status_once _ _ n g = absurd (omega (arith, n))

abbrev IsGood : RequestRow → Type 0
IsGood r = BodyReads r.body × IsRegistrable r.body

request_once : (a b : RequestRow) → IsGood a → IsGood b → request_row a ≡ request_row b → a ≡ b
request_once a b good well is =
    let number : a.number ≡ b.number = cc (is) in
    let account : a.account ≡ b.account = cc (is) in
    let numbers : body_number a.body ≡ body_number b.body = cc (is) in
    let texts : body_text a.body ≡ body_text b.body = cc (is) in
    let body = body_once a.body b.body good.0 well.0 good.1 well.1 numbers texts in
    let statuses : status_number a.status ≡ status_number b.status = cc (is) in
    let given = option_once (given_number a.status) (given_number b.status) (cc (is)) in
    let status = status_once a.status b.status statuses given in
    λ i. record { number = number i; account = account i; body = body i; status = status i }

pub same_requests : (rows : List Row) (xs ys : List RequestRow) → HoldsAsked rows xs → HoldsAsked rows ys
    → IsPermutation xs ys
same_requests rows xs ys a b =
    let good = λ (list : List RequestRow) (asked : HoldsAsked rows list).
    all_both (λ (r : RequestRow). BodyReads r.body) (λ (r : RequestRow). IsRegistrable r.body) IsGood
    (λ r x y. (x, y)) list asked.0.texts asked.1 in
    same_kept request_key IsGood request_row request_once rows xs ys (good xs a) (good ys b) a.0.kept b.0.kept

-- ---- what was read of a range

-- of a way in which rows stand for lists: the members of any list that are in the range, and its own
module _ {A : Type 0} (Holds : List Row → List A → Type 0) (same : (rows : List Row) (xs ys : List A) → Holds rows xs
    → Holds rows ys → IsPermutation xs ys) (p : Row → Bool) (q : A → Bool)
    (part : (rows : List Row) (list : List A) → Holds rows list → Holds (filter p rows) (filter q list)) where
  pub known_by : (rows : List Row) (list mine : List A) → Holds rows list → Holds (filter p rows) mine
      → IsPermutation (filter q list) mine
  known_by rows list mine holds read = same (filter p rows) (filter q list) mine (part rows list holds) read

  pub within_by : (rows : List Row) (mine : List A) → Holds (filter p rows) mine → list_all q mine ≡ true
  within_by rows mine read =
      let once = subst (λ rs. Holds rs (filter q mine)) (filter-filter p p (λ x e. e) rows)
      (part (filter p rows) mine read) in
      let many : length (filter q mine) ≡ length mine =
      length_permutation _ _ (same (filter p rows) mine (filter q mine) read once) in
      all_pass q mine many

-- where that is known of ranges alone
module _ {A : Type 0} (Holds : List Row → List A → Type 0) (key : A → ℕ)
    (known : (f l : ℕ) (rows : List Row) (found list : List A) → Holds rows list → IsRange Holds key f l rows found
    → IsPermutation found (filter (λ a. is_number_between f l (key a)) list)) where
  pub within_range : (f l : ℕ) (rows : List Row) (mine : List A) → IsRange Holds key f l rows mine
      → list_all (λ a. is_number_between f l (key a)) mine ≡ true
  within_range f l rows mine range =
      let p = is_between f l in
      let again : IsRange Holds key f l (filter p rows) mine =
      record {
        holds = subst (λ rs. Holds rs mine) (sym (filter-filter p p (λ x e. e) rows)) range.holds;
        rising =
            range.rising;
      } in
      let many = length_permutation _ _ (known f l (filter p rows) mine mine range.holds again) in
      all_pass (λ a. is_number_between f l (key a)) mine many
