-- Rows that stand for kept records: each member fits the program's types, and no row lies outside.
use Rattle.std.proofs.Common.{◌≡◌, ℕ, ℤ, ◌/◌, ◌<◌, ◌≤◌, ◌^◌, Bool, true, List, [], ◌∷◌, length, Option, None, Some}
use Rattle.std.proofs.Common.{refl, sym, ap, subst, ◌∙◌, arith}
use Rattle.std.specs.Prelude.{not, ◌&&◌, ◌==◌, nat_lt, is_some}
use Rattle.std.specs.List.{list_all, AllByRecursion, AllZip}
use Rattle.std.proofs.lemmas.Bool.Decides.{nat_tests}
use Rattle.sqlite_trees.proofs.ListLemmas.{all_weaker, all_both}
use Rattle.sqlite_trees.specs.Tree.{Trees}
use Rattle.sqlite_value.specs.Order.{Row, column}
use Rattle.acvp_desk.specs.Kept.{IsKept}
use Rattle.serde_json.specs.Data.{Data}
use Rattle.acvp_registry.specs.Object.{KeptObject, object_fault, is_fit, is_registered}
use Rattle.acvp_registry.specs.declared.kind.Kind.{Kind}
use Rattle.acvp_registry.specs.declared.kind.Kind.TheVariants.{Vendor, Module, Environment, Certification}
use Rattle.acvp_tables.specs.Content.{Content, is_kind, object_at, kind_number}
use Rattle.acvp_tables.specs.State.{State, state_of, own, owner_of, is_account_number, is_account_row}
use Rattle.acvp_tables.specs.State.{IsWellNumberedFor, IsWellNumbered, is_sound_object, is_sound_body}
use Rattle.acvp_tables.specs.declared.rows.AccountRow.{AccountRow}
use Rattle.acvp_tables.specs.declared.rows.SessionRow.{SessionRow}
use Rattle.acvp_tables.specs.declared.rows.SetRow.{SetRow}
use Rattle.acvp_tables.specs.declared.rows.ObjectRow.{ObjectRow}
use Rattle.acvp_tables.specs.declared.rows.RequestRow.{RequestRow}
use Rattle.acvp_tables.specs.declared.rows.RequestBody.{RequestBody}
use Rattle.acvp_tables.specs.declared.rows.RequestBody.TheVariants as body
use Rattle.acvp_tables.specs.declared.rows.ReviewerRow.{ReviewerRow}
use Rattle.acvp_tables.proofs.KeptLemmas.{list_all_weaker, list_all-filter}
use Rattle.acvp_tables.proofs.Numbers.{by_class, eqb_same}
use Rattle.acvp_check.specs.Owners.{is_of, is_in}
use Rattle.acvp_check.proofs.Holds.{both, joint, at_passing}
use Rattle.acvp_check.proofs.Joins.{found_any}
use Rattle.acvp_check.proofs.WholeLemmas.{Owned, kept_owned}
use Rattle.acvp_store.specs.Kept.{AreKept}
use Rattle.acvp_store.specs.Ranges.{is_between, is_number_between, first_number, last_number, first_set, last_set}
use Rattle.acvp_store.specs.Ranges.{HasNumberBetween, IsRegisteredWithin}
use Rattle.acvp_store.specs.Ranges.{FitsAccount, FitsSession, FitsRequest, FitsRequestBody, FitsObject, FitsReviewer}
use Rattle.acvp_store.specs.Ranges.{FitsSet}
use Rattle.acvp_store.specs.Schema.{Layout}
use Rattle.acvp_store.specs.Stands.{Stands, SetColumns, set_key, set_row, IsSet, object_columns, reviewer_columns}
use Rattle.acvp_store.specs.Stands.{request_key, request_row}
use Rattle.acvp_store.specs.Rows.{account_key, account_row, session_key, session_row}
use Rattle.acvp_store.proofs.EntryRanges.{each_entry}
use Rattle.acvp_store.proofs.RangeJoins.{between_whole}
use Rattle.acvp_store.proofs.RangeStrays.{each_kept}
use Rattle.acvp_audit.specs.Read.{IsRegistrable}
use Rattle.acvp_audit.specs.Wrong.{AreWithin, IsWithin}
use Rattle.acvp_audit.specs.declared.table.Table.TheVariants as table
use Rattle.acvp_audit.proofs.Lists.{all_tested}

-- ---- what a test of a row says

number_is : (m n : ℕ) → (m == n) ≡ true → m ≡ n
number_is m n e = grind (arith, nat_tests, e)

low_account : (n : ℕ) → is_account_number n ≡ true → n ≤ 9999
low_account n e = grind (arith, nat_tests, e)

-- a number that begins with an account's lies within
pub numbered_within : (n : ℕ) → is_account_number (owner_of n) ≡ true
    → is_number_between (first_number 1) (last_number 9999) n ≡ true
numbered_within n e =
    let low : 1 ≤ n / 1000000 = grind (arith, nat_tests, e) in
    let high : n / 1000000 ≤ 9999 = grind (arith, nat_tests, e) in
    let least : 1000000 ≤ n = omega (arith, low) in
    let most : n ≤ 9999999999 = omega (arith, high) in
    grind (arith, nat_tests, least, most)

pub owner_is : (account number : ℕ) → is_of account number ≡ true → is_account_number (owner_of number) ≡ true
owner_is account number e =
    let two = both (is_account_number account) (owner_of number == account) e in
    subst (λ n. is_account_number n ≡ true) (sym (number_is _ _ two.1)) two.0

pub session_is : (session number : ℕ) → is_in session number ≡ true → is_account_number (owner_of (number / 100)) ≡ true
session_is session number e =
    let two = both (is_account_number (owner_of session)) ((number / 100) == session) e in
    subst (λ n. is_account_number (owner_of n) ≡ true) (sym (number_is _ _ two.1)) two.0

set_within : (n : ℕ) → is_account_number (owner_of (n / 100)) ≡ true
    → is_number_between (first_set 1) (last_set 9999) n ≡ true
set_within n e =
    let low : 1 ≤ (n / 100) / 1000000 = grind (arith, nat_tests, e) in
    let high : (n / 100) / 1000000 ≤ 9999 = grind (arith, nat_tests, e) in
    let least : 100000000 ≤ n = omega (arith, low) in
    let most : n ≤ 999999999999 = omega (arith, high) in
    grind (arith, nat_tests, least, most)

-- the numbers of accounts' rows
abbrev is_low : ℕ → Bool
is_low n = nat_lt n 10000000000

low_number : (account number : ℕ) → is_of account number ≡ true → is_low number ≡ true
low_number account number e =
    let two = both (is_account_number account) (owner_of number == account) e in
    let few : account ≤ 9999 = low_account account two.0 in
    let is : number / 1000000 ≡ account = number_is _ _ two.1 in
    let low : number < 10000000000 = omega (arith, few, is) in
    grind (arith, nat_tests, low)

-- what is found has such a number
found_low : (kind : Kind) (k : ℕ) (objects : List ObjectRow) → list_all (λ o. is_low o.number) objects ≡ true
    → is_some (object_at kind k objects) ≡ true → is_low k ≡ true
found_low kind k objects low some =
    at_passing (λ (o : ObjectRow). is_low o.number) (λ o. is_kind o.object.kind kind && (o.number == k)) (is_low k)
    (λ o e. ap is_low (number_is _ _ (both (is_kind o.object.kind kind) (o.number == k) e).1)) objects low
    (sym (found_any (λ o. is_kind o.object.kind kind && (o.number == k)) objects) ∙ some)

is_none : {X : Type 0} (o : Option X) → not (is_some o) ≡ true → o ≡ None
is_none None e = refl
is_none (Some x) e = absurd (cc)

-- an object that is kept is of one of the three kinds
kind_of : (kind : Kind) (value : Data) → object_fault kind value ≡ None → is_registered kind ≡ true
unfolding object_fault is_fit
kind_of Vendor value none = refl
kind_of Module value none = refl
kind_of Environment value none = refl
kind_of Certification value none = absurd (cc)

pub registered_kind : (o : KeptObject) → object_fault o.kind o.value ≡ None → is_registered o.kind ≡ true
registered_kind o none = kind_of o.kind o.value none

few_kinds : (kind : Kind) → is_registered kind ≡ true → kind_number kind < 4
few_kinds Vendor is = omega arith
few_kinds Module is = omega arith
few_kinds Environment is = omega arith
few_kinds Certification is = absurd (cc)

kind_within : (kind : Kind) → is_registered kind ≡ true → is_number_between 1 3 (kind_number kind) ≡ true
kind_within Vendor is = refl
kind_within Module is = refl
kind_within Environment is = refl
kind_within Certification is = absurd (cc)

-- ---- kept records

-- a body that fits
abbrev body_fits : RequestBody → Bool
body_fits (body.Registration o) = not (is_some (object_fault o.kind o.value))
body_fits (body.Certification c) = is_low c.«module» && is_low c.environment

sound_body_fits : (mine : State) → list_all (λ o. is_low o.number) mine.objects ≡ true → (b : RequestBody)
    → is_sound_body mine b ≡ true → body_fits b ≡ true
sound_body_fits mine low (body.Registration o) e = (both (not (is_some (object_fault o.kind o.value))) _ e).0
sound_body_fits mine low (body.Certification c) e =
    let front = both (is_some (object_at Module c.«module» mine.objects) && is_some
    (object_at Environment c.environment mine.objects)) _ e in
    let two = both (is_some (object_at Module c.«module» mine.objects))
    (is_some (object_at Environment c.environment mine.objects)) front.0 in
    joint _ _ (found_low Module c.«module» mine.objects low two.0)
    (found_low Environment c.environment mine.objects low two.1)

fits_body : (b : RequestBody) → body_fits b ≡ true → FitsRequestBody b
fits_body (body.Registration o) e = let none = is_none (object_fault o.kind o.value) e in
    (few_kinds o.kind (registered_kind o none), none)
fits_body (body.Certification c) e =
    let two = both (is_low c.«module») (is_low c.environment) e in
    let modules : c.«module» < 10000000000 = grind (arith, nat_tests, two.0) in
    let environments : c.environment < 10000000000 = grind (arith, nat_tests, two.1) in
    (omega (arith, modules), omega (arith, environments))

registrable : (b : RequestBody) → body_fits b ≡ true → IsRegistrable b
registrable (body.Registration o) e = registered_kind o (is_none (object_fault o.kind o.value) e)
registrable (body.Certification c) e = tt

fits_account : (a : AccountRow) → is_account_row a ≡ true → FitsAccount a
fits_account a e =
    let two = both (is_account_number a.number) (length a.secret == 32) e in
    let few : a.number ≤ 9999 = low_account a.number two.0 in
    (omega (arith, few), number_is _ _ two.1)

low_of : (account number : ℕ) → is_of account number ≡ true → account < 2 ^ 16
low_of account number e = let few : account ≤ 9999 = low_account account (both (is_account_number account) _ e).0 in
    omega (arith, few)

fits_object : (o : ObjectRow) → is_of o.account o.number ≡ true
    → not (is_some (object_fault o.object.kind o.object.value)) ≡ true → FitsObject o
fits_object o of e = let none = is_none (object_fault o.object.kind o.object.value) e in
    (low_of o.account o.number of, few_kinds o.object.kind (registered_kind o.object none), none)

module _ (seeds : List (List ℕ)) (c : Content) (is : IsKept seeds c) where
  owned : Owned c
  owned = kept_owned seeds c is

  sound : (u : ℕ) → IsWellNumberedFor u (own u (state_of c))
  unfolding IsWellNumbered
  sound u = is.sound u

  pub fit_accounts : AllByRecursion FitsAccount c.accounts
  unfolding own state_of
  fit_accounts =
      let rows = by_class (λ a b. a == b) (λ (row : AccountRow). row.number)
      (λ u row. is_account_row row) eqb_same c.accounts (λ u. (sound u).accounts) in
      all_weaker (λ (row : AccountRow). is_account_row row ≡ true) FitsAccount fits_account c.accounts
      (all_tested is_account_row c.accounts rows)

  pub fit_sessions : AllByRecursion FitsSession c.sessions
  fit_sessions = all_weaker (λ (row : SessionRow). is_of row.account row.number ≡ true) FitsSession
      (λ row e. low_of row.account row.number e) c.sessions
      (all_tested (λ (row : SessionRow). is_of row.account row.number) c.sessions owned.sessions)

  pub fit_sets : AllByRecursion FitsSet c.sets
  fit_sets = all_weaker (λ (row : SetRow). is_in row.session row.number ≡ true) FitsSet (λ row e. tt) c.sets
      (all_tested (λ (row : SetRow). is_in row.session row.number) c.sets owned.sets)

  object_rows : list_all (λ (row : ObjectRow). not (is_some (object_fault row.object.kind row.object.value))) c.objects
      ≡ true
  unfolding own state_of
  object_rows =
      by_class (λ a b. a == b) (λ (row : ObjectRow). row.account)
      (λ u row. not (is_some (object_fault row.object.kind row.object.value))) eqb_same c.objects
      (λ u. list_all_weaker (λ (row : ObjectRow). is_sound_object (own u (state_of c)).objects row.object)
      (λ row. not (is_some (object_fault row.object.kind row.object.value)))
      (λ row e. (both (not (is_some (object_fault row.object.kind row.object.value))) _ e).0)
      (own u (state_of c)).objects (sound u).kept)

  pub fit_objects : AllByRecursion FitsObject c.objects
  fit_objects =
      all_both (λ (row : ObjectRow). is_of row.account row.number ≡ true)
      (λ row. not (is_some (object_fault row.object.kind row.object.value)) ≡ true) FitsObject fits_object c.objects
      (all_tested (λ (row : ObjectRow). is_of row.account row.number) c.objects owned.objects)
      (all_tested (λ (row : ObjectRow). not (is_some (object_fault row.object.kind row.object.value))) c.objects
      object_rows)

  low_objects : (u : ℕ) → list_all (λ (o : ObjectRow). is_low o.number) (own u (state_of c)).objects ≡ true
  unfolding own state_of
  low_objects u =
      list_all-filter (λ (o : ObjectRow). is_low o.number) (λ row. row.account == u) c.objects
      (list_all_weaker (λ (row : ObjectRow). is_of row.account row.number) (λ row. is_low row.number)
      (λ row e. low_number row.account row.number e) c.objects owned.objects)

  request_bodies : AllByRecursion (λ (row : RequestRow). body_fits row.body ≡ true) c.requests
  unfolding own state_of
  request_bodies =
      all_tested (λ (row : RequestRow). body_fits row.body) c.requests
      (by_class (λ a b. a == b) (λ (row : RequestRow). row.account) (λ u row. body_fits row.body) eqb_same c.requests
      (λ u. list_all_weaker (λ (row : RequestRow). is_sound_body (own u (state_of c)) row.body)
      (λ row. body_fits row.body)
      (λ row e. sound_body_fits (own u (state_of c)) (low_objects u) row.body e) (own u (state_of c)).requests
      (sound u).asked))

  pub fit_requests : AllByRecursion FitsRequest c.requests
  fit_requests =
      all_both (λ (row : RequestRow). is_of row.account row.number ≡ true)
      (λ row. body_fits row.body ≡ true) FitsRequest
      (λ row of e. (low_of row.account row.number of, fits_body row.body e)) c.requests
      (all_tested (λ (row : RequestRow). is_of row.account row.number) c.requests owned.requests) request_bodies

  pub are_registrable : AllByRecursion (λ (row : RequestRow). IsRegistrable row.body) c.requests
  are_registrable = all_weaker (λ (row : RequestRow). body_fits row.body ≡ true) (λ row. IsRegistrable row.body)
      (λ row e. registrable row.body e) c.requests request_bodies

  pub fit_reviewers : AllByRecursion FitsReviewer c.reviewers
  unfolding own state_of
  fit_reviewers =
      let rows = by_class (λ a b. a == b) (λ (row : ReviewerRow). owner_of row.session)
      (λ u row. is_account_number row.account) eqb_same c.reviewers (λ u. (sound u).reviewers) in
      all_weaker (λ (row : ReviewerRow). is_account_number row.account ≡ true) FitsReviewer
      (λ row e. let few : row.account ≤ 9999 = low_account row.account e in omega (arith, few)) c.reviewers
      (all_tested (λ (row : ReviewerRow). is_account_number row.account) c.reviewers rows)

  -- ---- no row lies outside

  module _ (layout : Layout) (trees : Trees) (stand : Stands layout trees c) where
    kept_within : {A : Type 0} (key : A → ℕ) (stored : A → Row) (f l : ℕ)
        → ((a : A) → is_number_between f l (key a) ≡ true → is_between f l (stored a) ≡ true)
        → (rows : List Row) (list : List A) → AllByRecursion (λ a. is_number_between f l (key a) ≡ true) list
        → AreKept key stored rows list → AllByRecursion (λ row. is_between f l row ≡ true) rows
    kept_within key stored f l shows rows list low kept =
        all_weaker (λ row. (a : _) × (is_number_between f l (key a) ≡ true) × (row ≡ stored a))
        (λ row. is_between f l row ≡ true)
        (λ row it. subst (λ r. is_between f l r ≡ true) (sym it.2) (shows it.0 it.1)) rows
        (each_kept key stored (λ a. is_number_between f l (key a) ≡ true) rows list low kept)

    columns_low : (f l : ℕ) (columns : List SetColumns) (sets : List SetRow) → AllZip IsSet columns sets
        → AllByRecursion (λ s. is_number_between f l s.number ≡ true) sets
        → AllByRecursion (λ s. is_number_between f l s.number ≡ true) columns
    columns_low f l [] [] zip low = tt
    columns_low f l [] (s ∷ sets) zip low = absurd zip
    columns_low f l (k ∷ columns) [] zip low = absurd zip
    columns_low f l (k ∷ columns) (s ∷ sets) zip low =
        (ap (is_number_between f l) zip.0.number ∙ low.0, columns_low f l columns sets zip.1 low.1)

    accounts_in : IsWithin table.Account layout trees
    accounts_in =
        kept_within account_key account_row 1 9999 (λ a e. between_whole 1 9999 a.number ∙ e) _ c.accounts
        (all_tested (λ (row : AccountRow). is_number_between 1 9999 row.number) c.accounts owned.accounts)
        stand.accounts

    sessions_in : IsWithin table.Session layout trees
    sessions_in =
        kept_within session_key session_row (first_number 1) (last_number 9999)
        (λ a e. between_whole (first_number 1) (last_number 9999) a.number ∙ e) _ c.sessions
        (all_weaker (λ (row : SessionRow). is_of row.account row.number ≡ true)
        (λ row. is_number_between (first_number 1) (last_number 9999) row.number ≡ true)
        (λ row e. numbered_within row.number (owner_is row.account row.number e)) c.sessions
        (all_tested (λ (row : SessionRow). is_of row.account row.number) c.sessions owned.sessions)) stand.sessions

    sets_in : IsWithin table.Set layout trees
    sets_in =
        kept_within set_key set_row (first_set 1) (last_set 9999)
        (λ a e. between_whole (first_set 1) (last_set 9999) a.number ∙ e) _ stand.sets.columns
        (columns_low (first_set 1) (last_set 9999) stand.sets.columns c.sets stand.sets.same
        (all_weaker (λ (row : SetRow). is_in row.session row.number ≡ true)
        (λ row. is_number_between (first_set 1) (last_set 9999) row.number ≡ true)
        (λ row e. set_within row.number (session_is row.session row.number e)) c.sets
        (all_tested (λ (row : SetRow). is_in row.session row.number) c.sets owned.sets))) stand.sets.kept

    requests_in : IsWithin table.Request layout trees
    requests_in =
        kept_within request_key request_row (first_number 1) (last_number 9999)
        (λ a e. between_whole (first_number 1) (last_number 9999) a.number ∙ e) _ c.requests
        (all_weaker (λ (row : RequestRow). is_of row.account row.number ≡ true)
        (λ row. is_number_between (first_number 1) (last_number 9999) row.number ≡ true)
        (λ row e. numbered_within row.number (owner_is row.account row.number e)) c.requests
        (all_tested (λ (row : RequestRow). is_of row.account row.number) c.requests owned.requests)) stand.requests.kept

    abbrev IsObjectIn : ObjectRow → Type 0
    IsObjectIn o = (is_registered o.object.kind ≡ true)
        × (is_number_between (first_number 1) (last_number 9999) o.number ≡ true)

    objects_in : IsWithin table.Object layout trees
    objects_in =
        all_weaker (λ row. (o : ObjectRow) × IsObjectIn o × ((id : ℤ) × (row ≡ _))) (IsRegisteredWithin 9999)
        (λ row it. (
          (kind_number it.0.object.kind, ap (λ r. column r 1) it.2.1, kind_within it.0.object.kind it.1.0),
          (it.0.number, ap (λ r. column r 2) it.2.1, it.1.1),
        )) _
        (each_entry object_columns IsObjectIn _ c.objects
        (all_both (λ (row : ObjectRow). is_of row.account row.number ≡ true)
        (λ row. not (is_some (object_fault row.object.kind row.object.value)) ≡ true) IsObjectIn
        (λ row of e. (
          registered_kind row.object (is_none (object_fault row.object.kind row.object.value) e),
          numbered_within row.number (owner_is row.account row.number of),
        )) c.objects
        (all_tested (λ (row : ObjectRow). is_of row.account row.number) c.objects owned.objects)
        (all_tested (λ (row : ObjectRow). not (is_some (object_fault row.object.kind row.object.value))) c.objects
        object_rows)) stand.objects)

    abbrev IsReviewerIn : ReviewerRow → Type 0
    IsReviewerIn r = is_number_between (first_number 1) (last_number 9999) r.session ≡ true

    reviewers_in : IsWithin table.Reviewer layout trees
    reviewers_in =
        all_weaker (λ row. (r : ReviewerRow) × IsReviewerIn r × ((id : ℤ) × (row ≡ _)))
        (HasNumberBetween 1 (first_number 1) (last_number 9999))
        (λ row it. (it.0.session, ap (λ r. column r 1) it.2.1, it.1)) _
        (each_entry reviewer_columns IsReviewerIn _ c.reviewers
        (all_weaker (λ (row : ReviewerRow). is_account_number (owner_of row.session) ≡ true) IsReviewerIn
        (λ row e. numbered_within row.session e) c.reviewers
        (all_tested (λ (row : ReviewerRow). is_account_number (owner_of row.session)) c.reviewers owned.reviewers))
        stand.reviewers.kept)

    pub kept_are_within : AreWithin layout trees
    kept_are_within table.Account = accounts_in
    kept_are_within table.Session = sessions_in
    kept_are_within table.Set = sets_in
    kept_are_within table.Object = objects_in
    kept_are_within table.Request = requests_in
    kept_are_within table.Reviewer = reviewers_in
