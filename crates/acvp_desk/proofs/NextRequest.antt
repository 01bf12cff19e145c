-- A request to register an object, or to certify a session: it is next, and the grant of its action is leave for it.
use Rattle.std.proofs.Common.{◌≡◌, ℕ, List, [], ◌∷◌, map, Bool, true, false, Option, None, Some, Ok, Err, refl, sym, ap}
use Rattle.std.proofs.Common.{◌∙◌, arith}
use Rattle.std.proofs.lemmas.Bool.Decides.{nat_tests}
use Rattle.std.specs.Prelude.{IfOk, ◌==◌, nat_lt, is_some, option_map, option_and_then, if◌then◌else◌, Result, IfErr}
use Rattle.acvp_json.specs.Data.{Data}
use Rattle.acvp_json.specs.Envelope.{envelope_conditions, object_of}
use Rattle.acvp_json.specs.declared.certify_body.CertifyBody.{CertifyBody}
use Rattle.acvp_json.specs.CertifyBody.{certify_body_conditions, certify_body_of}
use Rattle.acvp_mac.specs.Conditions.{first_broken, with_fault}
use Rattle.acvp_policy.specs.Conditions.{is_none_or}
use Rattle.acvp_policy.specs.Granted.{Granted}
use Rattle.acvp_policy.specs.SessionNumber.{account_of_session}
use Rattle.acvp_policy.specs.declared.action.Action.TheVariants as action
use Rattle.acvp_policy.specs.declared.resource.Resource.TheVariants as resource
use Rattle.acvp_policy.specs.declared.rule.Rule.{Rule}
use Rattle.acvp_policy.specs.declared.rule.Rule.TheVariants as rule
use Rattle.acvp_registry.specs.Object.{KeptObject, object_conditions, object_fault, object_vendor}
use Rattle.acvp_desk.specs.declared.found.RegistryPlace.TheVariants as in_registry
use Rattle.acvp_registry.specs.declared.kind.Kind.{Kind}
use Rattle.acvp_registry.specs.declared.kind.Kind.TheVariants.{Certification, Vendor, Module, Environment}
use Rattle.acvp_tables.specs.Content.{is_kind, kind_number, account_at, object_at}
use Rattle.acvp_tables.specs.Covers.{request_action}
use Rattle.acvp_tables.specs.Next.{IsNextFor}
use Rattle.acvp_tables.specs.State.{State, own, owner_of, is_account_there, is_sound_body, has_vendor, of_all}
use Rattle.acvp_tables.specs.State.{session_record_at, IsWellNumbered}
use Rattle.acvp_tables.specs.declared.change.Change.TheVariants as change
use Rattle.acvp_tables.specs.declared.rows.ObjectRow.{ObjectRow}
use Rattle.acvp_tables.specs.declared.rows.RequestBody.TheVariants as body
use Rattle.acvp_desk.specs.Asked.{certified_conditions, judged_read, grounds_conditions, certification_grounds}
use Rattle.acvp_desk.specs.Asked.{certification_change, certification_made, certified_in, has_own_parts, has_own_vendor}
use Rattle.acvp_desk.specs.Asked.{kept_as, object_in, registered_conditions, object_grounds, object_change}
use Rattle.acvp_desk.specs.Asked.{request_made}
use Rattle.acvp_desk.specs.Bodies.{object_rule, object_conditions as conditions_on, rule_of}
use Rattle.acvp_desk.specs.Place.{session_facts}
use Rattle.acvp_desk.specs.Registries.{kind_of, new_action, own_object}
use Rattle.acvp_desk.specs.declared.found.Grounds.{Grounds}
use Rattle.acvp_desk.specs.declared.wish.Registry.{Registry}
use Rattle.acvp_desk.specs.declared.wish.Registry.TheVariants as registry
use Rattle.acvp_desk.specs.Private.Covered.{CoversAny}
use Rattle.acvp_desk.specs.Private.Within.{is_of_registry}
use Rattle.acvp_desk.proofs.FirstBroken.{back_held, first_held, front_held}
use Rattle.acvp_desk.proofs.NextSession.{number_of, renamed_held, left_true, right_true}
use Rattle.acvp_desk.proofs.NextReviewer.{own_session}

-- ---- what the conditions say

pub all_named : (asked : Grounds) → first_broken (grounds_conditions asked) ≡ None → asked.named ≡ true
all_named asked held = first_held asked.named rule.NoReference
    ((nat_lt asked.requests 999999, rule.AccountFull) ∷ []) held

pub few_asked : (asked : Grounds) → first_broken (grounds_conditions asked) ≡ None → nat_lt asked.requests 999999 ≡ true
few_asked asked held = first_held (nat_lt asked.requests 999999) rule.AccountFull []
    (back_held ((asked.named, rule.NoReference) ∷ []) ((nat_lt asked.requests 999999, rule.AccountFull) ∷ []) held)

-- what is read of a body whose envelope holds
pub object_judged : {E : Type 0} (kind : Kind) (body : List ℕ) (d : Data) (said : Result (Result KeptObject Rule) E)
    → first_broken (map (with_fault rule_of) (envelope_conditions body)) ≡ None
    → object_of body ≡ Some d
    → IfOk said (λ read. IfOk read
    (λ kept. (first_broken (map (with_fault object_rule) (object_conditions kind d)) ≡ None)
    × (kept ≡ kept_as kind d)))
    → IfOk said (λ read. IfErr read (λ told. first_broken (map (with_fault object_rule) (object_conditions kind d))
    ≡ Some told)) → IfOk said (λ read. read ≡ object_in kind body)
unfolding object_in
object_judged kind body d (Err fault) held is ok err = tt
object_judged kind body d (Ok (Ok kept)) held is ok err =
    let all : first_broken (registered_conditions kind body) ≡ None =
    front_held (map (with_fault rule_of) (envelope_conditions body))
    (map (with_fault object_rule) (conditions_on (object_conditions kind) (object_of body))) held ∙ rw is ok.0 in
    rw (all, is, ok.1) refl
object_judged kind body d (Ok (Err told)) held is ok err =
    let all : first_broken (registered_conditions kind body) ≡ Some told =
    front_held (map (with_fault rule_of) (envelope_conditions body))
    (map (with_fault object_rule) (conditions_on (object_conditions kind) (object_of body))) held ∙ rw is err in
    rw all refl

pub parts_judged : (body : List ℕ) (d : Data) (said : Result CertifyBody Rule)
    → first_broken (map (with_fault rule_of) (envelope_conditions body)) ≡ None → object_of body ≡ Some d
    → IfOk said (λ parts. (first_broken (map (with_fault rule_of) (certify_body_conditions d)) ≡ None)
    × (certify_body_of d ≡ Some parts))
    → IfErr said (λ told. first_broken (map (with_fault rule_of) (certify_body_conditions d)) ≡ Some told)
    → said ≡ certified_in body
unfolding certified_in
parts_judged body d (Ok parts) held is ok err =
    let all : first_broken (certified_conditions body) ≡ None =
    front_held (map (with_fault rule_of) (envelope_conditions body))
    (map (with_fault rule_of) (conditions_on certify_body_conditions (object_of body))) held ∙ rw is ok.0 in
    rw (all, is, ok.1) refl
parts_judged body d (Err told) held is ok err =
    let all : first_broken (certified_conditions body) ≡ Some told =
    front_held (map (with_fault rule_of) (envelope_conditions body))
    (map (with_fault rule_of) (conditions_on certify_body_conditions (object_of body))) held ∙ rw is err in
    rw all refl

-- what is asked to be registered is of the kind, and is kept
pub record IsKeptOf (kind : Kind) (object : KeptObject) : Type 0 where
  pub kind_is : object.kind ≡ kind
  pub fits : object_fault object.kind object.value ≡ None

pub kept_of : (kind : Kind) (bytes : List ℕ) (object : KeptObject) → object_in kind bytes ≡ Ok object
    → IsKeptOf kind object
unfolding object_in object_fault
kept_of kind bytes object is = go (first_broken (registered_conditions kind bytes)) refl (object_of bytes) refl is
  where
    at : (d : Data) → first_broken (map (with_fault object_rule) (object_conditions kind d)) ≡ None
        → ◌≡◌ {A = Result KeptObject Rule} (Ok (kept_as kind d)) (Ok object) → IsKeptOf kind object
    at d held e =
        let same : kept_as kind d ≡ object = cc in
        rw (← same) (record { kind_is = refl; fits = renamed_held object_rule (object_conditions kind d) held })

    go : (b : Option Rule) → first_broken (registered_conditions kind bytes) ≡ b → (d : Option Data)
        → object_of bytes ≡ d
        → judged_read b (option_map (kept_as kind) d) ≡ Ok object → IsKeptOf kind object
    go (Some broken) e d there is = absurd (cc)
    go None held None there is = absurd (cc)
    go None held (Some d) there is =
        at d (rw there at (back_held (map (with_fault rule_of) (envelope_conditions bytes))
        (map (with_fault object_rule) (conditions_on (object_conditions kind) (object_of bytes))) held)) is

-- what is read of it is of the registry's kind
pub is_of_its_kind : (of : Registry) (bytes : List ℕ) (read : Result KeptObject Rule) (asked : Grounds)
    → read ≡ object_in (kind_of of) bytes → is_of_registry (in_registry.New of read asked) ≡ true
is_of_its_kind of bytes (Err broken) asked is = refl
is_of_its_kind of bytes (Ok object) asked is =
    let kept = kept_of (kind_of of) bytes object (sym is) in
    rw (kept.kind_is) (same_number (kind_number (kind_of of)))
  where
    same_number : (n : ℕ) → (n == n) ≡ true
    same_number n = grind (arith, nat_tests)

-- ---- the grant is leave for it

asks_for : (of : Registry) → new_action of ≡ request_action (kind_of of)
asks_for registry.Vendors = refl
asks_for registry.Modules = refl
asks_for registry.Environments = refl

of_the_kind : (kind : Kind) (of : Registry) → is_kind kind (kind_of of) ≡ true → kind ≡ kind_of of
of_the_kind Vendor registry.Vendors same = refl
of_the_kind Module registry.Modules same = refl
of_the_kind Environment registry.Environments same = refl
of_the_kind Certification registry.Vendors same = absurd (cc)
of_the_kind _ _ same = absurd (cc)

pub registration_covered : (of : Registry) (u : ℕ) (object : KeptObject) (asked : Grounds) (g : Granted)
    → is_kind object.kind (kind_of of) ≡ true → g.action ≡ new_action of → g.resource ≡ resource.Account
    → g.account ≡ u → nat_lt asked.requests 999999 ≡ true → CoversAny g (object_change u (Ok object) asked)
registration_covered of u object asked g kind acts on is few = (
  (acts ∙ asks_for of ∙ ap request_action (sym (of_the_kind object.kind of kind)), on, is),
  number_of u asked.requests few,
)

pub certification_covered : (u session : ℕ) (parts : CertifyBody) (asked : Grounds) (g : Granted)
    → g.action ≡ action.Certify → g.resource ≡ resource.Session session
    → g.account ≡ u → g.account ≡ account_of_session session → nat_lt asked.requests 999999 ≡ true
    → CoversAny g (certification_change u session (Ok parts) asked)
certification_covered u session parts asked g acts on is own few =
    ((acts, on, is, own), (sym is ∙ own, number_of u asked.requests few))

-- ---- it is next

module _ (accounts : (u n : ℕ) (state : State)
    → account_at n (own u state).accounts ≡ (if n == u then account_at n state.accounts else None))
    (objects : (u n : ℕ) (kind : Kind) (state : State) → IsWellNumbered state
    → object_at kind n (own u state).objects ≡ (if owner_of n == u then object_at kind n state.objects else None))
    (names : (n : ℕ) (kind : Kind) (state : State) (row : ObjectRow) → IsWellNumbered state
    → object_at kind n state.objects ≡ Some row → row.account ≡ owner_of n)
    (state : State) (well : IsWellNumbered state) (u : ℕ) where
  own_account : is_some (account_at u state.accounts) ≡ true → is_account_there u (own u state) ≡ true
  own_account there = let same : (u == u) ≡ true = grind (arith, nat_tests) in rw (accounts u u state, same) there

  -- an object of the account is among its rows
  own_there : (kind : Kind) (n : ℕ) → is_some (own_object kind u n state.objects) ≡ true
      → is_some (object_at kind n (own u state).objects) ≡ true
  own_there kind n there = rw (objects u n kind state well) (go (object_at kind n state.objects) refl there)
    where
      at : (row : ObjectRow) (b : Bool) → (row.account == u) ≡ b → row.account ≡ owner_of n
          → is_some (if b then Some row else None) ≡ true
          → is_some (if owner_of n == u then Some row else None) ≡ true
      at row true e is there = let same : (owner_of n == u) ≡ true = rw is at e in rw same refl
      at row false e is there = absurd (cc)

      go : (found : Option ObjectRow) → object_at kind n state.objects ≡ found
          → is_some (option_and_then (λ (row : ObjectRow). if row.account == u then Some row else None) found) ≡ true
          → is_some (if owner_of n == u then found else None) ≡ true
      go None e there = absurd (cc)
      go (Some row) e there = at row (row.account == u) refl (names n kind state row well e) there

  vendor_there : (object : KeptObject) → has_own_vendor u state.objects object ≡ true
      → has_vendor (own u state).objects object ≡ true
  vendor_there object named = go (object_vendor object) named
    where
      go : (vendor : Option ℕ) → is_none_or vendor (λ n. is_some (own_object Vendor u n state.objects)) ≡ true
          → of_all (λ n. is_some (object_at Vendor n (own u state).objects)) vendor ≡ true
      go None e = refl
      go (Some n) e = own_there Vendor n e

  sound_registration : (kind : Kind) (bytes : List ℕ) (object : KeptObject) → object_in kind bytes ≡ Ok object
      → (object_grounds u (object_in kind bytes) state).named ≡ true
      → is_sound_body (own u state) (body.Registration object) ≡ true
  sound_registration kind bytes object is named =
      let kept = kept_of kind bytes object is in
      let vendor : has_own_vendor u state.objects object ≡ true = rw is at named in
      rw (kept.fits, vendor_there object vendor) refl

  pub next_registration : (kind : Kind) (bytes : List ℕ) (object : KeptObject)
      → is_some (account_at u state.accounts) ≡ true → object_in kind bytes ≡ Ok object
      → first_broken (grounds_conditions (object_grounds u (object_in kind bytes) state)) ≡ None
      → IsNextFor (own u state)
      (change.NewRequest (request_made u (object_grounds u (object_in kind bytes) state) object))
  unfolding own
  next_registration kind bytes object there is held =
      let few = few_asked (object_grounds u (object_in kind bytes) state) held in (
        own_account there,
        (refl, grind (arith, nat_tests, few)),
        sound_registration kind bytes object is (all_named (object_grounds u (object_in kind bytes) state) held),
      )

  sound_certification : (bytes : List ℕ) (session : ℕ) (parts : CertifyBody) → certified_in bytes ≡ Ok parts
      → (certification_grounds u (certified_in bytes) state).named ≡ true
      → is_some (session_record_at session (own u state).sessions) ≡ true
      → is_sound_body (own u state)
      (body.Certification (record { «module» = parts.module; environment = parts.environment; session = session }))
      ≡ true
  sound_certification bytes session parts is named there =
      let both : has_own_parts u state.objects parts ≡ true = rw is at named in
      let module_there = own_there Module parts.module
      (left_true (is_some (own_object Module u parts.module state.objects))
      (is_some (own_object Environment u parts.environment state.objects)) both) in
      let environment_there = own_there Environment parts.environment
      (right_true (is_some (own_object Module u parts.module state.objects))
      (is_some (own_object Environment u parts.environment state.objects)) both) in
      rw (module_there, environment_there, there) refl

  pub next_certification : (sessions : (u n : ℕ) (state : State) → IsWellNumbered state
      → session_record_at n (own u state).sessions
      ≡ (if owner_of n == u then session_record_at n state.sessions else None))
      → (seeds : List (List ℕ)) (bytes : List ℕ) (session : ℕ) (parts : CertifyBody)
      → is_some (account_at u state.accounts) ≡ true → owner_of session ≡ u
      → is_some (session_facts seeds state session) ≡ true → certified_in bytes ≡ Ok parts
      → first_broken (grounds_conditions (certification_grounds u (certified_in bytes) state)) ≡ None
      → IsNextFor (own u state)
      (change.Certify (certification_made u session (certification_grounds u (certified_in bytes) state) parts))
  unfolding own
  next_certification sessions seeds bytes session parts there owned found is held =
      let few = few_asked (certification_grounds u (certified_in bytes) state) held in
      let mine : is_some (session_record_at session (own u state).sessions) ≡ true =
      own_session seeds session state (session_record_at session (own u state).sessions)
      (rw (← owned) (sessions (owner_of session) session state well)) found in (
        own_account there,
        (refl, grind (arith, nat_tests, few)),
        sound_certification bytes session parts is
            (all_named (certification_grounds u (certified_in bytes) state) held) mine,
      )
