-- A new test session is next, and the grant of its action is leave for it.
use Rattle.std.proofs.Common.{◌≡◌, ℕ, zero, suc, ◌+◌, ◌*◌, ◌≤◌, List, [], ◌∷◌, ◌++◌, map, Bool, true, false, Option}
use Rattle.std.proofs.Common.{None, Some, refl, ap, length, arith}
use Rattle.std.proofs.lemmas.Bool.Decides.{nat_tests}
use Rattle.std.proofs.lemmas.List.Elements.{All-nil, All-cons, All-append}
use Rattle.std.specs.Prelude.{◌&&◌, ◌==◌, All, nat_le, nat_lt, not, codes, is_some, option_map, option_and_then}
use Rattle.std.specs.Prelude.{unwrap_or, if◌then◌else◌, slice_get}
use Rattle.std.specs.List.{filter_map, flat_map, range_with_len}
use Rattle.acvp_caps.specs.Capability.{CapabilityValue}
use Rattle.acvp_caps.specs.Json.{is_text, text_at}
use Rattle.acvp_caps.specs.Registered.{algorithm_at, algorithm_conditions, capabilities_at, capability_at}
use Rattle.acvp_caps.specs.Registered.{capability_conditions, encryption_at, registration_at, registration_conditions}
use Rattle.acvp_caps.specs.Registered.{sample_at}
use Rattle.acvp_caps.specs.Registration.{RegistrationValue}
use Rattle.acvp_caps.specs.declared.CapFault.TheVariants as cap
use Rattle.acvp_json.specs.Data.{Data}
use Rattle.acvp_json.specs.Envelope.{envelope_conditions, object_of}
use Rattle.acvp_mac.specs.Conditions.{Condition, first_broken, with_fault}
use Rattle.acvp_policy.specs.Granted.{Granted}
use Rattle.acvp_policy.specs.declared.action.Action.TheVariants as action
use Rattle.acvp_policy.specs.declared.resource.Resource.TheVariants as resource
use Rattle.acvp_tables.specs.Changes.{new_sets}
use Rattle.acvp_tables.specs.Content.{account_at}
use Rattle.acvp_tables.specs.Next.{IsNextFor}
use Rattle.acvp_tables.specs.State.{State, own, owner_of, first_of_account, is_account_there, record_counts}
use Rattle.acvp_tables.specs.declared.change.Change.TheVariants as change
use Rattle.acvp_tables.specs.declared.rows.SetRow.{SetRow}
use Rattle.acvp_desk.specs.Bodies.{body_conditions, object_conditions, registration_rule, rule_of}
use Rattle.acvp_desk.specs.Kept.{IsGradedSet}
use Rattle.acvp_desk.specs.NewSessions.{newest_epoch, new_session_in, registration_in, session_made}
use Rattle.acvp_desk.specs.Private.Covered.{CoversAny}
use Rattle.acvp_desk.proofs.FirstBroken.{back_held, first_held, whole_held}

-- ---- what is registered

pub renamed_held : {F G : Type 0} (told : F → G) (conditions : List (Condition F))
    → first_broken (map (with_fault told) conditions) ≡ None → first_broken conditions ≡ None
renamed_held told [] held = refl
renamed_held {F = F} told (c ∷ conditions) held = go c.0 (renamed_held told conditions) held
  where
    go : (b : Bool) → (first_broken (map (with_fault told) conditions) ≡ None → first_broken conditions ≡ None)
        → first_broken ((b, told c.1) ∷ map (with_fault told) conditions) ≡ None
        → first_broken ((b, c.1) ∷ conditions) ≡ None
    go true later e = later e
    go false later e = absurd (cc)

pub left_true : (a b : Bool) → (a && b) ≡ true → a ≡ true
left_true true b e = refl
left_true false b e = absurd (cc)

pub right_true : (a b : Bool) → (a && b) ≡ true → b ≡ true
right_true true b e = e
right_true false b e = absurd (cc)

-- where all conditions on capabilities hold, each value is one
as_many : (values : List Data) → first_broken (flat_map capability_conditions values) ≡ None
    → length (filter_map capability_at values) ≡ length values
as_many [] held = refl
as_many (d ∷ values) held =
    let here = whole_held (capability_conditions d) (flat_map capability_conditions values) held in
    let there = back_held (capability_conditions d) (flat_map capability_conditions values) held in
    let named = back_held ((
      is_some (text_at (codes "algorithm") d) && is_some (text_at (codes "revision") d),
      cap.Field,
    ) ∷ [])
    ((is_some (algorithm_at d) && is_text (codes "1.0") (text_at (codes "revision") d), cap.Unsupported)
    ∷ algorithm_conditions d (algorithm_at d)) here in
    let offered = left_true (is_some (algorithm_at d)) (is_text (codes "1.0") (text_at (codes "revision") d))
    (first_held (is_some (algorithm_at d) && is_text (codes "1.0") (text_at (codes "revision") d)) cap.Unsupported
    (algorithm_conditions d (algorithm_at d)) named) in
    go (capability_at d) refl (is_one _ (algorithm_at d) offered) (as_many values there)
  where
    is_one : {A B : Type 0} (f : A → B) (a : Option A) → is_some a ≡ true → is_some (option_map f a) ≡ true
    is_one f None e = absurd (cc)
    is_one f (Some a) e = refl

    go : (c : Option CapabilityValue) → capability_at d ≡ c → is_some c ≡ true
        → length (filter_map capability_at values) ≡ length values
        → length (filter_map capability_at (d ∷ values)) ≡ suc (length values)
    go None e some later = absurd (cc)
    go (Some c) e some later = rw e (ap suc later)

record HasCapabilities (count : ℕ) : Type 0 where
  least : 1 ≤ count
  most : count ≤ 20

counted : (d : Data) → first_broken (registration_conditions d) ≡ None
    → HasCapabilities (length (registration_at d).capabilities)
counted d held =
    let few = first_held (nat_le 1 (length (capabilities_at d)) && nat_le (length (capabilities_at d)) 20) cap.Field
    ((is_some (sample_at d), cap.Field) ∷ (is_some (encryption_at d), cap.Field)
    ∷ (not (unwrap_or (encryption_at d) false), cap.Unsupported)
    ∷ flat_map capability_conditions (capabilities_at d)) held in
    let each = back_held ((nat_le 1 (length (capabilities_at d)) && nat_le (length (capabilities_at d)) 20, cap.Field)
    ∷ (is_some (sample_at d), cap.Field) ∷ (is_some (encryption_at d), cap.Field)
    ∷ (not (unwrap_or (encryption_at d) false), cap.Unsupported) ∷ [])
    (flat_map capability_conditions (capabilities_at d)) held in
    let many = as_many (capabilities_at d) each in
    let least = left_true (nat_le 1 (length (capabilities_at d))) (nat_le (length (capabilities_at d)) 20) few in
    let most = right_true (nat_le 1 (length (capabilities_at d))) (nat_le (length (capabilities_at d)) 20) few in
    record { least = rw many (grind (arith, nat_tests, least)); most = rw many (grind (arith, nat_tests, most)) }

registered_counted : (body : List ℕ) (registration : RegistrationValue)
    → first_broken (body_conditions registration_rule registration_conditions body) ≡ None
    → registration_in body ≡ Some registration → HasCapabilities (length registration.capabilities)
unfolding registration_in
registered_counted body registration held is =
    go (object_of body) is (back_held (map (with_fault rule_of) (envelope_conditions body))
    (map (with_fault registration_rule) (object_conditions registration_conditions (object_of body))) held)
  where
    go : (d : Option Data) → option_map registration_at d ≡ Some registration
        → first_broken (map (with_fault registration_rule) (object_conditions registration_conditions d)) ≡ None
        → HasCapabilities (length registration.capabilities)
    go None e held = absurd (cc)
    go (Some d) e held = let same : registration_at d ≡ registration = cc in
        rw (← same) (counted d (renamed_held registration_rule (registration_conditions d) held))

-- ---- its number

pub number_of : (u k : ℕ) → nat_lt k 999999 ≡ true → owner_of (first_of_account u + k) ≡ u
number_of u k few = grind (arith, nat_tests, few)

-- the grant is leave for it
pub registers : (seeds : List (List ℕ)) (m u n : ℕ) (body : List ℕ) (g : Granted) → g.action ≡ action.NewSession
    → g.resource ≡ resource.Account → g.account ≡ u
    → nat_lt n 999999 ≡ true → CoversAny g (option_map change.NewSession (new_session_in seeds m u n body))
registers seeds m u n body g acts on is few = go (newest_epoch seeds) (registration_in body)
  where
    go : (epoch : Option ℕ) (registration : Option RegistrationValue)
        → CoversAny g (option_map change.NewSession
        (option_and_then (λ epoch. option_map (session_made m u n epoch) registration) epoch))
    go None registration = tt
    go (Some epoch) None = tt
    go (Some epoch) (Some registration) = ((acts, on, is), number_of u n few)

-- it is next
pub next_session : (accounts : (u n : ℕ) (state : State)
    → account_at n (own u state).accounts ≡ (if n == u then account_at n state.accounts else None))
    → (state : State) (m u epoch : ℕ) (registration : RegistrationValue) (body : List ℕ)
    → is_some (account_at u state.accounts) ≡ true → nat_lt m 4102444800 ≡ true
    → nat_lt (record_counts u state).sessions 999999 ≡ true
    → first_broken (body_conditions registration_rule registration_conditions body) ≡ None
    → registration_in body ≡ Some registration
    → IsNextFor (own u state) (change.NewSession (session_made m u (record_counts u state).sessions epoch registration))
unfolding own
next_session accounts state m u epoch registration body there served few held is =
    let counted = registered_counted body registration held is in
    (own_account, (refl, grind (arith, nat_tests, few)), served, counted.least, counted.most)
  where
    own_account : is_account_there u (own u state) ≡ true
    own_account = let same : (u == u) ≡ true = grind (arith, nat_tests) in rw (accounts u u state, same) there

-- its vector sets have the newest seed
seed_there : {X : Type 0} (x : X) (xs : List X) → (y : X) × (slice_get (x ∷ xs) (length xs) ≡ Some y)
seed_there x [] = (x, refl)
seed_there x (y ∷ xs) = seed_there y xs

new_graded : (seeds : List (List ℕ)) (seed : List ℕ) (session epoch i : ℕ) (capabilities : List CapabilityValue)
    → slice_get seeds epoch ≡ Some seed
    → All (IsGradedSet seeds) (new_sets session epoch i capabilities)
unfolding IsGradedSet
new_graded seeds seed session epoch i [] there = All-nil (IsGradedSet seeds)
new_graded seeds seed session epoch i (capability ∷ rest) there =
    All-cons (IsGradedSet seeds)
    (record {
      number = session * 100 + i;
      session = session;
      capability = capability;
      epoch = epoch;
      cancelled =
          false;
      graded = None;
    })
    (new_sets session epoch (i + 1) rest) (seed, there, tt) (new_graded seeds seed session epoch (i + 1) rest there)

pub sets_graded : (seeds : List (List ℕ)) (epoch session : ℕ) (capabilities : List CapabilityValue) (rows : List SetRow)
    → newest_epoch seeds ≡ Some epoch
    → All (IsGradedSet seeds) rows → All (IsGradedSet seeds) (rows ++ new_sets session epoch 1 capabilities)
sets_graded [] epoch session capabilities rows newest graded = absurd (cc)
sets_graded (seed ∷ seeds) epoch session capabilities rows newest graded =
    let same : length seeds ≡ epoch = cc in
    let there = seed_there seed seeds in
    All-append (IsGradedSet (seed ∷ seeds)) rows (new_sets session epoch 1 capabilities) graded
    (new_graded (seed ∷ seeds) there.0 session epoch 1 capabilities (rw (← same) there.1))

-- one number more
pub one_more : (a n m k : ℕ) → m ≡ suc n → a + n ≡ k → range_with_len a m ≡ range_with_len a n ++ k ∷ []
one_more a zero m k more is = let same : a ≡ k = omega (arith, is) in rw more (ap (λ x. x ∷ []) same)
one_more a (suc n) m k more is = rw more (ap (λ rest. a ∷ rest) (one_more (a + 1) n (suc n) k refl (omega (arith, is))))
