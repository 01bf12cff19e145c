-- No definition of an answer says that the server is unavailable.
use Rattle.std.proofs.Common.{◌≡◌, ℕ, List, [], ◌∷◌, ◌++◌, map, Bool, true, false, ◌&&◌, Option, None, Some, Err, refl}
use Rattle.std.specs.Prelude.{Ok, Result, option_map, option_and_then, if◌then◌else◌, not}
use Rattle.std.specs.List.{flat_map, list_all}
use Rattle.acvp_caps.specs.Algorithms.{is_hmac_of}
use Rattle.acvp_caps.specs.Registered.{algorithm_at, algorithm_conditions, capabilities_at, capability_conditions}
use Rattle.acvp_caps.specs.Registered.{parameter_conditions, registration_conditions}
use Rattle.acvp_caps.specs.declared.algorithm.Algorithm.{Algorithm}
use Rattle.acvp_caps.specs.declared.CapFault.{CapFault}
use Rattle.acvp_caps.specs.declared.CapFault.TheVariants as cap
use Rattle.acvp_gen.specs.Prompt.{PromptsValue}
use Rattle.acvp_json.specs.AnswersBody.{all_given_conditions, answers_body_conditions, submission_conditions}
use Rattle.acvp_json.specs.CertifyBody.{certify_body_of, certify_body_conditions}
use Rattle.acvp_json.specs.Data.{Data}
use Rattle.acvp_json.specs.Envelope.{envelope_conditions, object_of}
use Rattle.acvp_json.specs.LoginBody.{login_body_conditions}
use Rattle.acvp_json.specs.ReviewerBody.{reviewer_body_conditions}
use Rattle.acvp_json.specs.Elements.{joined}
use Rattle.acvp_json.specs.SubmittedAnswers.{GivenValue, SubmissionValue, submission_of}
use Rattle.acvp_json.specs.declared.fault.BodyFault.{BodyFault}
use Rattle.acvp_json.specs.declared.fault.BodyFault.TheVariants as fault
use Rattle.acvp_mac.specs.Conditions.{Condition, first_broken, with_fault}
use Rattle.acvp_policy.specs.Conditions.{claims_of, is_reviewer}
use Rattle.acvp_policy.specs.Policy.{caller_conditions, claims_conditions, policy, resource_conditions}
use Rattle.acvp_policy.specs.Policy.{session_conditions}
use Rattle.acvp_policy.specs.Scope.{scope_of}
use Rattle.acvp_policy.specs.declared.action.Action.{Action}
use Rattle.acvp_policy.specs.declared.action.Action.TheVariants as action
use Rattle.acvp_policy.specs.declared.action.Scope.{Scope}
use Rattle.acvp_policy.specs.declared.action.Scope.TheVariants as scope
use Rattle.acvp_policy.specs.declared.facts.Facts.{Facts}
use Rattle.acvp_policy.specs.declared.rule.Rule.{Rule}
use Rattle.acvp_policy.specs.declared.rule.Rule.TheVariants as rule
use Rattle.acvp_policy.specs.Decision.{account_of_claims}
use Rattle.acvp_registry.specs.Object.{object_conditions}
use Rattle.acvp_registry.specs.declared.fault.RegFault.{RegFault}
use Rattle.acvp_registry.specs.declared.fault.RegFault.TheVariants as reg
use Rattle.acvp_registry.specs.declared.kind.Kind.{Kind}
use Rattle.acvp_tables.specs.State.{State}
use Rattle.acvp_desk.specs.Answer.{action_in, answer, asker_of, conditions, facts_in, first_conditions}
use Rattle.acvp_desk.specs.Answer.{first_conditions_on, found_of, later_of, own_conditions, policy_conditions, reply_to}
use Rattle.acvp_desk.specs.Asked.{certified_conditions, certified_in, judged_read, kept_as, object_in}
use Rattle.acvp_desk.specs.Asked.{requested_conditions, registered_conditions}
use Rattle.acvp_desk.specs.Bodies.{body_conditions, object_conditions as conditions_on, object_rule, registration_rule}
use Rattle.acvp_desk.specs.Bodies.{rule_of}
use Rattle.acvp_desk.specs.OwnConditions.{place_conditions, prompted_conditions, submitted_conditions}
use Rattle.acvp_desk.specs.Registries.{kind_of}
use Rattle.acvp_desk.specs.Replies.{prompts_from}
use Rattle.acvp_desk.specs.Request.{RequestValue}
use Rattle.acvp_desk.specs.declared.ask.Asker.{Asker}
use Rattle.acvp_desk.specs.declared.ask.Asker.TheVariants.{Login, Caller}
use Rattle.acvp_desk.specs.declared.found.Place.{Place}
use Rattle.acvp_desk.specs.declared.found.Place.TheVariants as place
use Rattle.acvp_desk.specs.declared.found.RegistryPlace.TheVariants as in_registry
use Rattle.acvp_desk.specs.declared.found.SessionPlace.TheVariants as in_session
use Rattle.acvp_desk.specs.declared.found.SetPlace.TheVariants as in_set
use Rattle.acvp_desk.specs.declared.found.Submission.{Submission}
use Rattle.acvp_desk.specs.declared.found.Grounds.{Grounds}
use Rattle.acvp_desk.specs.declared.keys.Keys.{Keys}
use Rattle.acvp_desk.specs.declared.wish.RegistryWish.TheVariants as on_registry
use Rattle.acvp_desk.specs.declared.wish.AccountWish.TheVariants as on_account
use Rattle.acvp_desk.specs.declared.wish.Wish.TheVariants as wish
use Rattle.acvp_desk.specs.declared.wish.Wish.{Wish}
use Rattle.acvp_desk.specs.declared.request.Ask.{Ask}
use Rattle.acvp_desk.specs.declared.request.Ask.TheVariants as request
use Rattle.acvp_desk.specs.Place.{place_of}
use Rattle.acvp_desk.proofs.FirstBroken.{broken}

-- no condition has such a fault
abbrev lacks : {F : Type 0} → (F → Bool) → List (Condition F) → Bool
lacks such conditions = list_all (λ c. not (such c.1)) conditions

both_lack : {F : Type 0} (such : F → Bool) (front rest : List (Condition F)) → lacks such front ≡ true
    → lacks such rest ≡ true → lacks such (front ++ rest) ≡ true
both_lack such [] rest a b = b
both_lack such (c ∷ front) rest a b = go (such c.1) (λ e. both_lack such front rest e b) a
  where
    go : (x : Bool) → (lacks such front ≡ true → lacks such (front ++ rest) ≡ true) → (not x && lacks such front) ≡ true
        → (not x && lacks such (front ++ rest)) ≡ true
    go true later e = absurd (cc)
    go false later e = later e

-- so none is broken by such a fault
not_broken : {F : Type 0} (such : F → Bool) (conditions : List (Condition F)) (f : F) → lacks such conditions ≡ true
    → first_broken conditions ≡ Some f → such f ≡ false
not_broken such [] f lack is = absurd (cc)
not_broken {F = F} such (c ∷ conditions) f lack is = go c.0 is (such c.1) refl lack (not_broken such conditions f)
  where
    go : (holds : Bool) → first_broken ((holds, c.1) ∷ conditions) ≡ Some f → (x : Bool) → such c.1 ≡ x
        → (not x && lacks such conditions) ≡ true
        → (lacks such conditions ≡ true → first_broken conditions ≡ Some f → such f ≡ false) → such f ≡ false
    go holds is true e lack later = absurd (cc)
    go true is false e lack later = later lack is
    go false is false e lack later = let same : c.1 ≡ f = cc (is) in rw (← same) e

-- ---- faults of memory

abbrev is_memory : BodyFault → Bool
is_memory fault.Memory = true
is_memory _ = false

abbrev is_memory_of_caps : CapFault → Bool
is_memory_of_caps cap.Memory = true
is_memory_of_caps _ = false

abbrev is_memory_of_objects : RegFault → Bool
is_memory_of_objects reg.Memory = true
is_memory_of_objects _ = false

abbrev is_unavailable : Rule → Bool
is_unavailable rule.Unavailable = true
is_unavailable _ = false

-- a fault that is none of memory is told as another rule
rule_lacks : (f : BodyFault) → is_memory f ≡ false → is_unavailable (rule_of f) ≡ false
rule_lacks fault.Memory e = absurd (cc)
rule_lacks _ e = refl

caps_lack : (f : CapFault) → is_memory_of_caps f ≡ false → is_unavailable (registration_rule f) ≡ false
caps_lack cap.Memory e = absurd (cc)
caps_lack _ e = refl

objects_lack : (f : RegFault) → is_memory_of_objects f ≡ false → is_unavailable (object_rule f) ≡ false
objects_lack reg.Field e = refl
objects_lack reg.NoReference e = refl
objects_lack reg.Memory e = absurd (cc)

told_lack : {F : Type 0} (such : F → Bool) (told : F → Rule)
    → ((f : F) → such f ≡ false → is_unavailable (told f) ≡ false) → (conditions : List (Condition F))
    → lacks such conditions ≡ true
    → lacks is_unavailable (map (with_fault told) conditions) ≡ true
told_lack such told each [] lack = refl
told_lack such told each (c ∷ conditions) lack = go (such c.1) refl lack (told_lack such told each conditions)
  where
    go : (x : Bool) → such c.1 ≡ x → (not x && lacks such conditions) ≡ true
        → (lacks such conditions ≡ true → lacks is_unavailable (map (with_fault told) conditions) ≡ true)
        → (not (is_unavailable (told c.1)) && lacks is_unavailable (map (with_fault told) conditions)) ≡ true
    go true e lack later = absurd (cc)
    go false e lack later = rw (each c.1 e) (later lack)

-- ---- bodies

body_lacks : {F : Type 0} (such : F → Bool) (told : F → Rule)
    → ((f : F) → such f ≡ false → is_unavailable (told f) ≡ false) → (asked : Data → List (Condition F))
    → ((d : Data) → lacks such (asked d) ≡ true) → (body : List ℕ)
    → lacks is_unavailable (body_conditions told asked body) ≡ true
body_lacks such told each asked lack body = go (object_of body)
  where
    go : (d : Option Data) → lacks is_unavailable
        (map (with_fault rule_of) (envelope_conditions body) ++ map (with_fault told) (conditions_on asked d)) ≡ true
    go None = refl
    go (Some d) = told_lack such told each (asked d) (lack d)

chosen_lack : {F : Type 0} (such : F → Bool) (b : Bool) (one other : List (Condition F)) → lacks such one ≡ true
    → lacks such other ≡ true → lacks such (if b then one else other) ≡ true
chosen_lack such true one other x y = x
chosen_lack such false one other x y = y

parameters_lack : (d : Data) (a : Algorithm) → lacks is_memory_of_caps (parameter_conditions d a) ≡ true
parameters_lack d a = chosen_lack is_memory_of_caps (is_hmac_of a) _ _ refl refl

capability_lacks : (d : Data) → lacks is_memory_of_caps (capability_conditions d) ≡ true
capability_lacks d = go (algorithm_at d)
  where
    go : (a : Option Algorithm) → lacks is_memory_of_caps (algorithm_conditions d a) ≡ true
    go None = refl
    go (Some a) = parameters_lack d a

capabilities_lack : (ds : List Data) → lacks is_memory_of_caps (flat_map capability_conditions ds) ≡ true
capabilities_lack [] = refl
capabilities_lack (d ∷ ds) = both_lack is_memory_of_caps (capability_conditions d) (flat_map capability_conditions ds)
    (capability_lacks d) (capabilities_lack ds)

given_lack : (prompts : PromptsValue) (before : List ℕ) (given : List GivenValue)
    → lacks is_memory (all_given_conditions prompts before given) ≡ true
given_lack prompts before [] = refl
given_lack prompts before (first ∷ more) = given_lack prompts (before ++ first.test ∷ []) more

answers_lack : (prompts : PromptsValue) (d : Data) → lacks is_memory (answers_body_conditions d prompts) ≡ true
answers_lack prompts d = go (submission_of d)
  where
    go : (s : Option SubmissionValue) → lacks is_memory (submission_conditions prompts s) ≡ true
    go None = refl
    go (Some s) = given_lack prompts [] (joined s.groups)

-- ---- the policy

claims_lack : (s : Scope) (f : Facts) → lacks is_unavailable (claims_conditions s f) ≡ true
claims_lack scope.ReviewableResource f = go (is_reviewer f)
  where
    go : (b : Bool) → lacks is_unavailable (caller_conditions f ++ (if b then [] else session_conditions f)) ≡ true
    go true = refl
    go false = refl
claims_lack _ f = refl

resources_lack : (a : Action) (f : Facts) → lacks is_unavailable (resource_conditions a f) ≡ true
resources_lack action.AddReviewer f = refl
resources_lack _ f = refl

policy_lacks : (a : Action) (f : Facts) → lacks is_unavailable (policy a f) ≡ true
unfolding policy
policy_lacks a f = both_lack is_unavailable (claims_conditions (scope_of a) f) (resource_conditions a f)
    (claims_lack (scope_of a) f) (resources_lack a f)

-- ---- what is read of a body

-- the rule that is told is another
abbrev is_told : {X : Type 0} → Result X Rule → Bool
is_told (Ok x) = true
is_told (Err broken) = not (is_unavailable broken)

judged_told : {X : Type 0} (conditions : List (Condition Rule)) (read : Option X)
    → lacks is_unavailable conditions ≡ true → is_told (judged_read (first_broken conditions) read) ≡ true
judged_told conditions read lack = go (first_broken conditions) refl read
  where
    go : {X : Type 0} (b : Option Rule) → first_broken conditions ≡ b → (read : Option X)
        → is_told (judged_read b read) ≡ true
    go (Some broken) e read = rw (not_broken is_unavailable conditions broken lack e) refl
    go None e None = refl
    go None e (Some x) = refl

object_told : (kind : Kind) (body : List ℕ) → is_told (object_in kind body) ≡ true
unfolding object_in
object_told kind body = judged_told (registered_conditions kind body) (option_map (kept_as kind) (object_of body))
    (body_lacks is_memory_of_objects object_rule objects_lack (object_conditions kind) (λ d. refl) body)

parts_told : (body : List ℕ) → is_told (certified_in body) ≡ true
unfolding certified_in
parts_told body = judged_told (certified_conditions body) (option_and_then certify_body_of (object_of body))
    (body_lacks is_memory rule_of rule_lacks certify_body_conditions (λ d. refl) body)

read_lacks : {X : Type 0} (read : Result X Rule) (asked : Grounds) → is_told read ≡ true
    → lacks is_unavailable (requested_conditions read asked) ≡ true
read_lacks (Ok x) asked told = refl
read_lacks (Err broken) asked told = rw told refl

-- ---- what an action asks itself

with_room : (front : List (Condition Rule)) (room : Bool) (full : Rule) → is_unavailable full ≡ false
    → lacks is_unavailable front ≡ true → lacks is_unavailable (front ++ (room, full) ∷ []) ≡ true
with_room front room full other lack = both_lack is_unavailable front ((room, full) ∷ []) lack (rw other refl)

module _ (seeds : List (List ℕ)) (body : List ℕ) where
  submission_lacks : (n : ℕ) (s : Option Submission) → lacks is_unavailable (submitted_conditions seeds n body s) ≡ true
  submission_lacks n None = refl
  submission_lacks n (Some s) = go (prompts_from seeds n s.source)
    where
      go : (prompts : Option PromptsValue) → lacks is_unavailable (prompted_conditions body prompts) ≡ true
      go None = refl
      go (Some prompts) = body_lacks is_memory rule_of rule_lacks (λ d. answers_body_conditions d prompts)
          (answers_lack prompts) body

  abbrev reads : Place → Bool
  reads (place.Certify n found parts asked) = is_told parts
  reads (place.Registry (in_registry.New of object asked)) = is_told object
  reads _ = true

  place_lacks : (it : Place) → reads it ≡ true → lacks is_unavailable (place_conditions seeds body it) ≡ true
  place_lacks (place.Session n found (in_session.AddReviewer accounts)) told =
      with_room (body_conditions rule_of reviewer_body_conditions body) _ rule.ReviewersFull refl
      (body_lacks is_memory rule_of rule_lacks reviewer_body_conditions (λ d. refl) body)
  place_lacks (place.NewSession sessions) told =
      with_room (body_conditions registration_rule registration_conditions body) _ rule.AccountFull refl
      (body_lacks is_memory_of_caps registration_rule caps_lack registration_conditions
      (λ d. capabilities_lack (capabilities_at d)) body)
  place_lacks (place.Set session n found (in_set.Submit s)) told = submission_lacks n s
  place_lacks (place.Set session n found (in_set.Resubmit s)) told = submission_lacks n s
  place_lacks (place.Certify n found parts asked) told = read_lacks parts asked told
  place_lacks (place.Registry (in_registry.New of object asked)) told = read_lacks object asked told
  place_lacks _ told = refl

-- what is read of a body is told so
wish_reads : (seeds : List (List ℕ)) (u : ℕ) (body : List ℕ) (state : State) (it : Wish)
    → reads seeds body (place_of seeds u body state it) ≡ true
wish_reads seeds u body state (wish.Account on_account.Read) = refl
wish_reads seeds u body state (wish.Certify n) = parts_told body
wish_reads seeds u body state (wish.Registry (on_registry.New of)) = object_told (kind_of of) body
wish_reads seeds u body state _ = refl

-- ---- all conditions

module _ (keys : Keys) (moment : ℕ) (r : RequestValue) (state : State) where
  later_lacks : (asked : Option Asker) → lacks is_unavailable (later_of keys.seed moment r asked state) ≡ true
  unfolding policy_conditions found_of
  later_lacks None = refl
  later_lacks (Some it) =
      let found = found_of keys.seed r.body it state in
      both_lack is_unavailable (policy_conditions moment found) (own_conditions keys.seed r.body found)
      (policy_lacks (action_in found) (facts_in moment found)) (own_lacks it)
    where
      own_lacks : (it : Asker) → lacks is_unavailable
          (own_conditions keys.seed r.body (found_of keys.seed r.body it state)) ≡ true
      own_lacks (Login login) = refl
      own_lacks (Caller caller) =
          let at = place_of keys.seed (account_of_claims (claims_of caller.token)) r.body state caller.wish in
          place_lacks keys.seed r.body at (wish_reads keys.seed
          (account_of_claims (claims_of caller.token)) r.body state caller.wish)

  first_lacks : (a : Ask) → lacks is_unavailable (first_conditions_on a r) ≡ true
  first_lacks request.Login = body_lacks is_memory rule_of rule_lacks login_body_conditions (λ d. refl) r.body
  first_lacks (request.Caller it) = refl

  pub never_unavailable : answer keys moment r state ≡ Err rule.Unavailable → ⊥
  unfolding answer
  never_unavailable is =
      let all = conditions keys moment r state in
      let none = not_broken is_unavailable all rule.Unavailable
      (both_lack is_unavailable (first_conditions moment r) (later_of keys.seed moment r (asker_of keys moment r) state)
      (first_lacks r.ask) (later_lacks (asker_of keys moment r)))
      (broken all (reply_to keys moment r (asker_of keys moment r) state) rule.Unavailable is) in
      cc
