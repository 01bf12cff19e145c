-- What a grant tells of the facts that it was given on: every condition held.
use Rattle.std.proofs.Common.{◌≡◌, ℕ, Bool, true, false, ◌&&◌, List, [], ◌∷◌, ◌++◌, ◌==◌, Option, Some, None, is_some}
use Rattle.std.proofs.Common.{is_none}
use Rattle.std.proofs.Common.{Ok, IfSome, ◌⊎◌, inl, inr, refl, arith, if◌then◌else◌}
use Rattle.std.specs.List.{list_all}
use Rattle.std.proofs.lemmas.Bool.Decides.{nat_tests}
use Rattle.acvp_token.specs.Conditions.{Condition, first_broken, judged}
use Rattle.acvp_token.specs.SessionNumber.{account_of_session}
use Rattle.acvp_token.specs.declared.Claims.{Claims}
use Rattle.acvp_policy.specs.declared.rule.Rule.{Rule}
use Rattle.acvp_policy.specs.declared.action.Action.{Action}
use Rattle.acvp_policy.specs.declared.action.Action.TheVariants as action
use Rattle.acvp_policy.specs.declared.facts.Facts.{Facts}
use Rattle.acvp_policy.specs.declared.facts.LoginFacts.{LoginFacts}
use Rattle.acvp_policy.specs.declared.facts.RowSubject.{RowSubject}
use Rattle.acvp_policy.specs.declared.facts.Subject.{Subject}
use Rattle.acvp_policy.specs.declared.facts.Subject.TheVariants as subject
use Rattle.acvp_policy.specs.Conditions.{is_account, algorithm_of, session_found, set_found, reviewer_found, vendor_of}
use Rattle.acvp_policy.specs.Conditions.{module_of, environment_of, request_of, login_of, is_some_and, are_of_session}
use Rattle.acvp_policy.specs.Conditions.{claims_of, with_session, is_reviewer}
use Rattle.acvp_policy.specs.declared.facts.Token.{Token}
use Rattle.acvp_policy.specs.declared.facts.Token.TheVariants as token
use Rattle.acvp_policy.specs.declared.resource.Resource.{Resource}
use Rattle.acvp_policy.specs.declared.resource.Resource.TheVariants as resource
use Rattle.acvp_policy.specs.Kinds.{IsOfItsKind, IsOfSession, IsReview, IsAccount, IsAlgorithm, IsSession, IsSet}
use Rattle.acvp_policy.specs.Kinds.{IsReviewer, IsVendor, IsModule, IsEnvironment, IsRequest}
use Rattle.acvp_policy.specs.Resource.{resource_of, session_number}
use Rattle.acvp_policy.specs.Scope.{scope_of}
use Rattle.acvp_policy.specs.declared.action.Scope.TheVariants as scope
use Rattle.acvp_policy.specs.Policy.{caller_conditions, session_conditions, claims_conditions, resource_conditions}
use Rattle.acvp_policy.specs.Decision.{account_of, account_of_claims, acting_account}

abbrev pub holds : Condition Rule → Bool
holds condition = condition.0

-- what is judged to be a value is that value, and every condition holds
pub all_hold : {X : Type 0} (conditions : List (Condition Rule)) (x y : X) → judged conditions x ≡ Ok y →
    (list_all holds conditions ≡ true) × (x ≡ y)
all_hold [] x y h = (refl, cc)
all_hold ((true, rule) ∷ conditions) x y h = all_hold conditions x y h
all_hold ((false, rule) ∷ conditions) x y h = cc

-- where none is broken, all hold
pub none_broken : (conditions : List (Condition Rule)) → first_broken conditions ≡ None
    → list_all holds conditions ≡ true
none_broken [] none = refl
none_broken ((true, rule) ∷ conditions) none = none_broken conditions none
none_broken ((false, rule) ∷ conditions) none = absurd (cc)

-- of two lists, the second holds where both do
pub back_holds : (front back : List (Condition Rule)) → list_all holds (front ++ back) ≡ true →
    list_all holds back ≡ true
back_holds [] back h = h
back_holds ((true, rule) ∷ front) back h = back_holds front back h
back_holds ((false, rule) ∷ front) back h = cc

-- and so does the first
pub front_holds : (front back : List (Condition Rule)) → list_all holds (front ++ back) ≡ true →
    list_all holds front ≡ true
front_holds [] back h = refl
front_holds ((true, rule) ∷ front) back h = front_holds front back h
front_holds ((false, rule) ∷ front) back h = cc

-- What the path names is of a kind where the first condition asks for that kind and holds.

account_kind : (s : Subject) (rest : Bool) → (is_account s && rest) ≡ true → IsAccount (resource_of s)
account_kind subject.Account rest h = refl
account_kind _ rest h = cc

login_kind : (s : Subject) (test : LoginFacts → Bool) (rest : Bool) → (is_some_and (login_of s) test && rest) ≡ true
    → IsAccount (resource_of s)
login_kind (subject.Login found) test rest h = refl
login_kind _ test rest h = cc

algorithm_kind : (s : Subject) (test : ℕ → Bool) (rest : Bool) → (is_some_and (algorithm_of s) test && rest) ≡ true
    → IsAlgorithm (resource_of s)
algorithm_kind (subject.Algorithm number) test rest h = (number, refl)
algorithm_kind _ test rest h = cc

vendor_kind : (s : Subject) (test : RowSubject → Bool) (rest : Bool) → (is_some_and (vendor_of s) test && rest) ≡ true
    → IsVendor (resource_of s)
vendor_kind (subject.Vendor row) test rest h = (row.number, refl)
vendor_kind _ test rest h = cc

module_kind : (s : Subject) (test : RowSubject → Bool) (rest : Bool) → (is_some_and (module_of s) test && rest) ≡ true
    → IsModule (resource_of s)
module_kind (subject.Module row) test rest h = (row.number, refl)
module_kind _ test rest h = cc

environment_kind : (s : Subject) (test : RowSubject → Bool) (rest : Bool)
    → (is_some_and (environment_of s) test && rest) ≡ true → IsEnvironment (resource_of s)
environment_kind (subject.Environment row) test rest h = (row.number, refl)
environment_kind _ test rest h = cc

request_kind : (s : Subject) (test : RowSubject → Bool) (rest : Bool) → (is_some_and (request_of s) test && rest) ≡ true
    → IsRequest (resource_of s)
request_kind (subject.Request row) test rest h = (row.number, refl)
request_kind _ test rest h = cc

session_kind : (s : Subject) (rest : Bool) → (is_some (session_found s) && rest) ≡ true → IsSession (resource_of s)
session_kind (subject.Session on) rest h = (on.session, refl)
session_kind _ rest h = cc

set_kind : (s : Subject) (rest : Bool) → (is_some (set_found s) && rest) ≡ true → IsSet (resource_of s)
set_kind (subject.Set on) rest h = (on.session, on.set, refl)
set_kind _ rest h = cc

reviewer_kind : (s : Subject) (rest : Bool) → (is_some (reviewer_found s) && rest) ≡ true → IsReviewer (resource_of s)
reviewer_kind (subject.Reviewer on) rest h = (on.session, on.reviewer, refl)
reviewer_kind _ rest h = cc

-- what the path names is of the action's kind where the conditions on it hold
pub kind_is : (a : Action) (f : Facts) → list_all holds (resource_conditions a f) ≡ true →
    IsOfItsKind a (resource_of f.subject)
kind_is action.Login f h = login_kind f.subject _ _ h
kind_is action.ReadAlgorithm f h = algorithm_kind f.subject _ _ h
kind_is action.ReadSession f h = session_kind f.subject _ h
kind_is action.Certify f h = session_kind f.subject _ h
kind_is action.CancelSession f h = session_kind f.subject _ h
kind_is action.SessionResults f h = session_kind f.subject _ h
kind_is action.ListSets f h = session_kind f.subject _ h
kind_is action.ReadSet f h = set_kind f.subject _ h
kind_is action.CancelSet f h = set_kind f.subject _ h
kind_is action.SetResults f h = set_kind f.subject _ h
kind_is action.Submit f h = set_kind f.subject _ h
kind_is action.Resubmit f h = set_kind f.subject _ h
kind_is action.Expected f h = set_kind f.subject _ h
kind_is action.ReadVendor f h = vendor_kind f.subject _ _ h
kind_is action.ReadModule f h = module_kind f.subject _ _ h
kind_is action.ReadEnvironment f h = environment_kind f.subject _ _ h
kind_is action.ReadRequest f h = request_kind f.subject _ _ h
kind_is action.ListReviewers f h = session_kind f.subject _ h
kind_is action.AddReviewer f h = session_kind f.subject _ h
kind_is action.RemoveReviewer f h = reviewer_kind f.subject _ h
kind_is _ f h = account_kind f.subject _ h

-- On a session's resources the acting account is that of the session.

both_hold : (a b : Bool) → (a && b) ≡ true → (a ≡ true) × (b ≡ true)
both_hold true b h = (refl, h)
both_hold false b h = cc

this_claims : (s : ℕ) (o : Option Claims) → is_some_and o (are_of_session s) ≡ true →
    account_of_session s ≡ account_of_claims o
this_claims s None h = cc
this_claims s (Some claims) h =
    let parts = both_hold (is_some_and claims.session (λ bound. bound == s))
    (account_of_session s == claims.account) h in
    grind (arith, nat_tests, parts.1)

-- whatever the path names, where the claims are of its session
own_at : (s : Subject) (f : Facts) →
    is_some_and (session_number (resource_of s)) (λ n. is_some_and (claims_of f.token) (are_of_session n)) ≡ true →
    IfSome (session_number (resource_of s)) (λ n. account_of_session n ≡ acting_account (login_of s) f)
own_at (subject.Session on) f h = this_claims on.session (claims_of f.token) h
own_at (subject.Set on) f h = this_claims on.session (claims_of f.token) h
own_at (subject.Reviewer on) f h = this_claims on.session (claims_of f.token) h
own_at _ f h = tt

own_is : (f : Facts) → list_all holds (claims_conditions scope.SessionResource f) ≡ true →
    IfSome (session_number (resource_of f.subject)) (λ n. account_of_session n ≡ account_of f)
own_is f h =
    let session = back_holds (caller_conditions f) (session_conditions f) h in
    let this = (both_hold (with_session f).0 _ session).1 in
    own_at f.subject f (both_hold _ true this).0

session_is : (P : ℕ → Type 0) (r : Resource) (s : ℕ) → IfSome (session_number r) P → IsOfSession s r → P s
session_is P (resource.Session session) s p is = rw is at p
session_is P (resource.Set session set) s p is = rw is at p
session_is P (resource.Reviewer session account) s p is = rw is at p
session_is P _ s p is = absurd is

own_session : (f : Facts) → list_all holds (claims_conditions scope.SessionResource f) ≡ true → (s : ℕ) →
    IsOfSession s (resource_of f.subject) → account_of_session s ≡ account_of f
own_session f held s is =
    session_is (λ n. account_of_session n ≡ account_of f) (resource_of f.subject) s (own_is f held) is

none_is : (o : Option ℕ) → is_none o ≡ true → o ≡ None
none_is None h = refl
none_is (Some n) h = cc

unbound_is : (t : Token) → is_some_and (claims_of t) (λ c. is_none c.session) ≡ true →
    (c : Claims) × (t ≡ token.Verified c) × (c.session ≡ None)
unbound_is (token.Verified c) h = (c, refl, none_is c.session h)
unbound_is _ h = cc

-- on results, where it is known whether a reviewer asks
own_results : (a : Action) (f : Facts) (b : Bool) → is_reviewer f ≡ b →
    (a ≡ action.SessionResults) ⊎ (a ≡ action.SetResults) →
    list_all holds (caller_conditions f ++ (if b then [] else session_conditions f)) ≡ true → (s : ℕ) →
    IsOfSession s (resource_of f.subject) → (account_of_session s ≡ account_of f) ⊎ IsReview a f
own_results a f false is results held s of_session = inl (own_session f held s of_session)
own_results a f true is results held s of_session =
    let parts = both_hold (is_some_and (claims_of f.token) (λ c. is_none c.session)) f.reviewer is in
    let token = unbound_is f.token parts.0 in
    inr (record {
      results = results;
      reviewer = parts.1;
      claims = token.0;
      token = token.1;
      unbound = token.2;
    })

-- whose the resource is, on whatever action
pub owner_is : (a : Action) (f : Facts) → list_all holds (claims_conditions (scope_of a) f) ≡ true →
    IsOfItsKind a (resource_of f.subject) → (s : ℕ) → IsOfSession s (resource_of f.subject) →
    (account_of_session s ≡ account_of f) ⊎ IsReview a f
owner_is action.ReadAlgorithm f held kind s is = absurd (rw kind.1 at is)
owner_is action.ReadSession f held kind s is = inl (own_session f held s is)
owner_is action.Certify f held kind s is = inl (own_session f held s is)
owner_is action.CancelSession f held kind s is = inl (own_session f held s is)
owner_is action.SessionResults f held kind s is =
    own_results action.SessionResults f (is_reviewer f) refl (inl refl) held s is
owner_is action.ListSets f held kind s is = inl (own_session f held s is)
owner_is action.ReadSet f held kind s is = inl (own_session f held s is)
owner_is action.CancelSet f held kind s is = inl (own_session f held s is)
owner_is action.SetResults f held kind s is =
    own_results action.SetResults f (is_reviewer f) refl (inr refl) held s is
owner_is action.Submit f held kind s is = inl (own_session f held s is)
owner_is action.Resubmit f held kind s is = inl (own_session f held s is)
owner_is action.Expected f held kind s is = inl (own_session f held s is)
owner_is action.ReadVendor f held kind s is = absurd (rw kind.1 at is)
owner_is action.ReadModule f held kind s is = absurd (rw kind.1 at is)
owner_is action.ReadEnvironment f held kind s is = absurd (rw kind.1 at is)
owner_is action.ReadRequest f held kind s is = absurd (rw kind.1 at is)
owner_is action.ListReviewers f held kind s is = inl (own_session f held s is)
owner_is action.AddReviewer f held kind s is = inl (own_session f held s is)
owner_is action.RemoveReviewer f held kind s is = inl (own_session f held s is)
owner_is _ f held kind s is = absurd (rw kind at is)
