-- The rules on a caller are broken in front of all others, and depend on the caller alone.
use Rattle.std.proofs.Common.{◌≡◌, ℕ, ◌≤◌, nat_le, Bool, true, false, List, [], ◌∷◌, ◌++◌}
use Rattle.std.proofs.Common.{Option, Some, None, Result, Ok, Err, refl, sym, arith}
use Rattle.std.proofs.lemmas.Bool.Decides.{nat_tests}
use Rattle.std.specs.Option.{option_or}
use Rattle.std.specs.Prelude.{IfErr, IfOk}
use Rattle.std.specs.List.{list_all}
use Rattle.acvp_token.specs.Conditions.{Condition, first_broken, judged}
use Rattle.acvp_token.proofs.ConditionLemmas.{first_broken-append}
use Rattle.acvp_policy.specs.declared.rule.Rule.{Rule}
use Rattle.acvp_policy.specs.declared.facts.Facts.{Facts}
use Rattle.acvp_policy.specs.declared.action.Action.{Action}
use Rattle.acvp_policy.specs.declared.action.Action.TheVariants as action
use Rattle.acvp_policy.specs.declared.action.Scope.{Scope}
use Rattle.acvp_policy.specs.declared.action.Scope.TheVariants as scope
use Rattle.acvp_policy.specs.Rule.{rule_number}
use Rattle.acvp_policy.specs.Scope.{scope_of}
use Rattle.acvp_policy.specs.Policy.{policy, claims_conditions, resource_conditions}
use Rattle.acvp_policy.specs.Decision.{decision, granted}
use Rattle.acvp_policy.specs.Callers.{AgreeOnCaller, IsCallerRule}
use Rattle.acvp_policy.proofs.Refusals.{holds-is, refused-is, refused-front}

-- a condition of a rule that isn't on the caller
abbrev pub is_late : Condition Rule → Bool
is_late condition = nat_le 20 (rule_number condition.1)

pub resource_conditions-late : (a : Action) (f : Facts) → list_all is_late (resource_conditions a f) ≡ true
resource_conditions-late action.Login f = refl
resource_conditions-late _ f = refl

late-from_test : (n : ℕ) → nat_le 20 n ≡ true → 20 ≤ n
late-from_test n h = grind (arith, nat_tests)

-- the first rule that is broken is late where all are
pub broken-late : (conditions : List (Condition Rule)) (r : Rule) →
    list_all is_late conditions ≡ true → first_broken conditions ≡ Some r → 20 ≤ rule_number r
broken-late [] r all found = grind (arith, found)
broken-late ((true, rule) ∷ conditions) r all found = broken-late conditions r (grind (arith, all)) found
broken-late ((false, rule) ∷ conditions) r all found = grind (arith, all, found, nat_tests)

-- a rule on the caller is broken in the first of two lists where no rule of the second is on the caller
pub broken-in_front : (front back : Option Rule) (r : Rule) →
    ((late : Rule) → back ≡ Some late → 20 ≤ rule_number late) → IsCallerRule r →
    option_or front back ≡ Some r → front ≡ Some r
broken-in_front (Some rule) back r late on_caller h = h
broken-in_front None back r late on_caller h = absurd (omega (arith, late r h, on_caller))

pub claims_conditions-agree : (s : Scope) (one other : Facts) → AgreeOnCaller one other →
    claims_conditions s one ≡ claims_conditions s other
claims_conditions-agree scope.Login one other same = refl
claims_conditions-agree scope.AccountRead one other same = rw (same.token, same.standing) refl
claims_conditions-agree scope.AccountChange one other same = rw (same.token, same.standing) refl
claims_conditions-agree scope.SessionResource one other same = rw (same.token, same.standing, same.numbers) refl
claims_conditions-agree scope.ReviewableResource one other same =
    rw (same.token, same.standing, same.reviewer, same.numbers) refl

pub caller_rule-kept : (a : Action) (one other : Facts) (r : Rule) → AgreeOnCaller one other → IsCallerRule r →
    decision a one ≡ Err r → decision a other ≡ Err r
unfolding decision policy
caller_rule-kept a one other r same on_caller h =
    let claims = claims_conditions (scope_of a) one in
    let resource = resource_conditions a one in
    let broken : first_broken (claims ++ resource) ≡ Some r = refused-is _ (granted a one) r h in
    let split : option_or (first_broken claims) (first_broken resource) ≡ Some r =
    rw (first_broken-append claims resource) at broken in
    let front : first_broken claims ≡ Some r =
    let late = λ (rule : Rule) (found : first_broken resource ≡ Some rule).
    broken-late resource rule (resource_conditions-late a one) found in
    broken-in_front _ _ r late on_caller split in
    let moved : first_broken (claims_conditions (scope_of a) other) ≡ Some r =
    rw (claims_conditions-agree (scope_of a) one other same) at front in
    rw (first_broken-append (claims_conditions (scope_of a) other) (resource_conditions a other), moved) refl

-- what the rules on a caller refuse is decided so, whatever is found at the path
pub caller-refused : (a : Action) (caller found : Facts) (r : Rule) → AgreeOnCaller caller found →
    judged {X = Unit {0}} (claims_conditions (scope_of a) caller) tt ≡ Err r → decision a found ≡ Err r
unfolding decision policy
caller-refused a caller found r same h =
    let nothing : Unit {0} = tt in
    refused-front (claims_conditions (scope_of a) found) (resource_conditions a found) nothing (granted a found) r
    (rw (← claims_conditions-agree (scope_of a) caller found same) h)

pub caller-judged : (a : Action) (caller : Facts) (result : Result (Unit {0}) Rule)
    → result ≡ judged {X = Unit {0}} (claims_conditions (scope_of a) caller) tt →
    IfErr result (λ rule. (found : Facts) → AgreeOnCaller caller found → decision a found ≡ Err rule)
caller-judged a caller (Ok x) is = tt
caller-judged a caller (Err rule) is = λ found same. caller-refused a caller found rule same (sym is)

-- what the rules on a caller let through they let through, whatever is found at the path
pub caller-admitted : (a : Action) (caller : Facts) (result : Result (Unit {0}) Rule)
    → result ≡ judged {X = Unit {0}} (claims_conditions (scope_of a) caller) tt →
    IfOk result (λ _. (found : Facts) → AgreeOnCaller caller found
    → first_broken (claims_conditions (scope_of a) found) ≡ None)
caller-admitted a caller (Ok x) is = λ found same.
    rw (← claims_conditions-agree (scope_of a) caller found same)
    (holds-is (first_broken (claims_conditions (scope_of a) caller)) x (sym is))
caller-admitted a caller (Err rule) is = tt
