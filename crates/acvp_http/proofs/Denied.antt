-- A denial to a caller is how its request is served.
use Rattle.std.proofs.Common.{◌≡◌, ℕ, List, Some, Err, inr, sym, ap, subst}
use Rattle.acvp_desk.specs.Conditions.{first_broken, unless}
use Rattle.acvp_policy.specs.declared.rule.Rule.{Rule}
use Rattle.acvp_tables.specs.Content.{Content}
use Rattle.acvp_tables.specs.State.{State, state_of}
use Rattle.acvp_desk.specs.Answer.{accepted_change, answer, asker_of, change_by, change_on, conditions, content_after}
use Rattle.acvp_desk.specs.Answer.{content_effect, reply_to}
use Rattle.acvp_desk.specs.Request.{RequestValue}
use Rattle.acvp_desk.specs.declared.keys.Keys.{Keys}
use Rattle.acvp_http.specs.Isolation.{IsDeniedToCaller}
use Rattle.acvp_http.specs.Serve.{IsReplied, ServesRequest}

module _ (keys : Keys) (moment : ℕ) (r : RequestValue) (rule : Rule) where
  -- the answer names the first rule that is broken
  denied_answer : (state : State) → first_broken (conditions keys moment r state) ≡ Some rule
      → answer keys moment r state ≡ Err rule
  unfolding answer
  denied_answer state is = ap (λ b. unless b (reply_to keys moment r (asker_of keys moment r) state)) is

  -- and it changes nothing
  unchanged : (c : Content) → answer keys moment r (state_of c) ≡ Err rule → c ≡ content_effect keys moment r c
  unfolding accepted_change
  unchanged c is = sym (ap (λ told. content_after (change_on told
      (change_by keys moment r (asker_of keys moment r) (state_of c))) c) is)

pub denial_served : (keys : Keys) (moment : ℕ) (bytes reply : List ℕ) (c : Content)
    → IsDeniedToCaller keys moment bytes (state_of c) reply → ServesRequest keys moment bytes c c reply
denial_served keys moment bytes reply c (r, rule, date, asks, first, dated, shown) =
    let is = denied_answer keys moment r rule (state_of c) first.first in
    let replied = subst (λ told. IsReplied date told reply) (sym is) shown in
    inr (r, asks, (date, dated, unchanged keys moment r rule c is, replied))
