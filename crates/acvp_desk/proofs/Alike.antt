-- Records in which the same is found of a request, or in which a rule on callers refuses it, answer it alike and are
-- changed alike.
use Rattle.std.proofs.Common.{◌≡◌, ◌⊎◌, inl, inr, ℕ, ◌++◌, Option, None, Some, Result, Ok, Err, refl, sym, ap, ◌∙◌}
use Rattle.acvp_json.specs.Data.{Data}
use Rattle.acvp_mac.specs.Conditions.{first_broken, judged}
use Rattle.acvp_policy.specs.declared.rule.Rule.{Rule}
use Rattle.acvp_tables.specs.State.{State}
use Rattle.acvp_desk.specs.Answer.{accepted_change, answer, asker_of, change_by, change_of, change_on, first_conditions}
use Rattle.acvp_desk.specs.Answer.{found_of, later_conditions, later_of, own_conditions, policy_conditions, reply_of}
use Rattle.acvp_desk.specs.Answer.{reply_to}
use Rattle.acvp_desk.specs.Request.{RequestValue}
use Rattle.acvp_desk.specs.declared.ask.Asker.{Asker}
use Rattle.acvp_desk.specs.declared.found.Found.{Found}
use Rattle.acvp_desk.specs.declared.keys.Keys.{Keys}
use Rattle.acvp_desk.proofs.FirstBroken.{front_broken}
use Rattle.acvp_desk.proofs.Nobody.{earlier_or, judged_err, refused_by}

-- the rule that both break
abbrev pub AreRefusedAlike : ℕ → Found → Found → Type 0
AreRefusedAlike moment one other = (refusal : Rule) × (first_broken (policy_conditions moment one) ≡ Some refusal)
    × (first_broken (policy_conditions moment other) ≡ Some refusal)

abbrev pub AreAlike : ℕ → Found → Found → Type 0
AreAlike moment one other = (one ≡ other) ⊎ AreRefusedAlike moment one other

module _ (keys : Keys) (moment : ℕ) (r : RequestValue) where
  refused_answer : (found : Found) (refusal : Rule) → first_broken (policy_conditions moment found) ≡ Some refusal
      → judged (first_conditions moment r ++ later_conditions keys.seed moment r.body found)
      (reply_of keys moment r.body found)
      ≡ Err (earlier_or (first_broken (first_conditions moment r)) refusal)
  refused_answer found refusal broken =
      judged_err (first_conditions moment r ++ later_conditions keys.seed moment r.body found)
      (reply_of keys moment r.body found) _
      (refused_by (first_conditions moment r) (later_conditions keys.seed moment r.body found) refusal
      (front_broken (policy_conditions moment found) (own_conditions keys.seed r.body found) refusal broken))

  judged_alike : (one other : Found) → AreAlike moment one other
      → judged (first_conditions moment r ++ later_conditions keys.seed moment r.body one)
      (reply_of keys moment r.body one)
      ≡ judged (first_conditions moment r ++ later_conditions keys.seed moment r.body other)
      (reply_of keys moment r.body other)
  judged_alike one other alike = elim alike [
    | inl same ↦ ap (λ found. judged (first_conditions moment r ++ later_conditions keys.seed moment r.body found)
        (reply_of keys moment r.body found)) same
    | inr refused ↦ refused_answer one refused.0 refused.1 ∙ sym (refused_answer other refused.0 refused.2)
  ]

  refused_change : (found : Found) (refusal : Rule) → first_broken (policy_conditions moment found) ≡ Some refusal
      → change_on (judged (first_conditions moment r ++ later_conditions keys.seed moment r.body found)
      (reply_of keys moment r.body found)) (change_of keys moment r.body found) ≡ None
  refused_change found refusal broken =
      ap (λ reply. change_on reply (change_of keys moment r.body found)) (refused_answer found refusal broken)

  changed_alike : (one other : Found) → AreAlike moment one other
      → change_on (judged (first_conditions moment r ++ later_conditions keys.seed moment r.body one)
      (reply_of keys moment r.body one)) (change_of keys moment r.body one)
      ≡ change_on (judged (first_conditions moment r ++ later_conditions keys.seed moment r.body other)
      (reply_of keys moment r.body other)) (change_of keys moment r.body other)
  changed_alike one other alike = elim alike [
    | inl same ↦ ap (λ found.
        change_on (judged (first_conditions moment r ++ later_conditions keys.seed moment r.body found)
        (reply_of keys moment r.body found)) (change_of keys moment r.body found)) same
    | inr refused ↦ refused_change one refused.0 refused.1 ∙ sym (refused_change other refused.0 refused.2)
  ]

-- of a request that asks this
pub answers_alike : (keys : Keys) (moment : ℕ) (r : RequestValue) (it : Asker) (one other : State)
    → asker_of keys moment r ≡ Some it
    → AreAlike moment (found_of keys.seed r.body it one) (found_of keys.seed r.body it other)
    → answer keys moment r one ≡ answer keys moment r other
unfolding answer
answers_alike keys moment r it one other asks alike =
    ap (λ asked. judged (first_conditions moment r ++ later_of keys.seed moment r asked one)
    (reply_to keys moment r asked one)) asks
    ∙ judged_alike keys moment r (found_of keys.seed r.body it one) (found_of keys.seed r.body it other) alike
    ∙ sym (ap (λ asked. judged (first_conditions moment r ++ later_of keys.seed moment r asked other)
    (reply_to keys moment r asked other)) asks)

pub changes_alike : (keys : Keys) (moment : ℕ) (r : RequestValue) (it : Asker) (one other : State)
    → asker_of keys moment r ≡ Some it
    → AreAlike moment (found_of keys.seed r.body it one) (found_of keys.seed r.body it other)
    → accepted_change keys moment r one ≡ accepted_change keys moment r other
unfolding accepted_change answer
changes_alike keys moment r it one other asks alike =
    ap (λ asked. change_on (judged (first_conditions moment r ++ later_of keys.seed moment r asked one)
    (reply_to keys moment r asked one)) (change_by keys moment r asked one)) asks
    ∙ changed_alike keys moment r (found_of keys.seed r.body it one) (found_of keys.seed r.body it other) alike
    ∙ sym (ap (λ asked. change_on
    (judged (first_conditions moment r ++ later_of keys.seed moment r asked other)
    (reply_to keys moment r asked other)) (change_by keys moment r asked other)) asks)

-- what changes nothing where it is accepted changes nothing
pub unchanged_by : (keys : Keys) (moment : ℕ) (r : RequestValue) (it : Asker) (state : State)
    → asker_of keys moment r ≡ Some it
    → change_of keys moment r.body (found_of keys.seed r.body it state) ≡ None
    → accepted_change keys moment r state ≡ None
unfolding accepted_change
unchanged_by keys moment r it state asks none =
    ap (λ asked. change_on (answer keys moment r state) (change_by keys moment r asked state)) asks
    ∙ ap (change_on (answer keys moment r state)) none ∙ go (answer keys moment r state)
  where
    go : (reply : Result (Option Data) Rule) → change_on reply None ≡ None
    go (Ok shown) = refl
    go (Err refusal) = refl
