-- What the parts of serving say of the whole answer, and of the change.
use Rattle.std.proofs.Common.{◌≡◌, ℕ, Option, None, Some, Ok, Err, OnOk, true, refl, sym, ap, ◌∙◌}
use Rattle.acvp_mac.specs.Conditions.{first_broken, unless}
use Rattle.acvp_policy.specs.declared.rule.Rule.{Rule}
use Rattle.acvp_policy.specs.declared.rule.Rule.TheVariants as rule
use Rattle.std.specs.Prelude.{◌++◌, nat_lt}
use Rattle.acvp_tables.specs.State.{State}
use Rattle.acvp_desk.specs.Answer.{end_of_moments, first_conditions, first_conditions_on, asker_of, found_of}
use Rattle.acvp_desk.specs.Answer.{later_conditions, later_of, conditions, reply_of, reply_to, answer, change_of}
use Rattle.acvp_desk.specs.Answer.{change_by, change_on, accepted_change}
use Rattle.acvp_desk.specs.declared.ask.Asker.{Asker}
use Rattle.acvp_desk.specs.declared.found.Found.{Found}
use Rattle.acvp_desk.specs.declared.keys.Keys.{Keys}
use Rattle.acvp_desk.specs.Request.{RequestValue}
use Rattle.acvp_desk.proofs.FirstBroken.{front_broken, front_held, back_held, first_held}

module _ (keys : Keys) (m : ℕ) (r : RequestValue) (s : State) where
  pub refused_first : (rule : Rule) → first_broken (first_conditions m r) ≡ Some rule → answer keys m r s ≡ Err rule
  unfolding answer
  refused_first rule broken =
      ap (λ b. unless b (reply_to keys m r (asker_of keys m r) s))
      (front_broken (first_conditions m r) (later_of keys.seed m r (asker_of keys m r) s) rule broken)

  -- where it is accepted, the conditions on what was found hold
  pub holds : OnOk (answer keys m r s) ((nat_lt m end_of_moments ≡ true)
      × (first_broken (later_of keys.seed m r (asker_of keys m r) s) ≡ None))
  unfolding answer
  holds = go (first_broken (conditions keys m r s)) refl
    where
      go : (b : Option Rule) → first_broken (conditions keys m r s) ≡ b
          → OnOk (unless b (reply_to keys m r (asker_of keys m r) s)) ((nat_lt m end_of_moments ≡ true)
          × (first_broken (later_of keys.seed m r (asker_of keys m r) s) ≡ None))
      go None e = (
        first_held (nat_lt m end_of_moments) rule.ClockOutOfRange
            (first_conditions_on r.ask r ++ later_of keys.seed m r (asker_of keys m r) s) e,
        back_held (first_conditions m r) (later_of keys.seed m r (asker_of keys m r) s) e,
      )
      go (Some rule) e = tt

  module _ (it : Asker) (held : first_broken (first_conditions m r) ≡ None) (asked : asker_of keys m r ≡ Some it)
      (f : Found) (found : f ≡ found_of keys.seed r.body it s) where
    later : first_broken (conditions keys m r s) ≡ first_broken (later_conditions keys.seed m r.body f)
    later = front_held (first_conditions m r) (later_of keys.seed m r (asker_of keys m r) s) held
        ∙ ap (λ a. first_broken (later_of keys.seed m r a s)) asked
        ∙ ap (λ g. first_broken (later_conditions keys.seed m r.body g)) (sym found)

    pub refused_later : (rule : Rule) → first_broken (later_conditions keys.seed m r.body f) ≡ Some rule
        → answer keys m r s ≡ Err rule
    unfolding answer
    refused_later rule broken = ap (λ b. unless b (reply_to keys m r (asker_of keys m r) s)) (later ∙ broken)

    pub answered : first_broken (later_conditions keys.seed m r.body f) ≡ None
        → answer keys m r s ≡ Ok (reply_of keys m r.body f)
    unfolding answer
    answered none = ap (λ b. unless b (reply_to keys m r (asker_of keys m r) s)) (later ∙ none)
        ∙ ap (λ a. Ok (reply_to keys m r a s)) asked ∙ ap (λ g. Ok (reply_of keys m r.body g)) (sym found)

    pub makes : first_broken (later_conditions keys.seed m r.body f) ≡ None
        → accepted_change keys m r s ≡ change_of keys m r.body f
    unfolding accepted_change
    makes none = ap (λ a. change_on a (change_by keys m r (asker_of keys m r) s)) (answered none)
        ∙ ap (λ a. change_by keys m r a s) asked ∙ ap (λ g. change_of keys m r.body g) (sym found)
