-- What is served is told by what the account that asks sees, and leaves of each account's rows what these tell.
use Rattle.std.proofs.Common.{◌≡◌, inl, inr, ℕ, Bool, Option, None, Some, Result, Err, refl, sym, ap, subst, ◌∙◌}
use Rattle.acvp_json.specs.Data.{Data}
use Rattle.acvp_policy.specs.declared.rule.Rule.{Rule}
use Rattle.acvp_tables.specs.Content.{Content}
use Rattle.acvp_tables.specs.Meaning.{Meaning}
use Rattle.acvp_tables.specs.State.{State, own, state_of, IsWellNumbered}
use Rattle.acvp_desk.specs.Answer.{accepted_change, answer, content_effect, effect, Gives, who_of}
use Rattle.acvp_desk.specs.Isolation.{own_after_request, IsServedApart, IsToldBySeen, SeesAlike, SeesTheSame}
use Rattle.acvp_desk.specs.Kept.{IsKept}
use Rattle.acvp_desk.specs.Request.{RequestValue}
use Rattle.acvp_desk.specs.Serves.{Serves, result_of}
use Rattle.acvp_desk.specs.declared.desk.DeskReply.{DeskReply}
use Rattle.acvp_desk.specs.declared.desk.DeskReply.TheVariants.{Given, Denied}
use Rattle.acvp_desk.specs.declared.keys.Keys.{Keys}

module _ (follow : (keys : Keys) (moment : ℕ) (r : RequestValue) (c : Content)
    → state_of (content_effect keys moment r c) ≡ effect keys moment r (state_of c))
    (apart : (v : ℕ) (keys : Keys) (moment : ℕ) (r : RequestValue) (state : State) → IsWellNumbered state
    → own v (effect keys moment r state) ≡ own_after_request keys moment r v (own v state))
    (nobody : (keys : Keys) (moment : ℕ) (r : RequestValue) (one other : State) → who_of keys moment r ≡ None
    → answer keys moment r one ≡ answer keys moment r other)
    (alike : (u : ℕ) (keys : Keys) (moment : ℕ) (r : RequestValue) (one other : State) → IsWellNumbered one
    → IsWellNumbered other → who_of keys moment r ≡ Some u
    → SeesTheSame u one other → answer keys moment r one ≡ answer keys moment r other)
    (keys : Keys) (moment : ℕ) (r : RequestValue) where
  same_answer : (one other : State) → IsWellNumbered one → IsWellNumbered other
      → SeesAlike (who_of keys moment r) one other → answer keys moment r one ≡ answer keys moment r other
  same_answer one other well_one well_other = go (who_of keys moment r) refl
    where
      go : (w : Option ℕ) → who_of keys moment r ≡ w → SeesAlike w one other
          → answer keys moment r one ≡ answer keys moment r other
      go None is same = nobody keys moment r one other is
      go (Some u) is same = alike u keys moment r one other well_one well_other is same

  left : (c : Content) → IsKept keys.seed c → (v : ℕ)
      → own v (state_of (content_effect keys moment r c)) ≡ own_after_request keys moment r v (own v (state_of c))
  left c kept v = ap (own v) (follow keys moment r c) ∙ apart v keys moment r (state_of c) kept.sound

  -- a refusal changes nothing
  stays : (c : Content) (broken : Rule) → answer keys moment r (state_of c) ≡ Err broken
      → content_effect keys moment r c ≡ c
  unfolding accepted_change
  stays c broken is = rw is refl

  module _ {T : Type 0} (meaning : Meaning T) (old new : T) where
    pub served_apart : (reply : DeskReply) (changed : Bool)
        → Serves meaning (result_of reply changed) old new keys moment r
        → IsServedApart meaning reply old new keys moment r
    served_apart (Given reply) changed served clean c kept h =
        let given = served.given clean c kept h in
        inr (content_effect keys moment r c, given.1, left c kept)
    served_apart (Denied broken) changed served clean c kept h = elim (served.denied clean c kept h) [
      | inl unavailable ↦ inl (unavailable, λ live. served.same live c (h (served.was_open live)))
      | inr is ↦ inr (
        c,
        (λ live. served.same live c (h (served.was_open live))),
        (λ v. sym (ap (λ (d : Content). own v (state_of d)) (stays c broken is)) ∙ left c kept v),
      )
    ]

    pub told_by_seen : (reply : DeskReply) (changed : Bool)
        → Serves meaning (result_of reply changed) old new keys moment r
        → IsToldBySeen meaning reply old new keys moment r
    told_by_seen (Given reply) changed served clean c kept h state well same =
        subst (λ (it : Result (Option Data) Rule). Gives reply.items it)
        (same_answer (state_of c) state kept.sound well same) (served.given clean c kept h).0
    told_by_seen (Denied broken) changed served clean c kept h state well same = elim (served.denied clean c kept h) [
      | inl unavailable ↦ inl unavailable
      | inr is ↦ inr (sym (same_answer (state_of c) state kept.sound well same) ∙ is)
    ]
