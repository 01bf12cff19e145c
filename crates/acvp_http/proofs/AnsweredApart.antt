-- A request is told by what the account that asks sees, and leaves of each account's rows what these tell.
use Rattle.std.proofs.Common.{◌≡◌, inl, inr, ℕ, List, true, false, Option, None, Some, Result, refl, sym, ap, subst}
use Rattle.std.proofs.Common.{◌∙◌}
use Rattle.acvp_policy.specs.declared.rule.Rule.{Rule}
use Rattle.acvp_tables.specs.Content.{Content}
use Rattle.acvp_tables.specs.Meaning.{Meaning}
use Rattle.acvp_tables.specs.State.{State, own, state_of, AreWellNumbered, IsWellNumbered}
use Rattle.acvp_tables.specs.declared.change.Change.{Change}
use Rattle.acvp_desk.specs.Answer.{accepted_change, answer, content_after, content_effect, effect, who_of}
use Rattle.acvp_desk.specs.Data.{Data}
use Rattle.acvp_desk.specs.Isolation.{own_after_request, SeesAlike, SeesTheSame}
use Rattle.acvp_desk.specs.Request.{RequestValue}
use Rattle.acvp_desk.specs.declared.keys.Keys.{Keys}
use Rattle.acvp_http.specs.Asks.{typed}
use Rattle.acvp_http.specs.Isolation.{IsAnsweredApart, IsTakenApart, RequestIsolation}
use Rattle.acvp_http.specs.Serve.{AsksTheDesk, GoesBy, IsReplied, RequestTaken, ServesRequest}
use Rattle.acvp_http.proofs.AsksLemmas.{asks-unique}
use Rattle.acvp_http.proofs.Isolated.{of_asked, of_refused}
use Rattle.acvp_http.proofs.OneLemmas.{not_both, one_value}

module _ (follow : (keys : Keys) (m : ℕ) (r : RequestValue) (c : Content)
    → state_of (content_effect keys m r c) ≡ effect keys m r (state_of c))
    (apart : (v : ℕ) (keys : Keys) (m : ℕ) (r : RequestValue) (state : State) → IsWellNumbered state
    → own v (effect keys m r state) ≡ own_after_request keys m r v (own v state))
    (nobody : (keys : Keys) (m : ℕ) (r : RequestValue) (one other : State) → who_of keys m r ≡ None
    → answer keys m r one ≡ answer keys m r other)
    (alike : (u : ℕ) (keys : Keys) (m : ℕ) (r : RequestValue) (one other : State) → IsWellNumbered one
    → IsWellNumbered other → who_of keys m r ≡ Some u
    → SeesTheSame u one other → answer keys m r one ≡ answer keys m r other)
    (unchanged : (keys : Keys) (m : ℕ) (r : RequestValue) (state : State) → who_of keys m r ≡ None
    → accepted_change keys m r state ≡ None)
    (keys : Keys) (m : ℕ) (bytes : List ℕ) where
  same_answer : (r : RequestValue) (one other : State) → IsWellNumbered one → IsWellNumbered other
      → SeesAlike (who_of keys m r) one other → answer keys m r one ≡ answer keys m r other
  same_answer r one other well_one well_other = go (who_of keys m r) refl
    where
      go : (w : Option ℕ) → who_of keys m r ≡ w → SeesAlike w one other → answer keys m r one ≡ answer keys m r other
      go None is same = nobody keys m r one other is
      go (Some u) is same = alike u keys m r one other well_one well_other is same

  left_by : (r : RequestValue) (c : Content) → AreWellNumbered c → (v : ℕ)
      → own v (state_of (content_effect keys m r c)) ≡ own_after_request keys m r v (own v (state_of c))
  left_by r c sound v = ap (own v) (follow keys m r c) ∙ apart v keys m r (state_of c) sound

  -- what else is served of the bytes is the same request
  after_is : (r : RequestValue) → AsksTheDesk m bytes r → (other after : Content) (said : List ℕ)
      → ServesRequest keys m bytes other after said → after ≡ content_effect keys m r other
  after_is r asks other after said (inl (same, refuses)) = absurd (not_both m bytes said r refuses asks)
  after_is r asks other after said (inr (r', asks', (date, dated, is, shown))) =
      let same : r' ≡ r = one_value r' r (asks-unique bytes (typed r') (typed r) asks'.1 asks.1) in
      is ∙ ap (λ (v : RequestValue). content_effect keys m v other) same

  pub answered_apart : (old new : Content) (reply : List ℕ) → AreWellNumbered old
      → ServesRequest keys m bytes old new reply → IsAnsweredApart keys m bytes old new reply
  answered_apart old new reply sound (inl (same, refuses)) = record {
    who = None;
    of = of_refused keys m bytes reply refuses;
    told = λ other well alike_to. (other, inl (refl, refuses));
    left = λ v other after said well same_rows served. at_once v other after said same_rows served;
    others = λ v off. ap (λ (c : Content). own v (state_of c)) same;
    nobody = λ none. same;
  }
    where
      at_once : (v : ℕ) (other after : Content) (said : List ℕ) → own v (state_of old) ≡ own v (state_of other)
          → ServesRequest keys m bytes other after said
          → own v (state_of new) ≡ own v (state_of after)
      at_once v other after said same_rows (inl (is, again)) = ap (λ (c : Content). own v (state_of c)) same ∙ same_rows
          ∙ ap (λ (c : Content). own v (state_of c)) (sym is)
      at_once v other after said same_rows (inr (r, asks, answered)) = absurd (not_both m bytes reply r refuses asks)
  answered_apart old new reply sound (inr (r, asks, (date, dated, is, shown))) = record {
    who = who_of keys m r;
    of = of_asked keys m bytes r asks;
    told = λ other well alike_to. (
      content_effect keys m r other,
      inr (
        r,
        asks,
        (
          date,
          dated,
          refl,
          subst (λ (a : Result (Option Data) Rule). IsReplied date a reply)
              (same_answer r (state_of old) (state_of other) sound well alike_to) shown,
        ),
      ),
    );
    left = λ v other after said well same_rows served.
        ap (λ (c : Content). own v (state_of c)) is ∙ left_by r old sound v
        ∙ ap (own_after_request keys m r v) same_rows
        ∙ sym (ap (λ (c : Content). own v (state_of c)) (after_is r asks other after said served)
        ∙ left_by r other well v);
    others = λ v off. ap (λ (c : Content). own v (state_of c)) is ∙ left_by r old sound v ∙ rw off refl;
    nobody = λ none. is ∙ ap (λ (made : Option Change). content_after made old)
        (unchanged keys m r (state_of old) none);
  }

-- so the tables are taken on by each request
module _ {T : Type 0} (meaning : Meaning T) (law : RequestIsolation) (keys : Keys) (m : ℕ) (bytes reply : List ℕ)
    (old new : T) where
  pub taken_apart : RequestTaken meaning keys m bytes reply old new
      → GoesBy meaning keys (λ c next. IsTakenApart keys m bytes c next reply) old new
  taken_apart (true, goes, leaves, idle) = λ clean c kept h. let (next, takes, after, kept_after) =
      goes clean c kept h in (next, inl takes, after, kept_after)
  taken_apart (false, goes, leaves, idle) = λ clean c kept h.
      let (next, takes, after, kept_after) = goes clean c kept h in
      (next, inr (takes, law keys m bytes c next reply kept.sound takes), after, kept_after)
