-- An event is served in one way.
use Rattle.std.proofs.Common.{◌≡◌, inl, inr, ℕ, List, Bool, true, false, Option, Some, None, Result, Ok, Err, sym, ap}
use Rattle.std.proofs.Common.{◌∙◌, subst}
use Rattle.std.specs.Prelude.{nat_lt, MatchBool}
use Rattle.std.proofs.lemmas.Bool.{lt-ltb}
use Rattle.httpdate.proofs.Theorems.{unix_secs_injective}
use Rattle.httpdate.specs.Text.{imf_fixdate}
use Rattle.acvp_policy.specs.declared.rule.Rule.{Rule}
use Rattle.acvp_policy.specs.declared.rule.Rule.TheVariants.{ClockOutOfRange}
use Rattle.acvp_tables.specs.Content.{Content}
use Rattle.acvp_tables.specs.State.{state_of}
use Rattle.acvp_desk.specs.Answer.{end_of_moments, answer}
use Rattle.acvp_desk.specs.Data.{Data}
use Rattle.acvp_desk.specs.Request.{RequestValue}
use Rattle.acvp_desk.specs.declared.keys.Keys.{Keys}
use Rattle.acvp_http.specs.Asks.{ParsedRequest, refused, wrong_method, typed, Asks}
use Rattle.acvp_http.specs.Event.{Event, request, order, EventAnswer, replied, ordered}
use Rattle.acvp_http.specs.Reply.{refusal, IsDateOf}
use Rattle.acvp_http.specs.Serve.{RefusesAtOnce, IsRefused, AsksTheDesk, IsReplied, RequestAnswered, ServesRequest}
use Rattle.acvp_http.specs.Serve.{Serves}
use Rattle.acvp_http.proofs.AsksLemmas.{asks-unique}

-- a moment has one date
pub one_date : (m : ℕ) (a b : List ℕ) → IsDateOf m a → IsDateOf m b → a ≡ b
one_date m a b x y = x.2 ∙ ap imf_fixdate (unix_secs_injective x.0 y.0 (x.1 ∙ sym y.1)) ∙ sym y.2

refused_one : (date : List ℕ) (parsed : ParsedRequest) (a b : List ℕ) → IsRefused date parsed a
    → IsRefused date parsed b → a ≡ b
refused_one date (refused rule) a b x y = x ∙ sym y
refused_one date (wrong_method path) a b x y = x ∙ sym y
refused_one date (typed r) a b x y = absurd x

replied_one : (date : List ℕ) (given : Result (Option Data) Rule) (a b : List ℕ) → IsReplied date given a
    → IsReplied date given b → a ≡ b
replied_one date (Err rule) a b x y = x ∙ sym y
replied_one date (Ok None) a b x y = absurd x
replied_one date (Ok (Some shown)) a b x y = x ∙ sym y

-- what is refused at a moment, by whether it is served
Refuses : ℕ → List ℕ → List ℕ → Bool → Type 0
Refuses m bytes reply early = MatchBool early
    ((parsed : ParsedRequest) × (date : List ℕ) × Asks bytes parsed × IsDateOf m date × IsRefused date parsed reply)
    (reply ≡ refusal None ClockOutOfRange)

module _ (m : ℕ) (bytes a b : List ℕ) where
  at_once_by : (early : Bool) → Refuses m bytes a early → Refuses m bytes b early → a ≡ b
  unfolding Refuses
  at_once_by true (p, d, asks, dated, x) (q, e, asks', dated', y) =
      let same : p ≡ q = asks-unique bytes p q asks asks' in
      let day : d ≡ e = one_date m d e dated dated' in
      refused_one e q a b (subst (λ (date : List ℕ). IsRefused date q a) day
      (subst (λ (parsed : ParsedRequest). IsRefused d parsed a) same x)) y
  at_once_by false x y = x ∙ sym y

  -- a reply that is told at once is one
  pub at_once_one : RefusesAtOnce m bytes a → RefusesAtOnce m bytes b → a ≡ b
  unfolding RefusesAtOnce Refuses
  at_once_one x y = at_once_by (nat_lt m end_of_moments) x y

-- what is asked of the desk isn't refused at once
pub not_both : (m : ℕ) (bytes reply : List ℕ) (r : RequestValue) → RefusesAtOnce m bytes reply → AsksTheDesk m bytes r
    → ⊥
unfolding RefusesAtOnce Refuses
not_both m bytes reply r refuses (early, asks) =
    let in_time : nat_lt m end_of_moments ≡ true = lt-ltb m end_of_moments early in
    let (p, d, asks', dated, x) = subst (λ (b : Bool). Refuses m bytes reply b) in_time refuses in
    let same : p ≡ typed r = asks-unique bytes p (typed r) asks' asks in
    subst (λ (parsed : ParsedRequest). IsRefused d parsed reply) same x

abbrev value_of : RequestValue → ParsedRequest → RequestValue
value_of r (typed other) = other
value_of r _ = r

pub one_value : (r other : RequestValue) → typed r ≡ typed other → r ≡ other
one_value r other same = ap (value_of r) same

-- a request is served in one way
pub request_one : (keys : Keys) (m : ℕ) (bytes : List ℕ) (old new new' : Content) (a b : List ℕ)
    → ServesRequest keys m bytes old new a
    → ServesRequest keys m bytes old new' b → (new ≡ new') × (a ≡ b)
request_one keys m bytes old new new' a b (inl (is, x)) (inl (is', y)) = (is ∙ sym is', at_once_one m bytes a b x y)
request_one keys m bytes old new new' a b (inl (is, x)) (inr (r, asks, y)) = absurd (not_both m bytes a r x asks)
request_one keys m bytes old new new' a b (inr (r, asks, x)) (inl (is, y)) = absurd (not_both m bytes b r y asks)
request_one keys m bytes old new new' a b (inr (r, asks, x)) (inr (r', asks', y)) =
    let same : r ≡ r' = one_value r r' (asks-unique bytes (typed r) (typed r') asks.1 asks'.1) in
    let (d, dated, is, shown) = subst (λ (v : RequestValue). RequestAnswered keys m v old new a) same x in
    let (e, dated', is', shown') = y in
    let day : d ≡ e = one_date m d e dated dated' in (
      is ∙ sym is',
      replied_one e (answer keys m r' (state_of old)) a b
          (subst (λ (date : List ℕ). IsReplied date (answer keys m r' (state_of old)) a) day shown) shown',
    )

-- and so is an event
pub event_one : (keys : Keys) (event : Event) (old new new' : Content) (a b : EventAnswer) → Serves keys event old new a
    → Serves keys event old new' b
    → (new ≡ new') × (a ≡ b)
event_one keys (request m bytes) old new new' (replied a) (replied b) x y =
    let same = request_one keys m bytes old new new' a b x y in (same.0, ap replied same.1)
event_one keys (request m bytes) old new new' (replied a) (ordered b) x y = absurd y
event_one keys (request m bytes) old new new' (ordered a) b x y = absurd x
event_one keys (order m o) old new new' (replied a) b x y = absurd x
event_one keys (order m o) old new new' (ordered a) (replied b) x y = absurd y
event_one keys (order m o) old new new' (ordered a) (ordered b) x y = (x.0 ∙ sym y.0, ap ordered (x.1 ∙ sym y.1))
