-- Lemmas on how a request is served, for any tables.
use Rattle.std.proofs.Common.{◌≡◌, ◌<◌, ◌≤◌, ◌⊎◌, inl, inr, ℕ, List, Bool, true, false, Option, Some, None, Result, Ok}
use Rattle.std.proofs.Common.{Err, [], drop, refl, ap, ◌∙◌, Vec}
use Rattle.std.specs.Global.{Global}
use Rattle.std.specs.Prelude.{nat_lt}
use Rattle.std.proofs.lemmas.Bool.{lt-ltb, le-ltb}
use Rattle.acvp_policy.specs.declared.rule.Rule.{Rule}
use Rattle.acvp_policy.specs.declared.rule.Rule.TheVariants as rule
use Rattle.acvp_tables.specs.Content.{Content, no_rows}
use Rattle.acvp_tables.specs.Meaning.{Meaning}
use Rattle.acvp_tables.specs.State.{state_of}
use Rattle.acvp_desk.specs.Answer.{end_of_moments, answer, accepted_change, content_effect, spare, Gives, Refuses}
use Rattle.acvp_desk.specs.Data.{Data}
use Rattle.acvp_desk.specs.Kept.{IsKept}
use Rattle.acvp_desk.specs.Request.{RequestValue}
use Rattle.acvp_desk.specs.Serves.{result_of}
use Rattle.acvp_desk.specs.Serves as desk
use Rattle.acvp_desk.specs.declared.desk.DeskReply.TheVariants.{Given, Denied}
use Rattle.acvp_desk.specs.declared.keys.Keys.{Keys}
use Rattle.acvp_http.specs.Asks.{ParsedRequest, Asks}
use Rattle.acvp_http.specs.Reply.{refusal, framed, IsDateOf}
use Rattle.acvp_http.specs.Event.{replied}
use Rattle.acvp_http.specs.Serve.{RefusesAtOnce, IsRefused, IsUnavailableRequest, AsksTheDesk, RequestAnswered}
use Rattle.acvp_http.specs.Serve.{IsReplied, ShowsReply, RequestTaken, LeavesAsBefore, StaysOpen}

-- a rule is that of an unavailable server, or another
is_unavailable : (r : Rule) → (r ≡ rule.Unavailable) ⊎ (r ≡ rule.Unavailable → ⊥)
is_unavailable rule.Unavailable = inl refl
is_unavailable _ = inr (λ is. absurd (cc))

-- past the last moment nobody is looked at
pub refused_late : (m : ℕ) (bytes reply : List ℕ) → end_of_moments ≤ m → reply ≡ refusal None rule.ClockOutOfRange
    → RefusesAtOnce m bytes reply
unfolding RefusesAtOnce
refused_late m bytes reply late is = let over : nat_lt m end_of_moments ≡ false = le-ltb m end_of_moments late in
    rw over is

-- a refusal before the records are looked at
pub refused_early : (m : ℕ) (bytes : List ℕ) (parsed : ParsedRequest) (date reply : List ℕ) → m < end_of_moments
    → Asks bytes parsed → IsDateOf m date
    → IsRefused date parsed reply → RefusesAtOnce m bytes reply
unfolding RefusesAtOnce
refused_early m bytes parsed date reply early asks dated is =
    let in_time : nat_lt m end_of_moments ≡ true = lt-ltb m end_of_moments early in
    rw in_time (parsed, date, asks, dated, is)

module _ {T : Type 0} (meaning : Meaning T) (keys : Keys) (m : ℕ) (bytes : List ℕ) where
  open meaning use {stands, is_open, is_clean, leaves}

  -- nobody was looked at
  pub taken_at_once : (rests : (t : T) (c d : Content) → is_open t → stands t c → leaves t c d) (t : T) (reply : List ℕ)
      → RefusesAtOnce m bytes reply
      → RequestTaken meaning keys m bytes reply t t
  taken_at_once rests t reply refuses = (
    false,
    λ clean c kept h. (c, inl (refl, refuses), h, kept),
    λ clean live c kept h. (c, inl (refl, refuses), kept, λ d. rests t c d live h),
    λ clean off c kept. inl (refl, refuses),
  )

  module _ (r : RequestValue) (asks : AsksTheDesk m bytes r) (date : List ℕ) (dated : IsDateOf m date) (old new : T)
      (changed : Bool) where
    unchanged : (c : Content) (told : Rule) (reply : List ℕ) → answer keys m r (state_of c) ≡ Err told
        → reply ≡ refusal (Some date) told
        → RequestAnswered keys m r c c reply
    unfolding accepted_change
    unchanged c told reply is shown =
        let same : c ≡ content_effect keys m r c = rw is refl in
        let said : IsReplied date (answer keys m r (state_of c)) reply = rw is shown in
        (date, dated, same, said)

    -- the desk has denied it
    pub taken_denied : (rests : (t : T) (c d : Content) → is_open t → stands t c → leaves t c d) (told : Rule)
        (reply : List ℕ)
        → desk.Serves meaning (result_of (Denied told) changed) old new keys m r
        → reply ≡ refusal (Some date) told → RequestTaken meaning keys m bytes reply old new
    taken_denied rests told reply serves shown = elim (is_unavailable told) [
      | inl is ↦
          let put_off : IsUnavailableRequest m bytes reply = ((r, asks), shown ∙ ap (λ x. refusal (Some date) x) is) in (
            true,
            λ clean c kept h. (c, (refl, put_off), λ live. serves.same live c (h (serves.was_open live)), kept),
            λ clean live c kept h. (
              c,
              (refl, put_off),
              kept,
              (content_effect keys m r c, (r, asks, refl), serves.unsettled clean live c kept h),
            ),
            λ clean off c kept. (refl, put_off),
          )
      | inr other ↦
          let refuses : (c : Content) → Refuses told (answer keys m r (state_of c))
          → answer keys m r (state_of c) ≡ Err told =
          λ c is. elim is [ inl off ↦ absurd (other off) | inr denied ↦ denied ] in
          let as_it_was : LeavesAsBefore meaning old new =
          elim serves.kept [ inl is ↦ absurd (other is) | inr same ↦ same ] in (
            false,
            λ clean c kept h.
                let denied = refuses c (serves.denied clean c kept h) in (
                  c,
                  inr (r, asks, unchanged c told reply denied shown),
                  λ live. serves.same live c (h (serves.was_open live)),
                  kept,
                ),
            λ clean live c kept h.
                let denied = refuses c (serves.denied clean c kept (λ _. h)) in (
                  c,
                  inr (r, asks, unchanged c told reply denied shown),
                  kept,
                  λ d. as_it_was clean c d (rests old c d live h),
                ),
            λ clean off c kept. inr (
              r,
              asks,
              unchanged c told reply (refuses c (serves.denied clean c kept (λ live. absurd (off live)))) shown,
            ),
          )
    ]

    shown_as : (a : Result (Option Data) Rule) (buffer reply : List ℕ) → Gives buffer a
        → reply ≡ framed 200 (Some date) [] (drop spare buffer)
        → IsReplied date a reply
    shown_as (Err told) buffer reply gives is = absurd gives
    shown_as (Ok None) buffer reply gives is = absurd gives
    shown_as (Ok (Some shown)) buffer reply gives is = rw (← gives.1) is

    -- what is shown of a denial, and that what was open is unless it is unavailable
    pub shown_denied : (told : Rule) (reply : List ℕ)
        → desk.Serves meaning (result_of (Denied told) changed) old new keys m r
        → reply ≡ refusal (Some date) told → ShowsReply meaning m reply old new
    shown_denied told reply serves shown = (date, dated, inr (told, shown, serves.same, serves.kept))

    pub live_denied : (told : Rule) (reply : List ℕ)
        → desk.Serves meaning (result_of (Denied told) changed) old new keys m r
        → reply ≡ refusal (Some date) told → StaysOpen meaning (replied reply) old new
    live_denied told reply serves shown =
        elim serves.stays_open [ inl is ↦ inl (shown ∙ ap (λ x. refusal (Some date) x) is) | inr live ↦ inr live ]

    -- what nobody is given
    none_given : (a : Result (Option Data) Rule) (buffer : List ℕ) → ((shown : Data) → a ≡ Ok (Some shown) → ⊥)
        → Gives buffer a → ⊥
    none_given (Err told) buffer never gives = gives
    none_given (Ok None) buffer never gives = gives
    none_given (Ok (Some shown)) buffer never gives = never shown refl

    -- the desk has given a reply
    pub taken_given : (start : (seeds : List (List ℕ)) → IsKept seeds no_rows)
        (nobody : (keys : Keys) (m : ℕ) (r : RequestValue) (shown : Data)
        → answer keys m r (state_of no_rows) ≡ Ok (Some shown) → ⊥) (buffer : Vec ℕ Global) (reply : List ℕ)
        → desk.Serves meaning (result_of (Given buffer) changed) old new keys m r
        → reply ≡ framed 200 (Some date) [] (drop spare buffer.items) → RequestTaken meaning keys m bytes reply old new
    taken_given start nobody buffer reply serves is = (
      false,
      λ clean c kept h.
          let (gives, stands_after, kept_after, told) = serves.given clean c kept h in (
            content_effect keys m r c,
            inr (r, asks, (date, dated, refl, shown_as (answer keys m r (state_of c)) buffer.items reply gives is)),
            stands_after,
            kept_after,
          ),
      λ clean live c kept h.
          let (gives, stands_after, kept_after, told) = serves.given clean c kept (λ _. h) in (
            content_effect keys m r c,
            inr (r, asks, (date, dated, refl, shown_as (answer keys m r (state_of c)) buffer.items reply gives is)),
            kept_after,
            λ d. serves.settled clean live c d kept h,
          ),
      λ clean off c kept.
          let (gives, stands_after, kept_after, told) =
          serves.given clean no_rows (start keys.seed) (λ live. absurd (off live)) in
          absurd (none_given (answer keys m r (state_of no_rows)) buffer.items (nobody keys m r) gives),
    )
