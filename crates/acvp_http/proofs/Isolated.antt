-- What an account is told in a run is what it is told where only those act that let it see something.
use Rattle.std.proofs.Common.{◌≡◌, ◌⊎◌, inl, inr, ℕ, ◌≤◌, ◌/◌, List, [], ◌∷◌, Bool, true, false, ◌&&◌, ◌==◌, Option}
use Rattle.std.proofs.Common.{None, Some, Result, Ok, Err, refl, sym, ap, subst, ◌∙◌, arith}
use Rattle.std.specs.Prelude.{IfOk, is_some, length, MatchBool, nat_lt, ◌||◌, if◌then◌else◌}
use Rattle.std.specs.List.{All}
use Rattle.std.proofs.lemmas.Bool.{lt-ltb}
use Rattle.std.proofs.lemmas.Bool.Decides.{nat_tests}
use Rattle.std.proofs.lemmas.List.Elements.{All-head, All-tail}
use Rattle.acvp_policy.specs.declared.rule.Rule.{Rule}
use Rattle.acvp_policy.specs.declared.rule.Rule.TheVariants.{ClockOutOfRange}
use Rattle.acvp_tables.specs.Content.{Content, is_reviewer}
use Rattle.acvp_tables.specs.Own.{account_of_change}
use Rattle.acvp_tables.specs.State.{State, IsWellNumbered, live_records, may_see, own, owner_of, session_record_at}
use Rattle.acvp_tables.specs.State.{set_record_at, state_of}
use Rattle.acvp_tables.specs.StateChanges.{after_order_state, after_state}
use Rattle.acvp_tables.specs.declared.change.Change.{Change}
use Rattle.acvp_tables.specs.declared.change.Change.TheVariants as change
use Rattle.acvp_tables.specs.declared.change.OrderChange.{OrderChange}
use Rattle.acvp_desk.specs.Answer.{accepted_change, answer, content_effect, effect, end_of_moments, state_after, who_of}
use Rattle.acvp_desk.specs.Data.{Data}
use Rattle.acvp_desk.specs.Isolation.{is_who, own_after_order, own_after_request, reviewer_asked, SeesTheSame}
use Rattle.acvp_desk.specs.Kept.{IsKept}
use Rattle.acvp_desk.specs.Orders.{content_order_effect, order_change, order_effect, order_reply, state_after_order}
use Rattle.acvp_desk.specs.Orders.{HasSecret, IsOrder}
use Rattle.acvp_desk.specs.Request.{RequestValue}
use Rattle.acvp_desk.specs.Written.{body_of}
use Rattle.acvp_desk.specs.declared.keys.Keys.{Keys}
use Rattle.acvp_desk.specs.declared.order.Order.{Order}
use Rattle.acvp_http.specs.Asks.{ParsedRequest, refused, wrong_method, typed, Asks}
use Rattle.acvp_http.specs.Event.{Event, request, order, EventAnswer, replied, ordered, Turn}
use Rattle.acvp_http.specs.Isolation.{AreTheirs, is_theirs, is_told, whose, AsksWithin, IsOf, IsToldAlone, Isolation}
use Rattle.acvp_http.specs.Isolation.{IsolationAlone, LetsSee, Only, Told}
use Rattle.acvp_http.specs.Event.{CanHappen}
use Rattle.acvp_http.specs.Reply.{framed, refusal, IsDateOf}
use Rattle.acvp_http.proofs.OneRun.{only_one, run_one, told_one}
use Rattle.acvp_http.specs.Serve.{AsksTheDesk, IsRefused, IsReplied, RefusesAtOnce, Runs, Serves, Takes}

same_number : (n : ℕ) → (n == n) ≡ true
same_number n = grind (arith, nat_tests)

-- ---- whose an event is

abbrev no_one : Option ℕ
no_one = None

-- what is refused before anybody is looked at is nobody's
pub of_refused : (keys : Keys) (m : ℕ) (bytes reply : List ℕ) → RefusesAtOnce m bytes reply
    → IsOf keys (request m bytes) None
unfolding RefusesAtOnce
of_refused keys m bytes reply refuses = go (nat_lt m end_of_moments) refuses
  where
    nobody : (date : List ℕ) (parsed : ParsedRequest) → IsRefused date parsed reply → None ≡ whose keys m parsed
    nobody date (refused rule) is = refl
    nobody date (wrong_method path) is = refl
    nobody date (typed r) is = absurd is

    go : (b : Bool) → MatchBool b ((parsed : ParsedRequest) × (date : List ℕ) × Asks bytes parsed × IsDateOf m date
        × IsRefused date parsed reply) (reply ≡ refusal None ClockOutOfRange)
        → MatchBool b ((parsed : ParsedRequest) × Asks bytes parsed × (None ≡ whose keys m parsed)) (no_one ≡ no_one)
    go true (parsed, date, asks, dated, is) = (parsed, asks, nobody date parsed is)
    go false is = refl

-- and what asks the desk is of whom it names
pub of_asked : (keys : Keys) (m : ℕ) (bytes : List ℕ) (r : RequestValue) → AsksTheDesk m bytes r
    → IsOf keys (request m bytes) (who_of keys m r)
of_asked keys m bytes r (early, asks) = let in_time : nat_lt m end_of_moments ≡ true = lt-ltb m end_of_moments early in
    rw in_time (typed r, asks, refl)

-- ---- a turn in both runs

-- a turn is taken in both runs, or is none of the other's
pub record Kept (keys : Keys) (u : ℕ) (these : ℕ → Bool) (Alike : Content → Content → Type 0) (turn : Turn)
    (next d : Content) (told : EventAnswer) : Type 0 where
  pub who : Option ℕ
  pub of : IsOf keys turn.event who
  pub theirs : is_theirs these turn who ≡ true
  pub left : Content
  pub other : EventAnswer
  pub takes : Takes keys turn d left other
  pub alike : Alike next left
  pub same : is_told u turn who ≡ true → told ≡ other

pub record Dropped (keys : Keys) (u : ℕ) (these : ℕ → Bool) (Alike : Content → Content → Type 0) (turn : Turn)
    (next d : Content) : Type 0 where
  pub who : Option ℕ
  pub of : IsOf keys turn.event who
  pub theirs : is_theirs these turn who ≡ false
  pub told : is_told u turn who ≡ false
  pub alike : Alike next d

-- ---- the answer to a request that both runs take

reply_by : (date : List ℕ) (a : Result (Option Data) Rule) → IfOk a (λ object. is_some object ≡ true) → (reply : List ℕ)
    × IsReplied date a reply
reply_by date (Err rule) told = (refusal (Some date) rule, refl)
reply_by date (Ok None) told = absurd (cc)
reply_by date (Ok (Some shown)) told = (framed 200 (Some date) [] (body_of shown), refl)

-- ---- what both runs keep alike

module _ (keys : Keys) (u : ℕ) (these : ℕ → Bool) (itself : these u ≡ true) where
  -- Each of these accounts owns the same in both records, and only these have u as a reviewer.
  pub record Alike (one other : Content) : Type 0 where
    pub kept_one : IsKept keys.seed one
    pub kept_other : IsKept keys.seed other
    pub owned : (w : ℕ) → these w ≡ true → own w (state_of one) ≡ own w (state_of other)
    pub reviewed_one : (s : ℕ) → is_reviewer s u (state_of one).reviewers ≡ true → these (owner_of s) ≡ true
    pub reviewed_other : (s : ℕ) → is_reviewer s u (state_of other).reviewers ≡ true → these (owner_of s) ≡ true

  module _ (session_told : (w n : ℕ) (state : State) → IsWellNumbered state
      → session_record_at n (own w state).sessions
      ≡ (if owner_of n == w then session_record_at n state.sessions else None))
      (set_told : (w v : ℕ) (state : State) → IsWellNumbered state
      → set_record_at v (own w state).sets ≡ (if owner_of (v / 100) == w then set_record_at v state.sets else None))
      (live_told : (w s : ℕ) (state : State)
      → live_records s (own w state).sets ≡ (if owner_of s == w then live_records s state.sets else []))
      (reviewer_told : (w s a : ℕ) (state : State)
      → is_reviewer s a (own w state).reviewers ≡ ((owner_of s == w) && is_reviewer s a state.reviewers)) where
    -- so u sees the same in both
    pub sees : (one other : Content) → Alike one other → SeesTheSame u (state_of one) (state_of other)
    sees one other alike = record {
      owned = alike.owned u itself;
      reviews = λ s. reviews s (these (owner_of s)) refl;
      session = λ s may. session_own (state_of one) s alike.kept_one.sound
          ∙ ap (λ (state : State). session_record_at s state.sessions) (alike.owned (owner_of s) (ours s may))
          ∙ sym (session_own (state_of other) s alike.kept_other.sound);
      live_sets = λ s may. live_own (state_of one) s
          ∙ ap (λ (state : State). live_records s state.sets) (alike.owned (owner_of s) (ours s may))
          ∙ sym (live_own (state_of other) s);
      set = λ v may. set_own (state_of one) v alike.kept_one.sound
          ∙ ap (λ (state : State). set_record_at v state.sets) (alike.owned (owner_of (v / 100)) (ours (v / 100) may))
          ∙ sym (set_own (state_of other) v alike.kept_other.sound);
    }
      where
        session_own : (state : State) (s : ℕ) → IsWellNumbered state
            → session_record_at s state.sessions ≡ session_record_at s (own (owner_of s) state).sessions
        session_own state s well = sym (session_told (owner_of s) s state well ∙ rw (same_number (owner_of s)) refl)

        set_own : (state : State) (v : ℕ) → IsWellNumbered state
            → set_record_at v state.sets ≡ set_record_at v (own (owner_of (v / 100)) state).sets
        set_own state v well = sym (set_told (owner_of (v / 100)) v state well
            ∙ rw (same_number (owner_of (v / 100))) refl)

        live_own : (state : State) (s : ℕ) → live_records s state.sets ≡ live_records s (own (owner_of s) state).sets
        live_own state s = sym (live_told (owner_of s) s state ∙ rw (same_number (owner_of s)) refl)

        reviewer_own : (state : State) (s : ℕ)
            → is_reviewer s u state.reviewers ≡ is_reviewer s u (own (owner_of s) state).reviewers
        reviewer_own state s = sym (reviewer_told (owner_of s) s u state ∙ rw (same_number (owner_of s)) refl)

        none : (b : Bool) (s : ℕ) → (b ≡ true → these (owner_of s) ≡ true) → these (owner_of s) ≡ false → b ≡ false
        none true s within off = absurd (let on = within refl in cc)
        none false s within off = refl

        reviews : (s : ℕ) (b : Bool) → these (owner_of s) ≡ b
            → is_reviewer s u (state_of one).reviewers ≡ is_reviewer s u (state_of other).reviewers
        reviews s true e = reviewer_own (state_of one) s
            ∙ ap (λ (state : State). is_reviewer s u state.reviewers) (alike.owned (owner_of s) e)
            ∙ sym (reviewer_own (state_of other) s)
        reviews s false e =
            none (is_reviewer s u (state_of one).reviewers) s (alike.reviewed_one s) e
            ∙ sym (none (is_reviewer s u (state_of other).reviewers) s (alike.reviewed_other s) e)

        ours : (s : ℕ) → may_see u (owner_of s) s (state_of one) ≡ true → these (owner_of s) ≡ true
        ours s may = go (owner_of s == u) refl may
          where
            go : (b : Bool) → (owner_of s == u) ≡ b → (b || is_reviewer s u (state_of one).reviewers) ≡ true
                → these (owner_of s) ≡ true
            go true e may = let same : owner_of s ≡ u = grind (arith, nat_tests, e) in rw same itself
            go false e may = alike.reviewed_one s may

    -- ---- an order

    module _ (follow_order : (o : Order) (c : Content)
        → state_of (content_order_effect o c) ≡ order_effect o (state_of c))
        (order_kept : (seeds : List (List ℕ)) (o : Order) (c : Content) → IsOrder o → HasSecret o → IsKept seeds c
        → IsKept seeds (content_order_effect o c))
        (order_apart : (v : ℕ) (o : Order) (state : State) → IsWellNumbered state
        → own v (order_effect o state) ≡ own_after_order o v (own v state))
        (order_reviews : (it : OrderChange) (state : State)
        → (after_order_state it state).reviewers ≡ state.reviewers) where
      reviewers_stay : (made : Option OrderChange) (state : State)
          → (state_after_order made state).reviewers ≡ state.reviewers
      reviewers_stay None state = refl
      reviewers_stay (Some it) state = order_reviews it state

      reviewed_ordered : (o : Order) (c : Content)
          → ((s : ℕ) → is_reviewer s u (state_of c).reviewers ≡ true → these (owner_of s) ≡ true)
          → (s : ℕ) → is_reviewer s u (state_of (content_order_effect o c)).reviewers ≡ true → these (owner_of s) ≡ true
      reviewed_ordered o c before s is =
          before s (sym (ap (λ rows. is_reviewer s u rows) (ap (λ (state : State). state.reviewers) (follow_order o c)
          ∙ reviewers_stay (order_change o (state_of c)) (state_of c))) ∙ is)

      own_ordered : (o : Order) (c : Content) → IsKept keys.seed c → (v : ℕ)
          → own v (state_of (content_order_effect o c)) ≡ own_after_order o v (own v (state_of c))
      own_ordered o c kept v = ap (own v) (follow_order o c) ∙ order_apart v o (state_of c) kept.sound

      pub order_taken : (m : ℕ) (o : Order) (one other next : Content) (told : EventAnswer) → CanHappen (order m o)
          → Alike one other
          → Serves keys (order m o) one next told
          → Kept keys u these Alike (record { event = order m o; unavailable = false }) next other told
      order_taken m o one other next (replied reply) can alike serves = absurd serves
      order_taken m o one other next (ordered reply) can alike (is, answers) = record {
        who = None;
        of = refl;
        theirs = refl;
        left = content_order_effect o other;
        other = ordered (order_reply o (state_of other));
        takes = (refl, refl);
        alike = rw is (record {
          kept_one = order_kept keys.seed o one can.0 can.1 alike.kept_one;
          kept_other = order_kept keys.seed o other can.0 can.1 alike.kept_other;
          owned = λ w ours. own_ordered o one alike.kept_one w ∙ ap (own_after_order o w) (alike.owned w ours)
              ∙ sym (own_ordered o other alike.kept_other w);
          reviewed_one = reviewed_ordered o one alike.reviewed_one;
          reviewed_other = reviewed_ordered o other alike.reviewed_other;
        });
        same = λ told. absurd (cc);
      }

    -- ---- a request

    module _ (follow : (keys : Keys) (m : ℕ) (r : RequestValue) (c : Content)
        → state_of (content_effect keys m r c) ≡ effect keys m r (state_of c))
        (request_kept : (keys : Keys) (m : ℕ) (r : RequestValue) (c : Content) → IsKept keys.seed c
        → IsKept keys.seed (content_effect keys m r c))
        (apart : (v : ℕ) (keys : Keys) (m : ℕ) (r : RequestValue) (state : State) → IsWellNumbered state
        → own v (effect keys m r state) ≡ own_after_request keys m r v (own v state))
        (nothing : (keys : Keys) (m : ℕ) (r : RequestValue) (state : State) → who_of keys m r ≡ None
        → effect keys m r state ≡ state)
        (answered_alike : (v : ℕ) (keys : Keys) (m : ℕ) (r : RequestValue) (one other : State) → IsWellNumbered one
        → IsWellNumbered other → who_of keys m r ≡ Some v
        → SeesTheSame v one other → answer keys m r one ≡ answer keys m r other)
        (changes : (keys : Keys) (m : ℕ) (r : RequestValue) (state : State) (v : ℕ) (it : Change) → IsWellNumbered state
        → who_of keys m r ≡ Some v → accepted_change keys m r state ≡ Some it
        → account_of_change it ≡ v)
        (adds : (keys : Keys) (m : ℕ) (r : RequestValue) (state : State) (s a : ℕ)
        → accepted_change keys m r state ≡ Some (change.AddReviewer (record { session = s; account = a }))
        → reviewer_asked r ≡ Some a)
        (reviewers : (s a : ℕ) (it : Change) (state : State) → is_reviewer s a (after_state it state).reviewers ≡ true
        → (is_reviewer s a state.reviewers ≡ true) ⊎ (it ≡ change.AddReviewer (record { session = s; account = a })))
        (accepted_told : (keys : Keys) (m : ℕ) (r : RequestValue) (c : Content) → IsKept keys.seed c
        → 1 ≤ length keys.seed → IfOk (answer keys m r (state_of c)) (λ object. is_some object ≡ true))
        (seeded : 1 ≤ length keys.seed) (m : ℕ) (bytes : List ℕ) where
      own_left : (r : RequestValue) (c : Content) → IsKept keys.seed c → (v : ℕ)
          → own v (state_of (content_effect keys m r c)) ≡ own_after_request keys m r v (own v (state_of c))
      own_left r c kept v = ap (own v) (follow keys m r c) ∙ apart v keys m r (state_of c) kept.sound

      -- who has u as a reviewer afterwards had it before, or adds it
      reviewed_after : (r : RequestValue) (w : ℕ) (c : Content) → IsKept keys.seed c → who_of keys m r ≡ Some w
          → (reviewer_asked r ≡ Some u → these w ≡ true)
          → ((s : ℕ) → is_reviewer s u (state_of c).reviewers ≡ true → these (owner_of s) ≡ true)
          → (s : ℕ) → is_reviewer s u (state_of (content_effect keys m r c)).reviewers ≡ true
          → these (owner_of s) ≡ true
      reviewed_after r w c kept named asked before s is =
          go (accepted_change keys m r (state_of c)) refl
          (sym (ap (λ (state : State). is_reviewer s u state.reviewers) (follow keys m r c)) ∙ is)
        where
          go : (made : Option Change) → accepted_change keys m r (state_of c) ≡ made
              → is_reviewer s u (state_after made (state_of c)).reviewers ≡ true → these (owner_of s) ≡ true
          go None makes is = before s is
          go (Some it) makes is = elim (reviewers s u it (state_of c) is) [
            | inl there ↦ before s there
            | inr added ↦
                let of : owner_of s ≡ w = sym (ap account_of_change added)
                ∙ changes keys m r (state_of c) w it kept.sound named makes in
                rw of (asked (adds keys m r (state_of c) s u (makes ∙ ap Some added)))
          ]

      abbrev asking : Turn
      asking = record { event = request m bytes; unavailable = false }

      module _ (r : RequestValue) (asks : AsksTheDesk m bytes r) (date : List ℕ) (dated : IsDateOf m date)
          (one other : Content) (alike : Alike one other) where
        -- a request of one of these accounts is taken in both
        ours_taken : (w : ℕ) → who_of keys m r ≡ Some w → these w ≡ true → (reply : List ℕ)
            → IsReplied date (answer keys m r (state_of one)) reply
            → Kept keys u these Alike asking (content_effect keys m r one) other (replied reply)
        ours_taken w named ours reply told = go (w == u) refl
          where
            after : Alike (content_effect keys m r one) (content_effect keys m r other)
            after = record {
              kept_one = request_kept keys m r one alike.kept_one;
              kept_other = request_kept keys m r other alike.kept_other;
              owned = λ v within. own_left r one alike.kept_one v
                  ∙ ap (own_after_request keys m r v) (alike.owned v within)
                  ∙ sym (own_left r other alike.kept_other v);
              reviewed_one = reviewed_after r w one alike.kept_one named (λ asked. ours) alike.reviewed_one;
              reviewed_other = reviewed_after r w other alike.kept_other named (λ asked. ours) alike.reviewed_other;
            }

            answers : (other_reply : List ℕ) → IsReplied date (answer keys m r (state_of other)) other_reply
                → (is_who (who_of keys m r) u ≡ true → replied reply ≡ replied other_reply)
                → Kept keys u these Alike asking (content_effect keys m r one) other (replied reply)
            answers other_reply said same = record {
              who = who_of keys m r;
              of = of_asked keys m bytes r asks;
              theirs = rw (named, ours) refl;
              left = content_effect keys m r other;
              other = replied other_reply;
              takes = inr (r, asks, (date, dated, refl, said));
              alike = after;
              same = same;
            }

            go : (b : Bool) → (w == u) ≡ b
                → Kept keys u these Alike asking (content_effect keys m r one) other (replied reply)
            go true e =
                let is : w ≡ u = grind (arith, nat_tests, e) in
                let same = answered_alike u keys m r (state_of one)
                (state_of other) alike.kept_one.sound alike.kept_other.sound (named ∙ ap Some is)
                (sees one other alike) in
                answers reply (subst (λ (a : Result (Option Data) Rule). IsReplied date a reply) same told)
                (λ told. refl)
            go false e =
                let given = reply_by date (answer keys m r (state_of other))
                (accepted_told keys m r other alike.kept_other seeded) in
                answers given.0 given.1 (λ told. let off : false ≡ true = rw (named, e) at told in absurd (cc))

        -- of another account's nothing is seen
        others_dropped : (w : ℕ) → who_of keys m r ≡ Some w → these w ≡ false
            → (reviewer_asked r ≡ Some u → these w ≡ true)
            → Dropped keys u these Alike asking (content_effect keys m r one) other
        others_dropped w named off asked = record {
          who = who_of keys m r;
          of = of_asked keys m bytes r asks;
          theirs = rw (named, off) refl;
          told = rw named (not_same u itself);
          alike = record {
            kept_one = request_kept keys m r one alike.kept_one;
            kept_other = alike.kept_other;
            owned = λ v within. own_left r one alike.kept_one v ∙ stays v within ∙ alike.owned v within;
            reviewed_one = reviewed_after r w one alike.kept_one named asked alike.reviewed_one;
            reviewed_other = alike.reviewed_other;
          };
        }
          where
            not_same : (v : ℕ) → these v ≡ true → (w == v) ≡ false
            not_same v within = go (w == v) refl
              where
                go : (b : Bool) → (w == v) ≡ b → b ≡ false
                go true e = absurd (let is : w ≡ v = grind (arith, nat_tests, e) in
                    let on : these w ≡ true = rw is within in cc (on, off))
                go false e = refl

            stays : (v : ℕ) → these v ≡ true
                → own_after_request keys m r v (own v (state_of one)) ≡ own v (state_of one)
            stays v within = rw (named, not_same v within) refl

        -- nor is of nobody's
        nobodys_dropped : who_of keys m r ≡ None → Dropped keys u these Alike asking (content_effect keys m r one) other
        nobodys_dropped named = record {
          who = who_of keys m r;
          of = of_asked keys m bytes r asks;
          theirs = rw named refl;
          told = rw named refl;
          alike = record {
            kept_one = request_kept keys m r one alike.kept_one;
            kept_other = alike.kept_other;
            owned = λ v within. ap (own v) same ∙ alike.owned v within;
            reviewed_one = λ s is. alike.reviewed_one s
                (sym (ap (λ (state : State). is_reviewer s u state.reviewers) same) ∙ is);
            reviewed_other = alike.reviewed_other;
          };
        }
          where
            same : state_of (content_effect keys m r one) ≡ state_of one
            same = follow keys m r one ∙ nothing keys m r (state_of one) named

        pub desk_turn : AsksWithin keys u these (request m bytes) → (reply : List ℕ)
            → IsReplied date (answer keys m r (state_of one)) reply
            → Kept keys u these Alike asking (content_effect keys m r one) other (replied reply)
            ⊎ Dropped keys u these Alike asking (content_effect keys m r one) other
        desk_turn within reply told = go (who_of keys m r) refl
          where
            by : (w : ℕ) → who_of keys m r ≡ Some w → (b : Bool) → these w ≡ b
                → Kept keys u these Alike asking (content_effect keys m r one) other (replied reply)
                ⊎ Dropped keys u these Alike asking (content_effect keys m r one) other
            by w named true ours = inl (ours_taken w named ours reply told)
            by w named false off = inr (others_dropped w named off (λ asked. within r w asks asked named))

            go : (who : Option ℕ) → who_of keys m r ≡ who
                → Kept keys u these Alike asking (content_effect keys m r one) other (replied reply)
                ⊎ Dropped keys u these Alike asking (content_effect keys m r one) other
            go None named = inr (nobodys_dropped named)
            go (Some w) named = by w named (these w) refl

      pub request_turn : (one other next : Content) (told : EventAnswer) → AsksWithin keys u these (request m bytes)
          → Alike one other → Serves keys (request m bytes) one next told
          → Kept keys u these Alike asking next other told ⊎ Dropped keys u these Alike asking next other
      request_turn one other next (ordered reply) within alike serves = absurd serves
      request_turn one other next (replied reply) within alike serves = elim serves [
        | inl (same, refuses) ↦ inr (record {
          who = None;
          of = of_refused keys m bytes reply refuses;
          theirs = refl;
          told = refl;
          alike = rw same alike;
        })
        | inr (r, asks, (date, dated, left, told)) ↦ rw left
            (desk_turn r asks date dated one other alike within reply told)
      ]

-- ---- a run

-- an event that was unavailable changes nothing, and is taken in none of the other run
put_off : (keys : Keys) (u : ℕ) (these : ℕ → Bool) (AlikeNow : Content → Content → Type 0) (event : Event)
    (one other next : Content) (told : EventAnswer)
    → AlikeNow one other → Takes keys (record { event = event; unavailable = true }) one next told
    → Dropped keys u these AlikeNow (record { event = event; unavailable = true }) next other
put_off keys u these AlikeNow (request m bytes) one other next (replied reply) alike (same, ((r, asks), is)) =
    record {
      who = who_of keys m r;
      of = of_asked keys m bytes r asks;
      theirs = refl;
      told = refl;
      alike =
          rw same alike;
    }
put_off keys u these AlikeNow (request m bytes) one other next (ordered reply) alike takes = absurd takes
put_off keys u these AlikeNow (order m o) one other next (replied reply) alike takes = absurd takes
put_off keys u these AlikeNow (order m o) one other next (ordered reply) alike (same, is) =
    record { who = None; of = refl; theirs = refl; told = refl; alike = rw same alike }

module _ (keys : Keys) (u : ℕ) (these : ℕ → Bool) (AlikeNow : Content → Content → Type 0)
    (turned : (turn : Turn) (one other next : Content) (told : EventAnswer) → CanHappen turn.event
    → (turn.unavailable ≡ false → AsksWithin keys u these turn.event) → AlikeNow one other
    → Takes keys turn one next told → Kept keys u these AlikeNow turn next other told
    ⊎ Dropped keys u these AlikeNow turn next other) where
  abbrev Alone : List Turn → List EventAnswer → Content → Type 0
  Alone turns answers other = (chosen : List Turn) × (left : Content) × (others : List EventAnswer)
      × (told : List EventAnswer)
      × Only keys these turns chosen × Runs keys chosen other left others × Told keys u turns answers told
      × Told keys u chosen others told

  kept_first : (turn : Turn) (turns : List Turn) (next other : Content) (told : EventAnswer)
      (answers : List EventAnswer) → (kept : Kept keys u these AlikeNow turn next other told)
      → Alone turns answers kept.left → Alone (turn ∷ turns) (told ∷ answers) other
  kept_first turn turns next other told answers kept (chosen, left, others, heard, only, runs, first, second) =
      go (is_told u turn kept.who) refl
    where
      chosen_more : Only keys these (turn ∷ turns) (turn ∷ chosen)
      chosen_more = (kept.who, kept.of, rw (kept.theirs) (chosen, refl, only))

      go : (b : Bool) → is_told u turn kept.who ≡ b → Alone (turn ∷ turns) (told ∷ answers) other
      go true e = (
        turn ∷ chosen,
        left,
        kept.other ∷ others,
        told ∷ heard,
        chosen_more,
        (kept.left, kept.takes, runs),
        (kept.who, kept.of, rw e (heard, refl, first)),
        (kept.who, kept.of, rw e (heard, ap (λ answer. answer ∷ heard) (kept.same e), second)),
      )
      go false e = (
        turn ∷ chosen,
        left,
        kept.other ∷ others,
        heard,
        chosen_more,
        (kept.left, kept.takes, runs),
        (kept.who, kept.of, rw e first),
        (kept.who, kept.of, rw e second),
      )

  dropped_first : (turn : Turn) (turns : List Turn) (next other : Content) (told : EventAnswer)
      (answers : List EventAnswer) → Dropped keys u these AlikeNow turn next other
      → Alone turns answers other → Alone (turn ∷ turns) (told ∷ answers) other
  dropped_first turn turns next other told answers dropped (chosen, left, others, heard, only, runs, first, second) = (
    chosen,
    left,
    others,
    heard,
    (dropped.who, dropped.of, rw (dropped.theirs) only),
    runs,
    (dropped.who, dropped.of, rw (dropped.told) first),
    second,
  )

  pub alone : (turns : List Turn) (one other new : Content) (answers : List EventAnswer)
      → All (λ turn. CanHappen turn.event) turns
      → All (λ turn. turn.unavailable ≡ false → AsksWithin keys u these turn.event) turns → AlikeNow one other
      → Runs keys turns one new answers → Alone turns answers other
  alone [] one other new [] can asked alike runs = ([], other, [], [], refl, refl, refl, refl)
  alone [] one other new (told ∷ answers) can asked alike runs = absurd runs
  alone (turn ∷ turns) one other new [] can asked alike runs = absurd runs
  alone (turn ∷ turns) one other new (told ∷ answers) can asked alike (next, takes, runs) =
      let can_later = All-tail (λ (turn : Turn). CanHappen turn.event) turn turns can in
      let asked_later = All-tail (λ (turn : Turn). turn.unavailable ≡ false
      → AsksWithin keys u these turn.event) turn turns asked in
      elim (turned turn one other next told (All-head (λ (turn : Turn). CanHappen turn.event) turn turns can)
      (All-head (λ (turn : Turn). turn.unavailable ≡ false → AsksWithin keys u these turn.event) turn turns asked) alike
      takes) [
        | inl kept ↦ kept_first turn turns next other told answers kept
            (alone turns next kept.left new answers can_later asked_later kept.alike runs)
        | inr dropped ↦ dropped_first turn turns next other told answers dropped
            (alone turns next other new answers can_later asked_later dropped.alike runs)
      ]

module _ (keys : Keys) (u : ℕ) (these : ℕ → Bool) (itself : these u ≡ true)
    (session_told : (w n : ℕ) (state : State) → IsWellNumbered state
    → session_record_at n (own w state).sessions
    ≡ (if owner_of n == w then session_record_at n state.sessions else None))
    (set_told : (w v : ℕ) (state : State) → IsWellNumbered state
    → set_record_at v (own w state).sets ≡ (if owner_of (v / 100) == w then set_record_at v state.sets else None))
    (live_told : (w s : ℕ) (state : State)
    → live_records s (own w state).sets ≡ (if owner_of s == w then live_records s state.sets else []))
    (reviewer_told : (w s a : ℕ) (state : State)
    → is_reviewer s a (own w state).reviewers ≡ ((owner_of s == w) && is_reviewer s a state.reviewers))
    (follow_order : (o : Order) (c : Content) → state_of (content_order_effect o c) ≡ order_effect o (state_of c))
    (order_kept : (seeds : List (List ℕ)) (o : Order) (c : Content) → IsOrder o → HasSecret o → IsKept seeds c
    → IsKept seeds (content_order_effect o c))
    (order_apart : (v : ℕ) (o : Order) (state : State) → IsWellNumbered state
    → own v (order_effect o state) ≡ own_after_order o v (own v state))
    (order_reviews : (it : OrderChange) (state : State) → (after_order_state it state).reviewers ≡ state.reviewers)
    (follow : (keys : Keys) (m : ℕ) (r : RequestValue) (c : Content)
    → state_of (content_effect keys m r c) ≡ effect keys m r (state_of c))
    (request_kept : (keys : Keys) (m : ℕ) (r : RequestValue) (c : Content) → IsKept keys.seed c
    → IsKept keys.seed (content_effect keys m r c))
    (apart : (v : ℕ) (keys : Keys) (m : ℕ) (r : RequestValue) (state : State) → IsWellNumbered state
    → own v (effect keys m r state) ≡ own_after_request keys m r v (own v state))
    (nothing : (keys : Keys) (m : ℕ) (r : RequestValue) (state : State) → who_of keys m r ≡ None
    → effect keys m r state ≡ state)
    (answered_alike : (v : ℕ) (keys : Keys) (m : ℕ) (r : RequestValue) (one other : State) → IsWellNumbered one
    → IsWellNumbered other → who_of keys m r ≡ Some v
    → SeesTheSame v one other → answer keys m r one ≡ answer keys m r other)
    (changes : (keys : Keys) (m : ℕ) (r : RequestValue) (state : State) (v : ℕ) (it : Change) → IsWellNumbered state
    → who_of keys m r ≡ Some v → accepted_change keys m r state ≡ Some it
    → account_of_change it ≡ v)
    (adds : (keys : Keys) (m : ℕ) (r : RequestValue) (state : State) (s a : ℕ)
    → accepted_change keys m r state ≡ Some (change.AddReviewer (record { session = s; account = a }))
    → reviewer_asked r ≡ Some a)
    (reviewers : (s a : ℕ) (it : Change) (state : State) → is_reviewer s a (after_state it state).reviewers ≡ true
    → (is_reviewer s a state.reviewers ≡ true) ⊎ (it ≡ change.AddReviewer (record { session = s; account = a })))
    (accepted_told : (keys : Keys) (m : ℕ) (r : RequestValue) (c : Content) → IsKept keys.seed c → 1 ≤ length keys.seed
    → IfOk (answer keys m r (state_of c)) (λ object. is_some object ≡ true))
    (seeded : 1 ≤ length keys.seed) where
  turned : (event : Event) (unavailable : Bool) (one other next : Content) (told : EventAnswer) → CanHappen event
      → (unavailable ≡ false → AsksWithin keys u these event)
      → Alike keys u these itself one other
      → Takes keys (record { event = event; unavailable = unavailable }) one next told
      → Kept keys u these (Alike keys u these itself)
      (record { event = event; unavailable = unavailable }) next other told
      ⊎ Dropped keys u these (Alike keys u these itself)
      (record { event = event; unavailable = unavailable }) next other
  turned event true one other next told can asked alike takes =
      inr (put_off keys u these (Alike keys u these itself) event one other next told alike takes)
  turned (order m o) false one other next told can asked alike serves =
      inl (order_taken keys u these itself session_told set_told live_told reviewer_told follow_order order_kept
      order_apart order_reviews m o one other next told can alike serves)
  turned (request m bytes) false one other next told can asked alike serves =
      request_turn keys u these itself session_told set_told live_told reviewer_told follow request_kept apart nothing
      answered_alike changes adds reviewers accepted_told seeded m bytes
      one other next told (asked refl) alike serves

  pub isolated : (turns : List Turn) (old new begun : Content) (answers : List EventAnswer) → IsKept keys.seed old
      → All (λ turn. CanHappen turn.event) turns
      → LetsSee keys u these (state_of old) turns → AreTheirs keys u these old begun → Runs keys turns old new answers
      → IsToldAlone keys u these turns begun answers
  isolated turns old new begun answers kept can lets theirs runs =
      let (chosen, left, others, told, only, runs_alone, here, heard) =
      alone keys u these (Alike keys u these itself)
      (λ turn one other next told can_now asked alike takes.
      turned turn.event turn.unavailable one other next told can_now asked alike takes)
      turns old begun new answers can lets.asked
      (record {
        kept_one = kept;
        kept_other = theirs.kept;
        owned = theirs.owned;
        reviewed_one = lets.reviewed;
        reviewed_other = theirs.reviewed;
      }) runs in
      record {
        chosen = chosen;
        left = left;
        others = others;
        told = told;
        only = only;
        runs = runs_alone;
        here = here;
        alone = heard;
        every = λ chosen_too after said hears only_theirs runs_theirs told_theirs.
            let same : chosen_too ≡ chosen = only_one keys these turns chosen_too chosen only_theirs only in
            let ran = run_one keys chosen begun after left said others
            (subst (λ (ts : List Turn). Runs keys ts begun after said) same runs_theirs) runs_alone in
            let hears_here : Told keys u chosen others hears =
            subst (λ (answers : List EventAnswer). Told keys u chosen answers hears) ran.1
            (subst (λ (ts : List Turn). Told keys u ts said hears) same told_theirs) in
            let is : hears ≡ told = told_one keys u chosen others hears told hears_here heard in
            subst (λ (answers_told : List EventAnswer). Told keys u turns answers answers_told) (sym is) here;
      }

-- where nobody else lets it see anything
pub alone_unnamed : Isolation → IsolationAlone
alone_unnamed isolation keys u turns old new begun answers seeded kept can unnamed theirs runs =
    isolation keys u (λ w. w == u) turns old new begun answers seeded kept can
    (record {
      itself = same_number u;
      reviewed = λ s is. rw (unnamed.reviewed s is) (same_number u);
      asked = unnamed.asked;
    }) theirs runs
