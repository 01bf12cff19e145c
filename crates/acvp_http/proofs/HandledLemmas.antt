-- What handling the bytes of a request does, for any tables.
use Rattle.std.proofs.Common.{◌≡◌, inl, inr, ℕ, List, Bool, Some, Result, Ok, Err, [], drop, refl, Vec}
use Rattle.std.specs.Global.{Global}
use Rattle.acvp_policy.specs.declared.rule.Rule.{Rule}
use Rattle.acvp_tables.specs.Content.{Content, no_rows}
use Rattle.acvp_tables.specs.Meaning.{Meaning}
use Rattle.acvp_tables.specs.State.{state_of}
use Rattle.acvp_desk.specs.Answer.{answer, spare}
use Rattle.acvp_desk.specs.Data.{Data}
use Rattle.acvp_desk.specs.Kept.{IsKept}
use Rattle.acvp_desk.specs.declared.keys.Keys.{Keys}
use Rattle.acvp_desk.specs.Desk.{DeskValue}
use Rattle.acvp_desk.specs.Request.{RequestValue}
use Rattle.acvp_desk.specs.Serves.{result_of}
use Rattle.acvp_desk.specs.Serves as desk
use Rattle.acvp_desk.specs.declared.desk.DeskReply.TheVariants.{Given, Denied}
use Rattle.acvp_http.specs.Handled.{Handles}
use Rattle.acvp_http.specs.Reply.{refusal, framed, IsDateOf}
use Rattle.acvp_http.specs.Serve.{RefusesAtOnce, AsksTheDesk, ShowsRequest}
use Rattle.acvp_http.proofs.ServeLemmas.{taken_at_once, taken_denied, taken_given, shown_denied, live_denied}

-- what is refused isn't accepted
pub told_apart : {X F : Type 0} {told : Result X F} {x : X} → told ≡ Ok x → (fault : F) × (told ≡ Err fault) → ⊥
told_apart is (fault, refused) = cc

module _ {T : Type 0} (meaning : Meaning T)
    (rests : (t : T) (c d : Content) → meaning.is_open t → meaning.stands t c → meaning.leaves t c d) (m : ℕ)
    (bytes : List ℕ) where
  -- nobody was looked at
  pub handled_at_once : (at : DeskValue T) (reply : List ℕ) → RefusesAtOnce m bytes reply
      → Handles meaning m bytes reply at at
  handled_at_once at reply at_once = record {
    keys = refl;
    was_open = λ live. live;
    was_clean = λ clean. clean;
    stays_open = inr (λ clean live. live);
    shown = inl (at_once, refl);
    served = taken_at_once meaning at.keys m bytes rests at.tables reply at_once;
    shut = λ clean off c d left. left;
  }

  -- what is shown, of the tables alone
  pub shows_handled : (reply : List ℕ) (old new : DeskValue T) → Handles meaning m bytes reply old new
      → ShowsRequest meaning m bytes reply old.tables new.tables
  shows_handled reply old new handled = elim handled.shown [
    | inl (at_once, same) ↦ inl (at_once, cc)
    | inr asked ↦ inr asked
  ]

  module _ (r : RequestValue) (asks : AsksTheDesk m bytes r) (date : List ℕ) (dated : IsDateOf m date)
      (old new : DeskValue T) (same : new.keys ≡ old.keys)
      (changed : Bool) (reply : List ℕ) where
    -- the desk has denied it
    pub handled_denied : (told : Rule)
        → desk.Serves meaning (result_of (Denied told) changed) old.tables new.tables old.keys m r
        → reply ≡ refusal (Some date) told → Handles meaning m bytes reply old new
    handled_denied told serves is = record {
      keys = same;
      was_open = serves.was_open;
      was_clean = serves.was_clean;
      stays_open = live_denied meaning old.keys m bytes r asks date dated old.tables new.tables changed told reply
          serves is;
      shown = inr (
        r,
        asks,
        shown_denied meaning old.keys m bytes r asks date dated old.tables new.tables changed told
            reply serves is,
      );
      served = taken_denied meaning old.keys m bytes r asks date dated old.tables new.tables changed rests told reply
          serves is;
      shut = serves.shut;
    }

    -- the desk has given a reply
    pub handled_given : (start : (seeds : List (List ℕ)) → IsKept seeds no_rows)
        (nobody : (keys : Keys) (m : ℕ) (r : RequestValue) (shown : Data)
        → answer keys m r (state_of no_rows) ≡ Ok (Some shown) → ⊥) (buffer : Vec ℕ Global)
        → desk.Serves meaning (result_of (Given buffer) changed) old.tables new.tables old.keys m r
        → reply ≡ framed 200 (Some date) [] (drop spare buffer.items) → Handles meaning m bytes reply old new
    handled_given start nobody buffer serves is = record {
      keys = same;
      was_open = serves.was_open;
      was_clean = serves.was_clean;
      stays_open = inr serves.stays_open;
      shown = inr (r, asks, (date, dated, inl (_, is)));
      served = taken_given meaning old.keys m bytes r asks date dated old.tables new.tables changed start nobody buffer
          reply serves is;
      shut = serves.shut;
    }
