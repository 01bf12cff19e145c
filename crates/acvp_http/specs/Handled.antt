-- What handling the bytes of a request does.
use Rattle.std.specs.Prelude.{◌≡◌, ◌⊎◌, ℕ, List}
use Rattle.acvp_tables.specs.Meaning.{Meaning}
use Rattle.acvp_desk.specs.Desk.{DeskValue}
use Rattle.acvp_desk.specs.Request.{RequestValue}
use Rattle.acvp_http.specs.Event.{replied}
use Rattle.acvp_http.specs.Serve.{RefusesAtOnce, AsksTheDesk, ShowsReply, RequestTaken, LeavesShut, StaysOpen}

module _ {T : Type 0} (meaning : Meaning T) where
  open meaning use {is_open, is_clean}

  pub record Handles (moment : ℕ) (bytes reply : List ℕ) (old new : DeskValue T) : Type 0 where
    pub keys : new.keys ≡ old.keys
    pub was_open : is_open new.tables → is_open old.tables
    pub was_clean : is_clean new.tables → is_clean old.tables
    -- unless it is unavailable, tables that were open are open
    pub stays_open : StaysOpen meaning (replied reply) old.tables new.tables
    -- what the reply shows, whatever the tables stand for
    pub shown : (RefusesAtOnce moment bytes reply × (new ≡ old))
        ⊎ ((r : RequestValue) × AsksTheDesk moment bytes r
        × ShowsReply meaning moment reply old.tables new.tables)
    -- what becomes of the records, and what a crash finds after it of tables that were open
    pub served : RequestTaken meaning old.keys moment bytes reply old.tables new.tables
    -- and of tables that were shut
    pub shut : LeavesShut meaning old.tables new.tables
