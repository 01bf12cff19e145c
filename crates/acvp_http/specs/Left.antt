-- What a crash finds after the turns of a run.
use Rattle.std.specs.Prelude.{◌≡◌, ◌⊎◌, List, ◌∷◌, ◌++◌, true}
use Rattle.acvp_tables.specs.Content.{Content}
use Rattle.acvp_tables.specs.Meaning.{Meaning}
use Rattle.acvp_desk.specs.Kept.{IsKept}
use Rattle.acvp_desk.specs.Serves.{Holds}
use Rattle.acvp_desk.specs.declared.keys.Keys.{Keys}
use Rattle.acvp_http.specs.Event.{EventAnswer, Turn}
use Rattle.acvp_http.specs.Serve.{HasEffect, Runs}

module _ {T : Type 0} (meaning : Meaning T) where
  open meaning use {stands, is_open, is_clean, leaves}

  -- It finds these records, or those with the effect of one event, which was unavailable.
  abbrev pub LeavesOneMore : Keys → List Turn → Content → T → Type 0
  LeavesOneMore keys turns next new =
      (earlier : List Turn) × (turn : Turn) × (later : List Turn) × (turns ≡ earlier ++ turn ∷ later)
      × (turn.unavailable ≡ true) × ((other : Content) × HasEffect keys turn.event next other × leaves new next other)

  -- So of tables that were open, while the disk is clean: it finds the records after all turns alone, or at most
  -- one event more. These records the tables stand for, if they are open.
  abbrev pub LeavesRun : Keys → List Turn → List EventAnswer → T → T → Type 0
  LeavesRun keys turns answers old new = is_clean new → is_open old → (c : Content) → IsKept keys.seed c → stands old c
      → (next : Content) × Runs keys turns c next answers × IsKept keys.seed next × Holds meaning new next
      × (((other : Content) → leaves new next other) ⊎ LeavesOneMore keys turns next new)
