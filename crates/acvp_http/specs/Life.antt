-- The life of the records over several runs of the server, each of which ends by a stop or by a close. Of a stop
-- within a turn nothing is said.
use Rattle.std.specs.Prelude.{◌≡◌, ◌⊎◌, ℕ, ◌≤◌, List, [], ◌∷◌, ◌++◌, length, Bool, true, false, ⊤}
use Rattle.std.specs.List.{All}
use Rattle.acvp_tables.specs.Content.{Content}
use Rattle.acvp_desk.specs.Kept.{IsKept}
use Rattle.acvp_desk.specs.declared.keys.Keys.{Keys}
use Rattle.acvp_http.specs.Event.{EventAnswer, CanHappen, Turn}
use Rattle.acvp_http.specs.Serve.{HasEffect, Runs}

-- one run of the server: its keys, its turns, their answers, and whether it ended by a close
pub record Run : Type 0 where
  pub keys : Keys
  pub turns : List Turn
  pub answers : List EventAnswer
  pub closed : Bool

-- Each run has the seeds of the one before, and maybe more behind them. It has one at least, as the keys of every
-- server do.
abbrev pub AddsSeeds : List (List ℕ) → List Run → Type 0
AddsSeeds seeds [] = ⊤
AddsSeeds seeds (run ∷ runs) =
    ((more : List (List ℕ)) × (run.keys.seed ≡ seeds ++ more)) × (1 ≤ length run.keys.seed)
    × AddsSeeds run.keys.seed runs

-- The records after the turns of a run are there when the next one begins. Or, where it was stopped, those with the
-- effect of one event more, which was unavailable.
abbrev pub Passes : Run → Content → Content → Type 0
Passes run next start = (start ≡ next)
    ⊎ ((run.closed ≡ false) × ((earlier : List Turn) × (turn : Turn) × (later : List Turn)
    × (run.turns ≡ earlier ++ turn ∷ later) × (turn.unavailable ≡ true) × HasEffect run.keys turn.event next start))

-- A run goes over these records to the next, as the definitions say. It has a seed, the records before it are kept
-- under its seeds, and each of its events can happen: so what `headline` and `isolation` say holds of it.
pub record GoesOver (run : Run) (old next : Content) : Type 0 where
  pub seeded : 1 ≤ length run.keys.seed
  pub kept : IsKept run.keys.seed old
  pub can : All (λ turn. CanHappen turn.event) run.turns
  pub runs : Runs run.keys run.turns old next run.answers

-- The runs, one after another: the records before the first and those after the last. Each run goes over the records
-- that are there when it begins.
abbrev pub Life : List Run → Content → Content → Type 0
Life [] old new = new ≡ old
Life (run ∷ runs) old new =
    (next : Content) × (start : Content) × GoesOver run old next × Passes run next start × Life runs start new

-- the seeds of the last of the runs, or these where there is none
abbrev pub last_seeds : List (List ℕ) → List Run → List (List ℕ)
last_seeds seeds [] = seeds
last_seeds seeds (run ∷ runs) = last_seeds run.keys.seed runs
