-- The promise over a whole life: one list of turns and one of answers, whatever runs and stops part them.
use Rattle.std.specs.Prelude.{◌≡◌, List, [], ◌∷◌, ◌++◌, length}
use Rattle.acvp_tables.specs.Content.{Content}
use Rattle.acvp_tables.specs.State.{State, state_of}
use Rattle.acvp_http.specs.Event.{EventAnswer, Turn}
use Rattle.acvp_http.specs.Headline.{IsAnswered, LeftBy}
use Rattle.acvp_http.specs.Life.{Life, Passes, Run}

-- the turns of runs, one after another
abbrev pub turns_in : List Run → List Turn
turns_in [] = []
turns_in (run ∷ runs) = run.turns ++ turns_in runs

-- their answers
abbrev pub answers_in : List Run → List EventAnswer
answers_in [] = []
answers_in (run ∷ runs) = run.answers ++ answers_in runs

-- What runs leave of a state: what the accepted ones of their turns leave, and after each stop at most the effect of one
-- turn more, which was unavailable.
abbrev pub LeftByRuns : List Run → State → State → Type 0
LeftByRuns [] state now = now ≡ state
LeftByRuns (run ∷ runs) state now =
    (next : Content) × (start : Content) × LeftBy run.keys run.turns state (state_of next) × Passes run next start
    × LeftByRuns runs (state_of start) now

-- The turn behind these is of one of the runs. Its answer is among those of the life, in its place. It is given under
-- the keys of this run, over the state that the runs before it left, and then the accepted turns before it in its own.
pub record IsAnsweredInLife (runs : List Run) (earlier : List Turn) (turn : Turn) (state : State) : Type 0 where
  pub past : List Run
  pub run : Run
  pub coming : List Run
  pub is_among : runs ≡ past ++ run ∷ coming
  pub within : List Turn
  pub rest : List Turn
  pub is_within : run.turns ≡ within ++ turn ∷ rest
  pub is_behind : earlier ≡ turns_in past ++ within
  pub begun : State
  pub now : State
  pub next : State
  pub left : LeftByRuns past state begun
  pub went : LeftBy run.keys within begun now
  pub answer : EventAnswer
  pub answered : IsAnswered run.keys turn now next answer
  pub told : List EventAnswer
  pub after : List EventAnswer
  pub is_told : answers_in runs ≡ told ++ answer ∷ after
  pub in_place : length told ≡ length earlier

-- The headline over a life: each of its turns is answered over the state that the accepted ones before it left.
abbrev pub LifeHeadline : Type 0
LifeHeadline = (runs : List Run) (earlier later : List Turn) (turn : Turn) (old new : Content) → Life runs old new
    → turns_in runs ≡ earlier ++ turn ∷ later → IsAnsweredInLife runs earlier turn (state_of old)

-- And what a life leaves is what its accepted turns left.
abbrev pub LifeHeadlineLeft : Type 0
LifeHeadlineLeft = (runs : List Run) (old new : Content) → Life runs old new
    → LeftByRuns runs (state_of old) (state_of new)
