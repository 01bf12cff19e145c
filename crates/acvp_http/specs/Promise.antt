-- What is promised of a run: the headline and isolation, of one run.
use Rattle.std.specs.Prelude.{◌≡◌, ℕ, List, ◌∷◌, ◌++◌, Bool}
use Rattle.acvp_tables.specs.Content.{Content}
use Rattle.acvp_tables.specs.Meaning.{Meaning}
use Rattle.acvp_tables.specs.State.{state_of}
use Rattle.acvp_desk.specs.declared.keys.Keys.{Keys}
use Rattle.acvp_http.specs.Event.{EventAnswer, Turn}
use Rattle.acvp_http.specs.Headline.{AnswersTurn, LeftBy}
use Rattle.acvp_http.specs.Isolation.{AreTheirs, IsToldAlone, LetsSee}
use Rattle.acvp_http.specs.Serve.{GoesBy, Runs}

-- The run is one of the definitions: each turn is answered over the state that the accepted ones before it left, and
-- after the last one the records are what all of them left; and what each account is told is what it is told where only
-- those act that let it see something, from the same records or from any in which these have the same.
pub record IsPromised (keys : Keys) (turns : List Turn) (answers : List EventAnswer) (old new : Content) : Type 0 where
  pub runs : Runs keys turns old new answers
  pub told : (earlier later : List Turn) (turn : Turn) → turns ≡ earlier ++ turn ∷ later
      → AnswersTurn keys earlier turn (state_of old) answers
  pub left : LeftBy keys turns (state_of old) (state_of new)
  pub isolated : (u : ℕ) (these : ℕ → Bool) → LetsSee keys u these (state_of old) turns
      → IsToldAlone keys u these turns old answers
  pub elsewhere : (u : ℕ) (these : ℕ → Bool) (begun : Content) → LetsSee keys u these (state_of old) turns
      → AreTheirs keys u these old begun → IsToldAlone keys u these turns begun answers

module _ {T : Type 0} (meaning : Meaning T) where
  -- so much is promised of the turns that the tables went through, for every content that they stood for
  abbrev pub GoesAsPromised : Keys → List Turn → List EventAnswer → T → T → Type 0
  GoesAsPromised keys turns answers old new =
      GoesBy meaning keys (λ c next. IsPromised keys turns answers c next) old new
