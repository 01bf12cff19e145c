-- What a run is promised, and a script's turns, for any tables.
use Rattle.std.proofs.Common.{ℕ, ◌≤◌, Bool, List, [], ◌∷◌, length, refl, subst}
use Rattle.std.specs.List.{All}
use Rattle.std.proofs.lemmas.List.Elements.{All-nil, All-cons}
use Rattle.acvp_tables.specs.Content.{Content}
use Rattle.acvp_tables.specs.Meaning.{Meaning}
use Rattle.acvp_tables.specs.State.{state_of}
use Rattle.acvp_desk.specs.Kept.{IsKept}
use Rattle.acvp_desk.specs.declared.keys.Keys.{Keys}
use Rattle.acvp_http.specs.Event.{EventAnswer, Turn}
use Rattle.acvp_http.specs.Headline.{Headline, HeadlineLeft}
use Rattle.acvp_http.specs.Isolation.{AreTheirs, Isolation, LetsSee}
use Rattle.acvp_http.specs.Event.{CanHappen}
use Rattle.acvp_http.specs.Left.{LeavesRun}
use Rattle.acvp_http.specs.Promise.{GoesAsPromised, IsPromised}
use Rattle.acvp_http.specs.Run.{RunsScript, RunsTurns, events_of}
use Rattle.acvp_http.specs.Script.{IsScript}
use Rattle.acvp_http.specs.Serve.{GoesByTurns, GoesThrough, Runs}
use Rattle.acvp_http.specs.Source.{InputStream, OutputStream}
use Rattle.acvp_http.specs.declared.script.ScriptFault.{ScriptFault}
use Rattle.std.specs.Prelude.{Result}
use Rattle.acvp_http.proofs.RunLemmas.{can_happen}

-- the events of a script can happen
all_can : (turns : List Turn) (text : List ℕ) → IsScript (events_of turns) text
    → All (λ (turn : Turn). CanHappen turn.event) turns
all_can [] text script = All-nil (λ (turn : Turn). CanHappen turn.event)
all_can (turn ∷ turns) text (front, rest, is, written, script) =
    All-cons (λ (turn : Turn). CanHappen turn.event) turn turns (can_happen turn.event front written)
    (all_can turns rest script)

-- the records of a run are such from which the run of these accounts alone may begin
their_own : (keys : Keys) (u : ℕ) (these : ℕ → Bool) (turns : List Turn) (c : Content) → IsKept keys.seed c
    → LetsSee keys u these (state_of c) turns → AreTheirs keys u these c c
their_own keys u these turns c kept lets = record {
  kept = kept;
  owned = λ w ours. refl;
  reviewed = lets.reviewed;
}

-- what is promised of a run over records that are kept under its seeds
pub is_promised : Headline → HeadlineLeft → Isolation
    → (keys : Keys) (turns : List Turn) (answers : List EventAnswer) (c next : Content)
    → 1 ≤ length keys.seed → IsKept keys.seed c → All (λ (turn : Turn). CanHappen turn.event) turns
    → Runs keys turns c next answers
    → IsPromised keys turns answers c next
is_promised headline left isolation keys turns answers c next seeded kept can runs = record {
  runs = runs;
  told = λ earlier later turn is. headline keys earlier later turn c next answers
      (subst (λ (ts : List Turn). Runs keys ts c next answers) is runs);
  left = left keys turns c next answers runs;
  isolated = λ u these lets.
      isolation keys u these turns c next c answers seeded kept can lets (their_own keys u these turns c kept lets) runs;
  elsewhere = λ u these begun lets theirs.
      isolation keys u these turns c next begun answers seeded kept can lets theirs runs;
}

module _ {T : Type 0} (meaning : Meaning T) where
  -- turns that are a run of the definitions are as promised
  pub promised : (makes : (keys : Keys) (turns : List Turn) (answers : List EventAnswer) (old new : T)
      → GoesThrough meaning keys turns answers old new
      → GoesByTurns meaning keys turns answers old new)
      (headline : Headline) (left : HeadlineLeft) (isolation : Isolation) (keys : Keys) (turns : List Turn)
      (answers : List EventAnswer) (old new : T)
      → 1 ≤ length keys.seed → All (λ (turn : Turn). CanHappen turn.event) turns
      → GoesThrough meaning keys turns answers old new
      → GoesAsPromised meaning keys turns answers old new
  promised makes headline left isolation keys turns answers old new seeded can through = λ clean c kept h.
      let (next, runs, stands-next, kept-next) = makes keys turns answers old new through clean c kept h in (
        next,
        is_promised headline left isolation keys turns answers c next seeded kept can runs,
        stands-next,
        kept-next,
      )

  pub runs_script : (promising : (keys : Keys) (turns : List Turn) (answers : List EventAnswer) (old new : T)
      → 1 ≤ length keys.seed
      → All (λ (turn : Turn). CanHappen turn.event) turns → GoesThrough meaning keys turns answers old new
      → GoesAsPromised meaning keys turns answers old new)
      (leaving : (keys : Keys) (turns : List Turn) (answers : List EventAnswer) (old new : T)
      → GoesThrough meaning keys turns answers old new
      → LeavesRun meaning keys turns answers old new) (keys : Keys) → 1 ≤ length keys.seed
      → (tables last : T) (input rest : InputStream) (old new : OutputStream) (result : Result ℕ ScriptFault)
      → RunsTurns meaning keys tables last input rest old new result
      → RunsScript meaning keys tables last input rest old new result
  runs_script promising leaving keys seeded tables last input rest old new result
      (turns, answers, text, through, script, stops, writes, few) = (
        turns,
        answers,
        text,
        promising keys turns answers tables last seeded (all_can turns text script) through,
        leaving keys turns answers tables last through,
        through,
        script,
        stops,
        writes,
        few,
      )
