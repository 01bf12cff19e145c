-- What every run leaves of the records is so after a run, and over a life.
use Rattle.std.proofs.Common.{ℕ, List, [], ◌∷◌, ◌++◌, Bool, true, false, inl, inr, subst}
use Rattle.std.specs.Prelude.{MatchBool}
use Rattle.std.specs.List.{All, AllByRecursion}
use Rattle.std.proofs.lemmas.List.Elements.{All-head, All-tail, recursion_from_All}
use Rattle.acvp_tables.specs.Content.{Content}
use Rattle.acvp_desk.specs.Answer.{content_effect}
use Rattle.acvp_desk.specs.Certifications.{IsLeft}
use Rattle.acvp_desk.specs.Orders.{HasSecret, IsOrder, content_order_effect}
use Rattle.acvp_desk.specs.Request.{RequestValue}
use Rattle.acvp_desk.specs.declared.keys.Keys.{Keys}
use Rattle.acvp_desk.specs.declared.order.Order.{Order}
use Rattle.acvp_http.specs.Event.{CanHappen, Event, EventAnswer, Turn, order, ordered, replied, request}
use Rattle.acvp_http.specs.Life.{AddsSeeds, GoesOver, Life, Passes, Run, last_seeds}
use Rattle.acvp_http.specs.Serve.{HasEffect, IsUnavailableEvent, Runs, Serves, Takes}

-- what holds of all holds of one among them
pub of_one : {X : Type 0} (P : X → Type 0) (earlier later : List X) (x : X) → AllByRecursion P (earlier ++ x ∷ later) → P x
of_one P [] later x all = all.0
of_one P (y ∷ earlier) later x all = of_one P earlier later x all.1

module _ (request_left : (keys : Keys) (m : ℕ) (r : RequestValue) (c : Content) → IsLeft keys.seed c
    → IsLeft keys.seed (content_effect keys m r c))
    (order_left : (seeds : List (List ℕ)) (o : Order) (c : Content) → IsOrder o → HasSecret o → IsLeft seeds c
    → IsLeft seeds (content_order_effect o c)) where
  effect_left : (keys : Keys) (event : Event) (old new : Content) → CanHappen event → HasEffect keys event old new
      → IsLeft keys.seed old → IsLeft keys.seed new
  effect_left keys (request m bytes) old new can (r, asks, is) left = rw is (request_left keys m r old left)
  effect_left keys (order m o) old new can is left = rw is (order_left keys.seed o old can.0 can.1 left)

  turn_left : (keys : Keys) (turn : Turn) (old new : Content) (answer : EventAnswer) → CanHappen turn.event
      → Takes keys turn old new answer → IsLeft keys.seed old → IsLeft keys.seed new
  turn_left keys turn old new answer can takes left = go turn.unavailable takes
    where
      unavailable : (event : Event) (told : EventAnswer) → IsUnavailableEvent event old new told → IsLeft keys.seed new
      unavailable (request m bytes) (replied reply) is = rw is.0 left
      unavailable (request m bytes) (ordered reply) is = absurd is
      unavailable (order m o) (replied reply) is = absurd is
      unavailable (order m o) (ordered reply) is = rw is.0 left

      served : (event : Event) (told : EventAnswer) → CanHappen event → Serves keys event old new told
          → IsLeft keys.seed new
      served (request m bytes) (replied reply) can (inl (same, refused)) = rw same left
      served (request m bytes) (replied reply) can (inr (r, asks, (date, dated, is, told))) =
          rw is (request_left keys m r old left)
      served (request m bytes) (ordered reply) can is = absurd is
      served (order m o) (replied reply) can is = absurd is
      served (order m o) (ordered reply) can (is, told) = rw is (order_left keys.seed o old can.0 can.1 left)

      go : (b : Bool) → MatchBool b (IsUnavailableEvent turn.event old new answer)
          (Serves keys turn.event old new answer) → IsLeft keys.seed new
      go true is = unavailable turn.event answer is
      go false is = served turn.event answer can is

  run_left : (keys : Keys) (turns : List Turn) (old new : Content) (answers : List EventAnswer)
      → All (λ (turn : Turn). CanHappen turn.event) turns → Runs keys turns old new answers → IsLeft keys.seed old
      → IsLeft keys.seed new
  run_left keys [] old new [] can same left = rw same left
  run_left keys [] old new (answer ∷ answers) can is left = absurd is
  run_left keys (turn ∷ turns) old new [] can is left = absurd is
  run_left keys (turn ∷ turns) old new (answer ∷ answers) can (next, takes, runs) left =
      run_left keys turns next new answers (All-tail (λ (t : Turn). CanHappen t.event) turn turns can) runs
      (turn_left keys turn old next answer (All-head (λ (t : Turn). CanHappen t.event) turn turns can) takes left)

  pub over_left : (run : Run) (old next : Content) → GoesOver run old next → IsLeft run.keys.seed old
      → IsLeft run.keys.seed next
  over_left run old next goes left = run_left run.keys run.turns old next run.answers goes.can goes.runs left

  passed_left : (run : Run) (next start : Content) → All (λ (t : Turn). CanHappen t.event) run.turns
      → Passes run next start → IsLeft run.keys.seed next → IsLeft run.keys.seed start
  passed_left run next start can (inl same) left = rw same left
  passed_left run next start can (inr (stopped, (earlier, turn, later, split, gone, effect))) left =
      let all = subst (λ (ts : List Turn). AllByRecursion (λ (t : Turn). CanHappen t.event) ts) split
      (recursion_from_All (λ (t : Turn). CanHappen t.event) run.turns can) in
      effect_left run.keys turn.event next start (of_one (λ (t : Turn). CanHappen t.event) earlier later turn all)
      effect left

  pub life_left : ((seeds more : List (List ℕ)) (c : Content) → IsLeft seeds c → IsLeft (seeds ++ more) c)
      → (seeds : List (List ℕ)) (runs : List Run) (old new : Content) → AddsSeeds seeds runs → Life runs old new
      → IsLeft seeds old → IsLeft (last_seeds seeds runs) new
  life_left outlasts seeds [] old new adds same left = rw same left
  life_left outlasts seeds (run ∷ runs) old new ((more, is), some, adds) (next, start, goes, passes, life) left =
      let begun : IsLeft run.keys.seed old = rw is (outlasts seeds more old left) in
      life_left outlasts run.keys.seed runs start new adds life
      (passed_left run next start goes.can passes (over_left run old next goes begun))
