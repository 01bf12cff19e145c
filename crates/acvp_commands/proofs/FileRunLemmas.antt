-- A command's task is a run over the file.
use Rattle.std.proofs.Common.{◌≡◌, ◌⊎◌, inl, inr, ℕ, Bool, List, [], ◌∷◌, Result, Ok, Err, IsTrue, refl, sym, subst}
use Rattle.std.specs.List.{All}
use Rattle.std.proofs.lemmas.List.Elements.{All-cons, All-nil}
use Rattle.sqlite_disk.specs.declared.Disk.{Ghosts}
use Rattle.sqlite_store.specs.declared.store.FileStore.{FileStore}
use Rattle.sqlite.specs.Files.{file_state, over_files}
use Rattle.sqlite.specs.Held.{Held}
use Rattle.sqlite.specs.State.{HasCleanDisk}
use Rattle.acvp_store.specs.Store.{meaning_of}
use Rattle.acvp_desk.specs.Orders.{Orders}
use Rattle.acvp_desk.specs.declared.keys.Keys.{Keys}
use Rattle.acvp_desk.specs.declared.order.Order.{Order}
use Rattle.acvp_desk.specs.declared.order.OrderReply.{OrderReply}
use Rattle.acvp_http.specs.Event.{CanHappen, EventAnswer, Turn, order, ordered}
use Rattle.acvp_http.specs.Life.{Run}
use Rattle.acvp_http.specs.Serve.{GoesThrough, HandlesTurn}
use Rattle.acvp_http.specs.Source.{InputStream, OutputStream}
use Rattle.acvp_commands.specs.FileLife.{AreLooked, CanBeDone, IsNotBegun, RunsOver, keys_of_task}
use Rattle.acvp_commands.specs.Hosting.{Hosting}
use Rattle.acvp_commands.specs.Listening.{Listening, answers_of, turns_of}
use Rattle.acvp_commands.specs.Work.{IsServed, IsTaken, IsTakenOver}
use Rattle.acvp_commands.specs.declared.fault.Fault.{Fault}
use Rattle.acvp_commands.specs.declared.host.Service.{Service}
use Rattle.acvp_commands.specs.declared.lines.Message.{Message}
use Rattle.acvp_commands.specs.declared.work.Task.{Task}
use Rattle.acvp_commands.specs.declared.work.Task.TheVariants as task
use Rattle.acvp_commands.proofs.VisitLemmas.{through_open}

module _ {D : Type 0} {g : Ghosts D} where
  -- tables that were taken over, and looked at or not, are open while the disk is clean
  opens : (connection tables opened : Held (FileStore D g)) → IsTaken over_files connection tables
      → AreLooked tables opened
      → HasCleanDisk (file_state opened) → IsTrue (file_state opened).is_open
  opens connection tables opened taken (inl same) clean =
      let clean_before = subst (λ (t : Held (FileStore D g)). HasCleanDisk (file_state t)) same clean in
      subst (λ (t : Held (FileStore D g)). IsTrue (file_state t).is_open) (sym same)
      (taken.stays_open clean_before).1.is_open
  opens connection tables opened taken (inr looked) clean =
      looked.stays_open clean (taken.stays_open (looked.was_clean clean)).1.is_open

  over : (run : Run) (connection tables opened back : Held (FileStore D g)) → IsTaken over_files connection tables
      → AreLooked tables opened
      → GoesThrough (meaning_of over_files) run.keys run.turns run.answers opened back
      → All (λ (turn : Turn). CanHappen turn.event) run.turns
      → HasCleanDisk (file_state back) → RunsOver run connection back
  over run connection tables opened back taken looks goes happen clean = record {
    tables = tables;
    opened = opened;
    takes = taken.found;
    looks = looks;
    is_open = opens connection tables opened taken looks
        ((through_open (meaning_of over_files) run.keys run.turns run.answers opened back goes).1 clean);
    goes = record { goes = goes; clean = clean; happen = happen };
  }

module _ {D H P I O A : Type 0} {g : Ghosts D} (hosting : Hosting H P) (listening : Listening P I O A)
    (held : I → InputStream)
    (sent : O → OutputStream) where
  -- what was served of a port is turns
  abbrev Went : Keys → Held (FileStore D g) → Held (FileStore D g) → Type 0
  Went keys old new = (turns : List Turn) × (answers : List EventAnswer)
      × GoesThrough (meaning_of over_files) keys turns answers old new
      × All (λ (turn : Turn). CanHappen turn.event) turns

  went_nowhere : (keys : Keys) (old new : Held (FileStore D g)) → new ≡ old → Went keys old new
  went_nowhere keys old new same = ([], [], same, All-nil (λ (turn : Turn). CanHappen turn.event))

  served : (keys : Keys) (service : Service) (first last : H) (old new : Held (FileStore D g))
      (outcome : Result Message Fault)
      → IsServed (meaning_of over_files) hosting listening held sent keys service first last old new outcome
      → Went keys old new
  served keys service first last old new outcome (inr (same, why)) = went_nowhere keys old new same
  served keys service first last old new (Ok message)
      (inl (
        opened,
        told,
        before,
        after,
        ended,
        opens,
        (prints, (count, (visits, serving, on, counted, is), line)),
        finishes,
      )) =
      (turns_of visits, answers_of visits, serving.goes, serving.happen)
  served keys service first last old new (Err fault)
      (inl (opened, told, before, after, ended, opens, inl (fails, stays, same), finishes)) =
      went_nowhere keys old new same
  served keys service first last old new (Err fault)
      (inl (opened, told, before, after, ended, opens, inr (prints, (visits, mid, serving, ends)), finishes)) =
      (turns_of visits, answers_of visits, serving.goes, serving.happen)

  module _ (as_turns : (keys : Keys) (moment : ℕ) (it : Order) (reply : OrderReply) (old new : Held (FileStore D g))
      → CanHappen (order moment it)
      → Orders (meaning_of over_files) reply old new it
      → (unavailable : Bool) × HandlesTurn (meaning_of over_files) keys
      (record { event = order moment it; unavailable = unavailable }) (ordered reply) old new) where
    abbrev Began : Keys → Bool → Task → Held (FileStore D g) → Held (FileStore D g) → Type 0
    Began keys closed it connection back =
        (run : Run) × (run.keys ≡ keys_of_task keys it) × (run.closed ≡ closed) × RunsOver run connection back

    pub task_runs : (keys : Keys) (moment : ℕ) (closed : Bool) (it : Task) (first last : H)
        (connection back : Held (FileStore D g)) (outcome : Result Message Fault)
        → CanBeDone moment it → IsTakenOver over_files hosting listening held sent it first last connection back outcome
        → HasCleanDisk (file_state back)
        → IsNotBegun it connection back outcome ⊎ Began keys closed it connection back
    task_runs keys moment closed it first last connection back outcome can (inr (fault, refused, is, same)) clean =
        inl (fault, is, inl refused)
    task_runs keys moment closed (task.Order it) first last connection back outcome can
        (inl (tables, taken, ((reply, done, sound, told), same))) clean =
        let (unavailable, handled) = as_turns keys moment it reply tables back can done in
        let turn : Turn = record { event = order moment it; unavailable = unavailable } in
        let run : Run = record { keys = keys; turns = turn ∷ []; answers = ordered reply ∷ []; closed = closed } in
        inr (
          run,
          refl,
          refl,
          over run connection tables tables back taken (inl refl) (back, handled, refl)
              (All-cons (λ (turn : Turn). CanHappen turn.event) turn [] can
              (All-nil (λ (turn : Turn). CanHappen turn.event))) clean,
        )
    task_runs keys moment closed (task.Serve own service) first last connection back outcome can
        (inl (tables, taken, inr (fault, none, is, same))) clean =
        inl (fault, is, inr (tables, taken, none))
    task_runs keys moment closed (task.Serve own service) first last connection back outcome can
        (inl (tables, taken, inl (mid, looks, serves))) clean =
        let (turns, answers, goes, happen) = served own service first last mid back outcome serves in
        let run : Run = record { keys = own; turns = turns; answers = answers; closed = closed } in
        inr (run, refl, refl, over run connection tables mid back taken (inr looks) goes happen clean)
