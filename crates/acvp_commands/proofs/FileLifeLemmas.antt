-- A file lives through one run more.
use Rattle.std.proofs.Common.{◌≡◌, ◌⊎◌, inl, inr, ℕ, List, [], ◌∷◌, ◌++◌, Bool, true, false, IsTrue, refl, sym, subst}
use Rattle.std.proofs.Common.{ap, ◌∙◌}
use Rattle.std.specs.Prelude.{MatchBool}
use Rattle.std.proofs.Math.Logic.{∥∥₁_map}
use Rattle.std.specs.List.{All, AllByRecursion}
use Rattle.std.proofs.lemmas.List.Elements.{recursion_from_All}
use Rattle.sqlite_disk.specs.declared.Disk.{Ghosts}
use Rattle.sqlite_store.specs.declared.store.FileStore.{FileStore}
use Rattle.sqlite.specs.Effect.{Database}
use Rattle.sqlite.specs.Files.{file_state, over_files}
use Rattle.sqlite.specs.Held.{Held}
use Rattle.sqlite.specs.State.{HasCleanDisk}
use Rattle.acvp_tables.specs.Content.{Content}
use Rattle.acvp_store.specs.Store.{IsStoreOf, leaves, meaning_of, stands}
use Rattle.acvp_store.specs.Private.Found.{store_of}
use Rattle.acvp_desk.specs.Answer.{content_effect}
use Rattle.acvp_desk.specs.Kept.{IsKept}
use Rattle.acvp_desk.specs.Orders.{IsOrder, HasSecret, content_order_effect}
use Rattle.acvp_desk.specs.Request.{RequestValue}
use Rattle.acvp_desk.specs.declared.keys.Keys.{Keys}
use Rattle.acvp_desk.specs.declared.order.Order.{Order}
use Rattle.acvp_http.specs.Event.{CanHappen, Event, EventAnswer, Turn, order, request}
use Rattle.acvp_http.specs.Left.{LeavesOneMore, LeavesRun}
use Rattle.acvp_http.specs.Life.{AddsSeeds, GoesOver, Life, Passes, Run}
use Rattle.acvp_http.specs.Serve.{GoesThrough, HasEffect}
use Rattle.acvp_http.proofs.LeftRuns.{of_one}
use Rattle.acvp_commands.specs.FileLife.{GoesOverFile, HasLived, Resumes}
use Rattle.acvp_commands.specs.Reopened.{FindsClosed, ShowsLeft}
use Rattle.acvp_commands.proofs.ClosedFiles.{shows_committed, was_open}

-- one run more behind others
longer : (runs : List Run) (run : Run) (first c next start : Content) → Life runs first c → GoesOver run c next
    → Passes run next start → Life (runs ++ run ∷ []) first start
longer [] run first c next start same goes passes =
    (next, start, subst (λ (x : Content). GoesOver run x next) same goes, passes, refl)
longer (earlier ∷ runs) run first c next start (mid, begun, went, passed, more) goes passes =
    (mid, begun, went, passed, longer runs run begun c next start more goes passes)

module _ (request_kept : (keys : Keys) (m : ℕ) (r : RequestValue) (c : Content) → IsKept keys.seed c
    → IsKept keys.seed (content_effect keys m r c))
    (order_kept : (seeds : List (List ℕ)) (it : Order) (c : Content) → IsOrder it → HasSecret it → IsKept seeds c
    → IsKept seeds (content_order_effect it c)) where
  effect_kept : (keys : Keys) (event : Event) (c other : Content) → CanHappen event → IsKept keys.seed c
      → HasEffect keys event c other → IsKept keys.seed other
  effect_kept keys (request m bytes) c other can kept (r, asks, is) =
      subst (λ (x : Content). IsKept keys.seed x) (sym is) (request_kept keys m r c kept)
  effect_kept keys (order m o) c other can kept is =
      subst (λ (x : Content). IsKept keys.seed x) (sym is) (order_kept keys.seed o c can.0 can.1 kept)

  passed_kept : (run : Run) (next start : Content) → All (λ (t : Turn). CanHappen t.event) run.turns
      → IsKept run.keys.seed next → Passes run next start → IsKept run.keys.seed start
  passed_kept run next start can kept (inl same) = subst (λ (x : Content). IsKept run.keys.seed x) (sym same) kept
  passed_kept run next start can kept (inr (stopped, (earlier, turn, rest, split, off, effect))) =
      let all = subst (λ (ts : List Turn). AllByRecursion (λ (t : Turn). CanHappen t.event) ts) split
      (recursion_from_All (λ (t : Turn). CanHappen t.event) run.turns can) in
      effect_kept run.keys turn.event next start
      (of_one (λ (t : Turn). CanHappen t.event) earlier rest turn all) kept effect

  module _ {D E : Type 0} {g : Ghosts D} {h : Ghosts E} (closed : Bool) (last : Held (FileStore D g))
      (opened : Held (FileStore E h)) (resumes : Resumes closed last opened) where
    -- what the open found stands in the tables behind the look
    stands_opened : (c : Content) → IsStoreOf (file_state resumes.connection).now.trees c → stands over_files opened c
    stands_opened c store = elim resumes.looks [
      | inl same ↦
          let up = subst (λ (t : Held (FileStore E h)). IsTrue (file_state t).is_open) same resumes.is_open in
          subst (λ (t : Held (FileStore E h)). stands over_files t c) (sym same) (resumes.takes up c store)
      | inr looked ↦ looked.same resumes.is_open c (resumes.takes (looked.was_open resumes.is_open) c store)
    ]

    -- where it was given up, one of the two contents that were left
    stands_left : (c d : Content) → HasCleanDisk (file_state last) → leaves over_files last c d
        → (file_state last).may_leave (file_state resumes.connection).now.trees
        → stands over_files opened c ⊎ stands over_files opened d
    stands_left c d clean left may = elim (left clean _ may) [
      | inl first ↦ inl (stands_opened c first)
      | inr second ↦ inr (stands_opened d second)
    ]

    -- where it was closed, what it stood for
    stands_closed : IsTrue (file_state last).is_open → (c : Content) → stands over_files last c
        → (file_state resumes.connection).now.trees ≡ (file_state last).committed.trees → stands over_files opened c
    stands_closed up c (layout, schema, stood, serves) same =
        let store = serves up in
        let trees : (file_state last).now.trees ≡ (file_state resumes.connection).now.trees =
        ap (λ (d : Database). d.trees) store.ready.settled ∙ sym same in
        stands_opened c (store_of layout (file_state last).now
        (file_state resumes.connection).now.trees schema trees store.sound c stood)

    module _ (run : Run) (next : Content) (ended : run.closed ≡ closed) where
      abbrev Began : Type 0
      Began = (start : Content) × Passes run next start × stands over_files opened start

      abbrev Left : Type 0
      Left = ((other : Content) → leaves over_files last next other)
          ⊎ LeavesOneMore (meaning_of over_files) run.keys run.turns next last

      began_left : run.closed ≡ false → HasCleanDisk (file_state last) → Left
          → (file_state last).may_leave (file_state resumes.connection).now.trees → Began
      began_left stopped clean (inl all) may = elim (stands_left next next clean (all next) may) [
        | inl stood ↦ (next, inl refl, stood)
        | inr stood ↦ (next, inl refl, stood)
      ]
      began_left stopped clean (inr (earlier, turn, rest, split, off, (other, effect, one))) may =
          elim (stands_left next other clean one may) [
            | inl stood ↦ (next, inl refl, stood)
            | inr stood ↦ (other, inr (stopped, (earlier, turn, rest, split, off, effect)), stood)
          ]

      began_at : HasCleanDisk (file_state last) → (IsTrue (file_state last).is_open → stands over_files last next)
          → Left → (by_close : Bool) → run.closed ≡ by_close
          → MatchBool by_close (FindsClosed last resumes.connection) (ShowsLeft last resumes.connection) → ∥ Began ∥₁
      began_at clean holds left true is ended =
          let up = was_open last resumes.connection ended in
          ∣ (next, inl refl, stands_closed up next (holds up) (shows_committed last resumes.connection ended)) ∣₁
      began_at clean holds left false is shown = ∥∥₁_map shown (λ may. began_left is clean left may)

      began : HasCleanDisk (file_state last) → (IsTrue (file_state last).is_open → stands over_files last next) → Left
          → ∥ Began ∥₁
      began clean holds left = began_at clean holds left closed ended resumes.found

  module _ {D E : Type 0} {g : Ghosts D} {h : Ghosts E} (outlast : (seeds more : List (List ℕ)) (c : Content)
      → IsKept seeds c → IsKept (seeds ++ more) c)
      (leaving : (keys : Keys) (turns : List Turn) (answers : List EventAnswer) (old new : Held (FileStore D g))
      → GoesThrough (meaning_of over_files) keys turns answers old new
      → LeavesRun (meaning_of over_files) keys turns answers old new) where
    pub one_more : (first : Content) (runs : List Run) (run : Run) (seeds : List (List ℕ))
        (opened last : Held (FileStore D g)) (next : Held (FileStore E h)) → HasLived first runs seeds opened
        → AddsSeeds seeds (run ∷ []) → GoesOverFile run opened last → Resumes run.closed last next
        → ∥ HasLived first (runs ++ run ∷ []) run.keys.seed next ∥₁
    one_more first runs run seeds opened last next lived ((more, is), seeded, _) went resumes =
        let kept_then : IsKept run.keys.seed lived.records =
        subst (λ (s : List (List ℕ)). IsKept s lived.records) (sym is)
        (outlast seeds more lived.records lived.kept) in
        let (after, ran, kept_after, holds, left) =
        leaving run.keys run.turns run.answers opened last went.goes went.clean lived.is_open lived.records
        kept_then lived.stood in
        ∥∥₁_map (began run.closed last next resumes run after refl went.clean holds left) (λ it. record {
          records = it.0;
          life = longer runs run first lived.records after it.0 lived.life
              (record { seeded = seeded; kept = kept_then; can = went.happen; runs = ran }) it.1;
          kept = passed_kept run after it.0 went.happen kept_after it.1;
          is_open = resumes.is_open;
          stood = it.2;
        })
