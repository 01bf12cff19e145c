-- What a crash finds after turns, by what it finds after each.
use Rattle.std.proofs.Common.{◌≡◌, ◌⊎◌, inl, inr, List, [], ◌∷◌, Bool, true, false, refl, sym, ap, subst}
use Rattle.std.specs.Prelude.{MatchBool}
use Rattle.acvp_tables.specs.Content.{Content}
use Rattle.acvp_tables.specs.Meaning.{Meaning}
use Rattle.acvp_desk.specs.Kept.{IsKept}
use Rattle.acvp_desk.specs.declared.keys.Keys.{Keys}
use Rattle.acvp_http.specs.Event.{EventAnswer, Turn}
use Rattle.acvp_http.specs.Left.{LeavesOneMore, LeavesRun}
use Rattle.acvp_http.specs.Serve.{GoesThrough, HasEffect, Runs}
use Rattle.acvp_http.proofs.RunLemmas.{through_clean}

module _ {T : Type 0} (meaning : Meaning T) (keys : Keys) where
  open meaning use {stands, is_open, is_clean, leaves}

  -- ---- tables that are shut

  live_through : (turns : List Turn) (answers : List EventAnswer) (old new : T)
      → GoesThrough meaning keys turns answers old new → is_open new → is_open old
  live_through [] [] old new through live = subst (λ (t : T). is_open t) through live
  live_through [] (a ∷ answers) old new through live = absurd through
  live_through (t ∷ turns) [] old new through live = absurd through
  live_through (t ∷ turns) (a ∷ answers) old new (mid, first, through) live =
      first.was_open (live_through turns answers mid new through live)

  -- a crash finds what it found before
  shut_through : (turns : List Turn) (answers : List EventAnswer) (old new : T)
      → GoesThrough meaning keys turns answers old new → is_clean new
      → (is_open old → ⊥) → (c d : Content) → leaves old c d → leaves new c d
  shut_through [] [] old new through clean off c d left = subst (λ (t : T). leaves t c d) (sym through) left
  shut_through [] (a ∷ answers) old new through clean off c d left = absurd through
  shut_through (t ∷ turns) [] old new through clean off c d left = absurd through
  shut_through (t ∷ turns) (a ∷ answers) old new (mid, first, through) clean off c d left =
      shut_through turns answers mid new through clean (λ live. off (first.was_open live)) c d
      (first.shut (through_clean meaning keys turns answers mid new through clean) off c d left)

  -- and the records stay
  idle_through : (turns : List Turn) (answers : List EventAnswer) (old new : T)
      → GoesThrough meaning keys turns answers old new → is_clean new
      → (is_open old → ⊥) → (c : Content) → IsKept keys.seed c → Runs keys turns c c answers
  idle_through [] [] old new through clean off c kept = refl
  idle_through [] (a ∷ answers) old new through clean off c kept = absurd through
  idle_through (t ∷ turns) [] old new through clean off c kept = absurd through
  idle_through (t ∷ turns) (a ∷ answers) old new (mid, first, through) clean off c kept = (
    c,
    first.idle (through_clean meaning keys turns answers mid new through clean) off c kept,
    idle_through turns answers mid new through clean (λ live. off (first.was_open live)) c kept,
  )

  -- ---- after a turn, and the later ones of tables that it shut

  abbrev Left : List Turn → Content → T → Type 0
  Left turns next new = ((other : Content) → leaves new next other) ⊎ LeavesOneMore meaning keys turns next new

  left_by : (turn : Turn) (turns : List Turn) (answers : List EventAnswer) (old new : T)
      → GoesThrough meaning keys turns answers old new → is_clean new
      → (is_open old → ⊥) → (next : Content) (unavailable : Bool) → turn.unavailable ≡ unavailable
      → MatchBool unavailable ((other : Content) × HasEffect keys turn.event next other × leaves old next other)
      ((other : Content) → leaves old next other)
      → Left (turn ∷ turns) next new
  left_by turn turns answers old new through clean off next true is (other, effect, left) =
      inr (
        [],
        turn,
        turns,
        refl,
        is,
        (other, effect, shut_through turns answers old new through clean off next other left),
      )
  left_by turn turns answers old new through clean off next false is left =
      inl (λ other. shut_through turns answers old new through clean off next other (left other))

  -- of one turn more before them
  left_behind : (t : Turn) (turns : List Turn) (next : Content) (new : T) → Left turns next new
      → Left (t ∷ turns) next new
  left_behind t turns next new (inl left) = inl left
  left_behind t turns next new (inr (earlier, turn, later, split, off, one)) =
      inr (t ∷ earlier, turn, later, ap (λ rest. t ∷ rest) split, off, one)

  module _ (decides : (t : T) → is_open t ⊎ (is_open t → ⊥)) (rests : (t : T) (c d : Content) → is_open t → stands t c
      → leaves t c d) where
    pub leaves_run : (turns : List Turn) (answers : List EventAnswer) (old new : T)
        → GoesThrough meaning keys turns answers old new
        → LeavesRun meaning keys turns answers old new
    leaves_run [] [] old new through = λ clean live c kept h. (
      c,
      refl,
      kept,
      λ up. subst (λ (t : T). stands t c) (sym through) h,
      inl (λ other. subst (λ (t : T). leaves t c other) (sym through) (rests old c other live h)),
    )
    leaves_run [] (a ∷ answers) old new through = absurd through
    leaves_run (t ∷ turns) [] old new through = absurd through
    leaves_run (t ∷ turns) (a ∷ answers) old new (mid, first, through) = λ clean live c kept h.
        let clean_then = through_clean meaning keys turns answers mid new through clean in
        elim (decides mid) [
          | inl up ↦
              let (next, takes, stood, kept_then) = first.taken clean_then c kept (λ _. h) in
              let (last, runs, kept_last, holds, left) =
              leaves_run turns answers mid new through clean up next kept_then (stood up) in
              (last, (next, takes, runs), kept_last, holds, left_behind t turns last new left)
          | inr off ↦
              let (next, takes, kept_then, left) = first.left clean_then live c kept h in (
                next,
                (next, takes, idle_through turns answers mid new through clean off next kept_then),
                kept_then,
                λ up. absurd (off (live_through turns answers mid new through up)),
                left_by t turns answers mid new through clean off next t.unavailable refl left,
              )
        ]
