use Rattle.std.specs.Prelude.{◌<◌, ◌^◌}
use Rattle.acvp_store.proofs.Words.{ap, arith, first_number, FitsSession, HoldsSessions, IfOk-weaker, is_between}
use Rattle.acvp_store.proofs.Words.{IsSessionRow, last_number, refl, session_columns, session_key, session_row}
use Rattle.acvp_store.proofs.Words.{session_shown, ⊤}
use Rattle.acvp_store.proofs.RangeColumns.{IsSessionTyped, sessions_typed, session_is, sessions_met, sessions_in_order}
use Rattle.acvp_store.proofs.RangeRows.{range_read}
use Rattle.acvp_store.proofs.RangeStrays.{stray_of, each_kept}
use Rattle.acvp_store.proofs.Finding.{is_query, read_as, SessionRange}
use Rattle.acvp_store.proofs.ranges.sessions_numbered.Goals as goal

pub returns-clause-read : goal.returns-clause-read
returns-clause-read g c =
    read_as c.asked.result c.ranged.result _ _ c.ranged.ensures.ok
    (c.asked.ensures.read (λ live. (c.requires live).ready) (is_query SessionRange))

pub returns-clause-rows : goal.returns-clause-rows
returns-clause-rows g c live =
    let store = c.requires ((returns-clause-read g c).stays.was_open live) in
    let u = c.args.account in
    let low : last_number u < 2 ^ 63 = omega (arith, c.ranges.account.fits) in
    range_read session_key session_row session_shown session_columns IsSessionTyped (λ s. refl) session_is
    (first_number u) (last_number u) low _ _ c.asked.result (λ v. v.items) c.ranged.result (λ v. v.items)
    c.ranged.ensures.ok c.ranged.ensures.judged
    (sessions_typed store.schema.0 _ store.schema.1 store.sound)
    (IfOk-weaker c.asked.result _ _
    (λ rows shown. sessions_in_order store.schema.0 (first_number u) (last_number u) _ _ rows.items store.schema.1
    (rw (c.numbers_of-numbers.ensures.first, c.numbers_of-numbers.ensures.last) at shown))
    (c.asked.ensures.shown live))

pub returns-clause-stray : goal.returns-clause-stray
returns-clause-stray g c live =
    let store = c.requires ((returns-clause-read g c).stays.was_open live) in
    let u = c.args.account in
    stray_of HoldsSessions IsSessionRow FitsSession (each_kept session_key session_row FitsSession)
    (λ s. ⊤ × FitsSession s) session_shown session_columns 0 0 (λ r. refl)
    (λ row s fits is. (s, (tt, fits), ap session_columns is)) (is_between (first_number u) (last_number u)) _
    c.asked.result (λ v. v.items) c.ranged.result c.ranged.ensures.stray
    (IfOk-weaker c.asked.result _ _
    (λ rows shown. sessions_met store.schema.0 (first_number u) (last_number u) _ _ rows.items store.schema.1
    (rw (c.numbers_of-numbers.ensures.first, c.numbers_of-numbers.ensures.last) at shown))
    (c.asked.ensures.shown live))
