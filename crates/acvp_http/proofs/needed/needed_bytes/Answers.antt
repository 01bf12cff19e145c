use Rattle.std.proofs.Common.{◌≡◌, arith, length}
use Rattle.acvp_http.proofs.NeededLemmas.{needs_more, needs_none_more, needs_parsed, needs_window, short_of_head}
use Rattle.acvp_http.proofs.needed.needed_bytes.Goals as goal

pub returns-then-window-eq-HEAD_BYTES : goal.returns-then-window-eq-HEAD_BYTES
returns-then-window-eq-HEAD_BYTES c =
    let full : length c.window_of-window.result.now ≡ 16384 = omega (arith, c.if-window-eq-HEAD_BYTES.true) in
    λ rest. needs_window c.args.bytes.now rest (rw c.window_of-window.ensures.value at c.in_default.ensures)
    (rw c.window_of-window.ensures.value at full)

pub returns-else-window-eq-HEAD_BYTES : goal.returns-else-window-eq-HEAD_BYTES
returns-else-window-eq-HEAD_BYTES c =
    short_of_head c.args.bytes.now (rw c.window_of-window.ensures.value at c.in_default.ensures)
    (rw c.window_of-window.ensures.value at c.if-window-eq-HEAD_BYTES.false)

pub returns-in-Ok : goal.returns-in-Ok
returns-in-Ok c =
    let end = rw c.window_of-window.ensures.value at c.in-Some.ensures in
    λ rest. needs_more c.args.bytes.now rest c.in-Some.end c.in-Ok.head.size end
    (needs_parsed _ c.in-Ok.head c.in-Ok.ensures)

pub returns-in-Err : goal.returns-in-Err
returns-in-Err c =
    let end = rw c.window_of-window.ensures.value at c.in-Some.ensures in
    λ rest. needs_none_more c.args.bytes.now rest c.in-Some.end c.in-Err.field-0 end c.in-Err.ensures
