use Rattle.acvp_http.proofs.RequestLemmas.{parses_input}
use Rattle.acvp_http.proofs.request.parse_head.Goals as goal

pub returns-in-Some : goal.returns-in-Some
returns-in-Some c =
    parses_input c.args.bytes.now c.in-Some.end c.parse_block.result
    (rw c.window_of-window.ensures.value at c.in-Some.ensures) c.parse_block.ensures
