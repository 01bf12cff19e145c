use Rattle.std.proofs.Common.{sym}
use Rattle.acvp_registry.proofs.UrlLemmas.{url_with, front_is}
use Rattle.acvp_registry.proofs.url.url_number.Goals as goal

pub returns-clause-named : goal.returns-clause-named
returns-clause-named c =
    let place = c.as_bytes-2.result.now in
    let cases = c.in_ok-digits.ensures.cases in
    let front = front_is c.as_bytes.result.now place c.in_ok-digits.digits.now cases.0 cases.1 in
    url_with c.args.kind place c.in_ok-digits.digits.now c.args.text.now c.plain_number.result
    (rw c.as_bytes-2.ensures.value (sym c.in_ok-place.ensures)) (rw c.as_bytes.ensures.value at front)
    c.plain_number.ensures.written
