use Rattle.acvp_token.proofs.RoundTrip.{issued-text, issued-reads}
use Rattle.acvp_token.proofs.issuing.issue.Goals as goal

pub returns-clause-text : goal.returns-clause-text
returns-clause-text c =
    let written = rw (← c.as_bytes-2.ensures.value) at c.in_ok-payload.ensures in
    issued-text c.write_token.result c.args.key.now c.as_bytes-2.result.now c.args.claims.now written
    (rw c.as_bytes.ensures.value at c.write_token.ensures.text)

pub returns-clause-reads : goal.returns-clause-reads
returns-clause-reads c =
    λ least greatest.
    let written = rw (← c.as_bytes-2.ensures.value) at c.in_ok-payload.ensures in
    issued-reads c.write_token.result c.args.key.now c.as_bytes-2.result.now c.args.claims.now written
    (returns-clause-text c)
    c.write_token.ensures.bytes least greatest
