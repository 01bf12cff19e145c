use Rattle.std.proofs.Common.{◌≡◌, ap, ◌∙◌}
use Rattle.acvp_token.specs.Keys.{last_place}
use Rattle.acvp_token.specs.TokenText.{issued_header}
use Rattle.acvp_token.proofs.RoundTrip.{ring-issued-text, ring-issued-reads}
use Rattle.acvp_token.proofs.issuing.issue_ring.Goals as goal

pub returns-clause-text : goal.returns-clause-text
returns-clause-text c =
    let written = rw (← c.as_bytes-2.ensures.value) at c.in_ok-payload.ensures in
    let header : c.as_bytes.result.now ≡ issued_header (last_place c.args.ring.now) =
    c.as_bytes.ensures.value ∙ c.in_ok-header.ensures ∙ ap issued_header c.last_place.ensures in
    ring-issued-text c.write_token.result c.args.ring.now c.as_bytes.result.now c.as_bytes-2.result.now
    c.args.claims.now
    header written
    (rw c.signing_key.ensures.value at c.write_token.ensures.text)

pub returns-clause-reads : goal.returns-clause-reads
returns-clause-reads c =
    λ least greatest.
    let written = rw (← c.as_bytes-2.ensures.value) at c.in_ok-payload.ensures in
    ring-issued-reads c.write_token.result c.args.ring.now c.as_bytes-2.result.now c.args.claims.now
    c.signing_key.ensures.ring written
    (returns-clause-text c)
    c.write_token.ensures.bytes least greatest
