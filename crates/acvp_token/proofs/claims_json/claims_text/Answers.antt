-- The writer of JSON writes the text of the claims, and any such text is short.
use Rattle.std.proofs.Common.{◌≤◌, ◌<◌, ◌^◌, length, IfSome, arith, rules}
use Rattle.acvp_token.specs.ClaimsJson.{claims_text}
use Rattle.acvp_token.proofs.RoundTrip.{claims-short, claims-written}
use Rattle.acvp_token.proofs.claims_json.claims_text.Goals as goal

pub returns : goal.returns
returns c =
    let claims = c.args.claims in
    let account : claims.account < 2 ^ 64 = omega arith in
    let issued : claims.issued < 2 ^ 64 = omega arith in
    let expires : claims.expires < 2 ^ 64 = omega arith in
    let session : IfSome claims.session (λ n. n < 2 ^ 64) = search rules in
    let short : length (claims_text claims) ≤ 120 =
    claims-short claims.account claims.session claims.issued claims.expires account session issued expires in
    let text = c.to_string.ensures in
    claims-written c.to_string.result claims _ c.in_ok-claims_value.ensures text.text text.reads_back short
