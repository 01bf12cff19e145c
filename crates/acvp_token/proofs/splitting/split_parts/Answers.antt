use Rattle.acvp_token.proofs.Dots.{split-parts}
use Rattle.acvp_token.proofs.splitting.split_parts.Goals as goal

pub returns : goal.returns
returns c =
    let header = c.in_ok-header.ensures in
    let claims = c.in_ok-claims.ensures in
    split-parts c.args.text.now c.in_ok-header.rest.now c.in_ok-header.header.now c.in_ok-claims.claims.now
    c.in_ok-claims.signature.now header.0 claims.0 header.1 claims.1
