use Rattle.std.proofs.Common.{◌≡◌, rules}
use Rattle.acvp_mac.specs.declared.HashName.TheVariants.{Sha256}
use Rattle.acvp_mac.specs.Hmac.{hmac_of}
use Rattle.acvp_token.proofs.Shapes.{signed-reading}
use Rattle.acvp_token.proofs.verifying.read_signed.Goals as goal

pub returns-then-is_same : goal.returns-then-is_same
returns-then-is_same c =
    let token = c.args.token.now in
    let same : token.signature.items ≡ hmac_of Sha256 c.args.key.now token.signed.now = search rules in
    signed-reading c.args.key.now token.signed.now token.claims.items token.signature.items c.read_claims.result same
    (rw c.deref.ensures.value at c.read_claims.ensures.ok) (rw c.deref.ensures.value at c.read_claims.ensures.err)
