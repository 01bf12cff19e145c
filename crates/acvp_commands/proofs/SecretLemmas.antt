-- The digits of a secret.
use Rattle.std.proofs.Common.{◌≡◌, ℕ, List, length, arith}
use Rattle.hex.specs.Hex.{IsBytes, encode_lower}
use Rattle.hex.proofs.HexLemmas.{decode_of-encode_lower, decode_of-ok}
use Rattle.acvp_http.specs.Script.{IsSecretText}

pub secret_text : (secret : List ℕ) → length secret ≡ 32 → IsBytes secret → IsSecretText (encode_lower secret) secret
secret_text secret size bytes =
    let back = decode_of-encode_lower secret bytes in
    (omega (arith, size, (decode_of-ok (encode_lower secret) secret back).2), back)
