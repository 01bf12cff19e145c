-- The text of a token: three parts in base64url, with dots between them (RFC 7515, section 3.1).
use Rattle.std.specs.Prelude.{ℕ, zero, suc, List, ◌++◌, codes, decimal}
use Rattle.base64.specs.Engines.{url_safe_no_pad}
use Rattle.base64.specs.GeneralPurpose.{encode_of}
use Rattle.acvp_mac.specs.declared.HashName.TheVariants.{Sha256}
use Rattle.acvp_mac.specs.Hmac.{hmac_of}
use Rattle.acvp_token.specs.declared.Claims.{Claims}
use Rattle.acvp_token.specs.ClaimsJson.{claims_text}
use Rattle.acvp_token.specs.Keys.{Ring, last_place, signing_key}

-- base64url without padding (RFC 4648, section 5; RFC 7515, appendix C)
unfoldable pub encoded : List ℕ → List ℕ
encoded bytes = encode_of url_safe_no_pad bytes

-- the parts that are signed, with a dot between them (RFC 7515, section 5.1)
abbrev pub signing_input : List ℕ → List ℕ → List ℕ
signing_input header claims = encoded header ++ codes "." ++ encoded claims

-- the signature of a header and claims under a key: HS256 (RFC 7518, section 3.2)
abbrev pub signature_of : List ℕ → List ℕ → List ℕ → List ℕ
signature_of key header claims = hmac_of Sha256 key (signing_input header claims)

-- the token of a header, claims and a signature
abbrev pub token_of : List ℕ → List ℕ → List ℕ → List ℕ
token_of header claims signature = signing_input header claims ++ codes "." ++ encoded signature

-- the header of a token that is issued under the key at a place: it names each place but the first
abbrev pub issued_header : ℕ → List ℕ
issued_header zero = codes "{\"alg\":\"HS256\",\"typ\":\"JWT\"}"
issued_header (suc n) = codes "{\"alg\":\"HS256\",\"kid\":\"" ++ decimal (suc n) ++ codes "\",\"typ\":\"JWT\"}"

-- the token that is issued for these claims under the key at a place
abbrev pub token_text_at : ℕ → List ℕ → Claims → List ℕ
token_text_at place key claims =
    token_of (issued_header place) (claims_text claims) (signature_of key (issued_header place) (claims_text claims))

-- the token that is issued for these claims under the one key
unfoldable pub token_text : List ℕ → Claims → List ℕ
token_text key claims = token_text_at 0 key claims

-- the token that is issued for these claims under a ring, by its last key
unfoldable pub ring_token_text : Ring → Claims → List ℕ
ring_token_text ring claims = token_text_at (last_place ring) (signing_key ring) claims
