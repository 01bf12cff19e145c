-- What a text reads as, worked out as a value. `Reads` and `Faults` say which texts are tokens by
-- what they encode; here a text is decoded, and the contracts say that the two agree.
use Rattle.std.specs.Prelude.{◌≡◌, ℕ, zero, suc, List, [], ◌∷◌, Bool, true, false, ◌==◌, ◌&&◌, ◌||◌, nat_lt}
use Rattle.std.specs.Prelude.{if◌then◌else◌, Option, None, Some, option_map, option_and_then, is_some, is_none, codes}
use Rattle.std.specs.Prelude.{decimal, length, Result, Ok, Err}
use Rattle.std.specs.List.{list_all}
use Rattle.std.specs.Result.{result_ok}
use Rattle.std.specs.Str.{bytes_eq, is_utf8}
use Rattle.base64.specs.Engines.{url_safe_no_pad}
use Rattle.base64.specs.GeneralPurpose.{decode_of}
use Rattle.serde_json.specs.Data.{Data}
use Rattle.serde_json.specs.Find.{get, as_str, as_number, as_u64}
use Rattle.serde_json.specs.Read.{read}
use Rattle.acvp_token.specs.declared.Claims.{Claims}
use Rattle.acvp_token.specs.declared.TokenFault.{TokenFault}
use Rattle.acvp_token.specs.declared.TokenFault.TheVariants.{Malformed, Signature, Claims as NoClaims, Expired, Memory}
use Rattle.acvp_token.specs.Keys.{Keys, one_key, Ring, is_member_text, named_key}
use Rattle.acvp_token.specs.TokenText.{encoded, signature_of}

-- the text before its first dot, and the text after it
abbrev pub split_dot : List ℕ → Option (List ℕ × List ℕ)
split_dot [] = None
split_dot (x ∷ xs) = if x == 46 then Some ([], xs) else option_map (λ p. (x ∷ p.0, p.1)) (split_dot xs)

-- bytes, where they are that and this is their encoding
abbrev pub if_encoding : List ℕ → List ℕ → Option (List ℕ)
if_encoding part bytes =
    if list_all (λ b. nat_lt b 256) bytes && bytes_eq part (encoded bytes) then Some bytes else None

-- the bytes of which a part is the encoding
unfoldable pub decoded : List ℕ → Option (List ℕ)
decoded part = option_and_then (if_encoding part) (result_ok (decode_of url_safe_no_pad part))

-- the JSON value of a part of a token
unfoldable pub part_value : List ℕ → Option Data
part_value bytes = if is_utf8 bytes then read bytes else None

-- whether a header asks for HMAC-SHA-256 and for no extension
unfoldable pub header_passes : Data → Bool
header_passes d =
    is_member_text (codes "HS256") (option_and_then as_str (get (codes "alg") d)) && is_none (get (codes "crit") d)

-- the parts of a token, and the value of its header
pub record Parts : Type 0 where
  pub value : Data
  pub header : List ℕ
  pub payload : List ℕ
  pub signature : List ℕ

-- these parts, where the header passes
abbrev pub if_header : List ℕ → List ℕ → List ℕ → Option Parts
if_header header payload signature =
    option_and_then (λ d. if header_passes d
    then Some (record { value = d; header = header; payload = payload; signature = signature }) else None)
    (part_value header)

-- the parts of which these are the encodings
abbrev pub decoded_parts : List ℕ → List ℕ → List ℕ → Option Parts
decoded_parts header payload signature =
    option_and_then (λ h. option_and_then (λ p. option_and_then (λ s. if_header h p s)
    (decoded signature)) (decoded payload)) (decoded header)

-- the parts of the token that a text is
unfoldable pub parts_of : List ℕ → Option Parts
parts_of text =
    if nat_lt 1024 (length text) then None
    else option_and_then (λ first. option_and_then (λ second. decoded_parts first.0 second.0 second.1)
    (split_dot first.1)) (split_dot text)

-- the account from 1 to n of which a text is the plain decimal
abbrev pub account_up_to : List ℕ → ℕ → Option ℕ
account_up_to text zero = None
account_up_to text (suc n) = if bytes_eq text (decimal (suc n)) then Some (suc n) else account_up_to text n

-- the account of an object
unfoldable pub account_in : Data → Option ℕ
account_in d = option_and_then (λ text. account_up_to text 9999) (option_and_then as_str (get (codes "sub") d))

-- the whole number in a member
unfoldable pub number_in : List ℕ → Data → Option ℕ
number_in name d = option_and_then as_u64 (option_and_then as_number (get name d))

-- the session in a member that is there
abbrev pub session_value : Option Data → Option (Option ℕ)
session_value None = Some None
session_value (Some d) = option_map (λ n. Some n) (option_and_then as_u64 (as_number d))

-- the session of an object
unfoldable pub session_in : Data → Option (Option ℕ)
session_in d = session_value (get (codes "sid") d)

-- the claims that the members of an object give
unfoldable pub claims_in : Data → Option Claims
claims_in d =
    if is_some (get (codes "nbf") d) || is_some (get (codes "aud") d) then None
    else option_and_then (λ account. option_and_then (λ issued. option_and_then (λ expires.
    option_and_then (λ session. Some (record {
      account = account;
      session = session;
      issued = issued;
      expires = expires;
    })) (session_in d)) (number_in (codes "exp") d)) (number_in (codes "iat") d)) (account_in d)

-- the claims of a JSON text
unfoldable pub claims_of : List ℕ → Option Claims
claims_of bytes = option_and_then claims_in (part_value bytes)

-- what is read of the claims of a token, by whether it is signed
abbrev pub reading_signed : Bool → Option Claims → Result Claims TokenFault
reading_signed false claims = Err Signature
reading_signed true None = Err NoClaims
reading_signed true (Some claims) = Ok claims

-- what is read of the parts of a token under the key that its header names
abbrev pub reading_named : Parts → Option (List ℕ) → Result Claims TokenFault
reading_named parts None = Err Malformed
reading_named parts (Some key) =
    reading_signed (bytes_eq parts.signature (signature_of key parts.header parts.payload)) (claims_of parts.payload)

-- what is read of the parts of a token
abbrev pub reading_parts : Keys → Option Parts → Result Claims TokenFault
reading_parts keys None = Err Malformed
reading_parts keys (Some parts) = reading_named parts (keys parts.value)

-- what a text reads as, apart from its end: by the key that its header names, under one key, and under a ring
unfoldable pub reading_by : Keys → List ℕ → Result Claims TokenFault
reading_by keys text = reading_parts keys (parts_of text)

unfoldable pub reading_of : List ℕ → List ℕ → Result Claims TokenFault
reading_of key text = reading_by (one_key key) text

unfoldable pub reading_under : Ring → List ℕ → Result Claims TokenFault
reading_under ring text = reading_by (named_key ring) text

-- these claims, where they last at a moment
abbrev pub lasting_at : ℕ → Result Claims TokenFault → Result Claims TokenFault
lasting_at moment (Ok claims) = if nat_lt moment claims.expires then Ok claims else Err Expired
lasting_at moment (Err fault) = Err fault

-- what a text is verified as at a moment, likewise
unfoldable pub verdict_by : Keys → List ℕ → ℕ → Result Claims TokenFault
verdict_by keys text moment = lasting_at moment (reading_by keys text)

unfoldable pub verdict_of : List ℕ → List ℕ → ℕ → Result Claims TokenFault
verdict_of key text moment = verdict_by (one_key key) text moment

unfoldable pub verdict_under : Ring → List ℕ → ℕ → Result Claims TokenFault
verdict_under ring text moment = verdict_by (named_key ring) text moment

-- the answer is this value, unless memory ran out
abbrev pub IsUnlessMemory : Result Claims TokenFault → Result Claims TokenFault → Type 0
IsUnlessMemory value (Ok claims) = value ≡ Ok claims
IsUnlessMemory value (Err Malformed) = value ≡ Err Malformed
IsUnlessMemory value (Err Signature) = value ≡ Err Signature
IsUnlessMemory value (Err NoClaims) = value ≡ Err NoClaims
IsUnlessMemory value (Err Expired) = value ≡ Err Expired
IsUnlessMemory value (Err Memory) = Unit {0}
