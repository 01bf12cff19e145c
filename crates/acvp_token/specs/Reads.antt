-- Which texts are tokens, and what they say. A text is never taken apart here: it is a token where
-- it is the encoding of one.
use Rattle.std.specs.Prelude.{◌≡◌, ℕ, ◌≤◌, List, None, Some, option_map, codes, decimal, length}
use Rattle.std.specs.Str.{IsUtf8}
use Rattle.base64.specs.GeneralPurpose.{IsBytes}
use Rattle.serde_json.specs.Data.{Data, number, unsigned, string}
use Rattle.serde_json.specs.Find.{get}
use Rattle.serde_json.specs.Read.{read}
use Rattle.acvp_token.specs.declared.Claims.{Claims}
use Rattle.acvp_token.specs.Keys.{Keys, one_key, Ring, named_key}
use Rattle.acvp_token.specs.TokenText.{token_of, signature_of}

-- the bytes are the JSON text of this value (RFC 8259), in UTF-8
pub record IsJson (bytes : List ℕ) (d : Data) : Type 0 where
  pub utf8 : IsUtf8 bytes
  pub reads : read bytes ≡ Some d

-- the header of a token signed with HMAC-SHA-256 that asks for no extension (RFC 7515, sections
-- 4.1.1 and 4.1.11)
pub record IsHeader (d : Data) : Type 0 where
  pub algorithm : get (codes "alg") d ≡ Some (string (codes "HS256"))
  pub nothing_critical : get (codes "crit") d ≡ None

-- the text has at most 1024 bytes and is the encoding of a header, claims and a signature (RFC
-- 7515, section 7.1), and this is the header's value
pub record HasForm (text header claims signature : List ℕ) (value : Data) : Type 0 where
  pub short : length text ≤ 1024
  pub whole : text ≡ token_of header claims signature
  pub header_bytes : IsBytes header
  pub claims_bytes : IsBytes claims
  pub signature_bytes : IsBytes signature
  pub header_reads : IsJson header value
  pub header_passes : IsHeader value

-- the text has the form of a token whose header names this key
pub record HasShape (keys : Keys) (text header claims signature key : List ℕ) : Type 0 where
  pub value : Data
  pub form : HasForm text header claims signature value
  pub names : keys value ≡ Some key

-- the claims that the members of an object give (RFC 7519, section 4.1): the account is the plain
-- decimal of 1 to 9999, and a token that is for later or for another audience gives none
pub record GivesClaims (d : Data) (claims : Claims) : Type 0 where
  pub subject : get (codes "sub") d ≡ Some (string (decimal claims.account))
  pub least : 1 ≤ claims.account
  pub greatest : claims.account ≤ 9999
  pub issued : get (codes "iat") d ≡ Some (number (unsigned claims.issued))
  pub expires : get (codes "exp") d ≡ Some (number (unsigned claims.expires))
  pub session : get (codes "sid") d ≡ option_map (λ n. number (unsigned n)) claims.session
  pub no_start : get (codes "nbf") d ≡ None
  pub no_audience : get (codes "aud") d ≡ None

-- the bytes are the text of an object that gives these claims
pub record IsClaimsText (bytes : List ℕ) (claims : Claims) : Type 0 where
  pub value : Data
  pub json : IsJson bytes value
  pub gives : GivesClaims value claims

-- the text is a token that is signed under the key that its header names, and has these claims
pub record ReadsBy (keys : Keys) (text : List ℕ) (claims : Claims) : Type 0 where
  pub header : List ℕ
  pub payload : List ℕ
  pub signature : List ℕ
  pub key : List ℕ
  pub shape : HasShape keys text header payload signature key
  pub signed : signature ≡ signature_of key header payload
  pub content : IsClaimsText payload claims

-- the text is a token that is signed under the key and has these claims
abbrev pub Reads : List ℕ → List ℕ → Claims → Type 0
Reads key = ReadsBy (one_key key)

-- the text is a token that is signed under the key that it names in the ring, and has these claims
abbrev pub ReadsUnder : Ring → List ℕ → Claims → Type 0
ReadsUnder ring = ReadsBy (named_key ring)
