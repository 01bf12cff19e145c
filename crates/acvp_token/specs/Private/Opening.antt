-- A token that is decoded part by part, for the private clauses of the code that does so.
use Rattle.std.specs.Prelude.{◌≡◌, ◌≢◌, ℕ, List, Result, MatchResult}
use Rattle.base64.specs.GeneralPurpose.{IsBytes}
use Rattle.serde_json.specs.Data.{Data}
use Rattle.acvp_mac.specs.declared.HashName.TheVariants.{Sha256}
use Rattle.acvp_mac.specs.Hmac.{hmac_of}
use Rattle.acvp_token.specs.declared.Claims.{Claims}
use Rattle.acvp_token.specs.declared.TokenFault.{TokenFault}
use Rattle.acvp_token.specs.declared.TokenFault.TheVariants.{Malformed, Signature, Claims as NoClaims, Expired, Memory}
use Rattle.acvp_token.specs.TokenText.{encoded, signing_input}
use Rattle.acvp_token.specs.Reads.{IsJson, IsHeader, HasForm, IsClaimsText}

-- why a step gives nothing: the fault is Malformed with this reason, or memory ran out
abbrev pub IsMalformedFor : Type 0 → TokenFault → Type 0
IsMalformedFor reason Malformed = reason
IsMalformedFor reason Signature = ⊥
IsMalformedFor reason NoClaims = ⊥
IsMalformedFor reason Expired = ⊥
IsMalformedFor reason Memory = Unit {0}

-- no bytes have this encoding
abbrev pub IsNoEncoding : List ℕ → Type 0
IsNoEncoding part = (bytes : List ℕ) → IsBytes bytes → part ≢ encoded bytes

-- why a part is not decoded
abbrev pub IsUndecoded : List ℕ → TokenFault → Type 0
IsUndecoded part = IsMalformedFor (IsNoEncoding part)

-- the bytes are the text of a header with this value
pub record IsHeaderText (bytes : List ℕ) (d : Data) : Type 0 where
  pub json : IsJson bytes d
  pub passes : IsHeader d

-- the bytes are the text of no header
abbrev pub IsHeaderless : List ℕ → Type 0
IsHeaderless bytes = (d : Data) → ¬ IsHeaderText bytes d

-- why a header is refused
abbrev pub IsNoHeader : List ℕ → TokenFault → Type 0
IsNoHeader bytes = IsMalformedFor (IsHeaderless bytes)

-- the text has the form of no token
abbrev pub IsFormless : List ℕ → Type 0
IsFormless text = (header claims signature : List ℕ) (value : Data) → ¬ HasForm text header claims signature value

-- the text has the form of a token with this value of its header, these claims, this signature and these signed bytes
pub record HasOpened (text : List ℕ) (value : Data) (signed claims signature : List ℕ) : Type 0 where
  pub header : List ℕ
  pub form : HasForm text header claims signature value
  pub input : signed ≡ signing_input header claims

-- why a text is not opened
abbrev pub IsUnopened : List ℕ → TokenFault → Type 0
IsUnopened text = IsMalformedFor (IsFormless text)

-- the claims are signed under the key, and are these
pub record IsSigned (key signed payload signature : List ℕ) (claims : Claims) : Type 0 where
  pub same : signature ≡ hmac_of Sha256 key signed
  pub content : IsClaimsText payload claims

-- why no signed claims are read
abbrev pub IsUnsigned : List ℕ → List ℕ → List ℕ → List ℕ → TokenFault → Type 0
IsUnsigned key signed payload signature Malformed = ⊥
IsUnsigned key signed payload signature Signature = signature ≢ hmac_of Sha256 key signed
IsUnsigned key signed payload signature NoClaims =
    (signature ≡ hmac_of Sha256 key signed) × ((claims : Claims) → ¬ IsClaimsText payload claims)
IsUnsigned key signed payload signature Expired = ⊥
IsUnsigned key signed payload signature Memory = Unit {0}

-- what is read of an opened token under a key
abbrev pub IsSignedReading : List ℕ → List ℕ → List ℕ → List ℕ → Result Claims TokenFault → Type 0
IsSignedReading key signed payload signature result =
    MatchResult result (IsSigned key signed payload signature) (IsUnsigned key signed payload signature)
