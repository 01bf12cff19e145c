-- Why a text is refused as a token. The tests come in the order of the faults: each fault says that
-- the tests before its own hold, and that its own does not.
use Rattle.std.specs.Prelude.{◌≡◌, ◌≢◌, ℕ, ◌≤◌, ◌<◌, List, Result, MatchResult}
use Rattle.acvp_token.specs.declared.Claims.{Claims}
use Rattle.acvp_token.specs.declared.TokenFault.{TokenFault}
use Rattle.acvp_token.specs.declared.TokenFault.TheVariants.{Malformed, Signature, Claims as NoClaims, Expired, Memory}
use Rattle.acvp_token.specs.Keys.{Keys, one_key, Ring, named_key}
use Rattle.acvp_token.specs.TokenText.{signature_of}
use Rattle.acvp_token.specs.Reads.{HasShape, IsClaimsText, ReadsBy}

-- the text has the shape of no token whose header names a key
abbrev pub IsMalformed : Keys → List ℕ → Type 0
IsMalformed keys text = (header payload signature key : List ℕ) → ¬ HasShape keys text header payload signature key

-- the text has the shape of a token and another signature than its key gives
pub record IsForged (keys : Keys) (text : List ℕ) : Type 0 where
  pub header : List ℕ
  pub payload : List ℕ
  pub signature : List ℕ
  pub key : List ℕ
  pub shape : HasShape keys text header payload signature key
  pub unsigned : signature ≢ signature_of key header payload

-- the text is a signed token without claims
pub record IsUnclaimed (keys : Keys) (text : List ℕ) : Type 0 where
  pub header : List ℕ
  pub payload : List ℕ
  pub signature : List ℕ
  pub key : List ℕ
  pub shape : HasShape keys text header payload signature key
  pub signed : signature ≡ signature_of key header payload
  pub nothing : (claims : Claims) → ¬ IsClaimsText payload claims

-- the token reads, and the moment is its end or past it
pub record IsPast (keys : Keys) (text : List ℕ) (moment : ℕ) : Type 0 where
  pub claims : Claims
  pub reads : ReadsBy keys text claims
  pub ended : claims.expires ≤ moment

-- the token reads, and the moment is before its end
pub record IsVerified (keys : Keys) (text : List ℕ) (moment : ℕ) (claims : Claims) : Type 0 where
  pub reads : ReadsBy keys text claims
  pub lasts : moment < claims.expires

-- why no claims are read; memory may run out at any text
abbrev pub IsUnread : Keys → List ℕ → TokenFault → Type 0
IsUnread keys text Malformed = IsMalformed keys text
IsUnread keys text Signature = IsForged keys text
IsUnread keys text NoClaims = IsUnclaimed keys text
IsUnread keys text Expired = ⊥
IsUnread keys text Memory = Unit {0}

-- why no claims are verified at a moment
abbrev pub IsUnverified : Keys → List ℕ → ℕ → TokenFault → Type 0
IsUnverified keys text moment Malformed = IsMalformed keys text
IsUnverified keys text moment Signature = IsForged keys text
IsUnverified keys text moment NoClaims = IsUnclaimed keys text
IsUnverified keys text moment Expired = IsPast keys text moment
IsUnverified keys text moment Memory = Unit {0}

-- what a text is read as, apart from its end: by the key that its header names, under one key, and under a ring
abbrev pub IsReadingBy : Keys → List ℕ → Result Claims TokenFault → Type 0
IsReadingBy keys text result = MatchResult result (ReadsBy keys text) (IsUnread keys text)

abbrev pub IsReading : List ℕ → List ℕ → Result Claims TokenFault → Type 0
IsReading key = IsReadingBy (one_key key)

abbrev pub IsReadingUnder : Ring → List ℕ → Result Claims TokenFault → Type 0
IsReadingUnder ring = IsReadingBy (named_key ring)

-- what a text is verified as at a moment, likewise
abbrev pub IsVerdictBy : Keys → List ℕ → ℕ → Result Claims TokenFault → Type 0
IsVerdictBy keys text moment result =
    MatchResult result (IsVerified keys text moment) (IsUnverified keys text moment)

abbrev pub IsVerdict : List ℕ → List ℕ → ℕ → Result Claims TokenFault → Type 0
IsVerdict key = IsVerdictBy (one_key key)

abbrev pub IsVerdictUnder : Ring → List ℕ → ℕ → Result Claims TokenFault → Type 0
IsVerdictUnder ring = IsVerdictBy (named_key ring)
