-- Claims that are read member by member, for the private clauses of the code that does so.
use Rattle.std.specs.Prelude.{◌≡◌, ◌≢◌, ◌≤◌, ℕ, List, Option, Some, option_map, codes, decimal}
use Rattle.serde_json.specs.Data.{Data, number, unsigned, string}
use Rattle.serde_json.specs.Find.{get}
use Rattle.acvp_token.specs.declared.Claims.{Claims}
use Rattle.acvp_token.specs.declared.TokenFault.{TokenFault}
use Rattle.acvp_token.specs.declared.TokenFault.TheVariants.{Malformed, Signature, Claims as NoClaims, Expired, Memory}
use Rattle.acvp_token.specs.Reads.{GivesClaims, IsClaimsText}

-- why a step gives nothing: the fault is Claims with this reason, or memory ran out
abbrev pub IsUnclaimedFor : Type 0 → TokenFault → Type 0
IsUnclaimedFor reason Malformed = ⊥
IsUnclaimedFor reason Signature = ⊥
IsUnclaimedFor reason NoClaims = reason
IsUnclaimedFor reason Expired = ⊥
IsUnclaimedFor reason Memory = Unit {0}

-- the text is the plain decimal of no account
abbrev pub IsNoSubject : List ℕ → TokenFault → Type 0
IsNoSubject text = IsUnclaimedFor ((n : ℕ) → 1 ≤ n → n ≤ 9999 → text ≢ decimal n)

-- the account of an object
pub record IsAccount (d : Data) (n : ℕ) : Type 0 where
  pub subject : get (codes "sub") d ≡ Some (string (decimal n))
  pub least : 1 ≤ n
  pub greatest : n ≤ 9999

-- why an object has no account
abbrev pub IsNoAccount : Data → TokenFault → Type 0
IsNoAccount d = IsUnclaimedFor ((n : ℕ) → ¬ IsAccount d n)

-- the session of an object, if any
abbrev pub IsSession : Data → Option ℕ → Type 0
IsSession d session = get (codes "sid") d ≡ option_map (λ n. number (unsigned n)) session

-- the object says neither that there is no session nor which it is
abbrev pub IsNoSession : Data → Type 0
IsNoSession d = (session : Option ℕ) → ¬ IsSession d session

-- why an object gives no claims
abbrev pub GivesNoClaims : Data → TokenFault → Type 0
GivesNoClaims d = IsUnclaimedFor ((claims : Claims) → ¬ GivesClaims d claims)

-- why a text gives no claims
abbrev pub IsNoClaimsText : List ℕ → TokenFault → Type 0
IsNoClaimsText bytes = IsUnclaimedFor ((claims : Claims) → ¬ IsClaimsText bytes claims)
