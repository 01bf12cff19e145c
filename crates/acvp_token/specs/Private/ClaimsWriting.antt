-- The text of claims as it is written, for the private clauses of the code that writes it.
use Rattle.std.specs.Prelude.{◌≡◌, ℕ, ◌≤◌, List, length}
use Rattle.acvp_token.specs.declared.Claims.{Claims}
use Rattle.acvp_token.specs.ClaimsJson.{claims_data, claims_text}
use Rattle.acvp_token.specs.Reads.{IsJson}

-- the text of these claims, which reads as them and is short
pub record IsClaimsWritten (text : List ℕ) (claims : Claims) : Type 0 where
  pub value : text ≡ claims_text claims
  pub json : IsJson text (claims_data claims)
  pub short : length text ≤ 120
