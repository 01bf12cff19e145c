-- A new test session: what its body registers, its number, its vector sets and the token that is bound to it.
use Rattle.std.specs.Prelude.{ℕ, ◌+◌, List, [], ◌∷◌, length, Option, Some, None, option_map}
use Rattle.std.specs.Prelude.{option_and_then}
use Rattle.std.specs.List.{range_with_len}
use Rattle.acvp_caps.specs.Registered.{registration_at}
use Rattle.acvp_caps.specs.Registration.{RegistrationValue}
use Rattle.acvp_json.specs.Data.{Data}
use Rattle.acvp_json.specs.Envelope.{object_of}
use Rattle.acvp_json.specs.Session.{new_session_data}
use Rattle.acvp_tables.specs.State.{first_of_account, first_of_session}
use Rattle.acvp_tables.specs.declared.change.NewSession.{NewSession}
use Rattle.acvp_token.specs.TokenText.{ring_token_text}
use Rattle.acvp_token.specs.declared.Claims.{Claims}
use Rattle.acvp_desk.specs.Login.{token_life}
use Rattle.acvp_token.specs.Keys.{Ring}

-- what the bytes of a body register
unfoldable pub registration_in : List ℕ → Option RegistrationValue
registration_in body = option_map registration_at (object_of body)

-- the place of the newest seed
abbrev pub newest_epoch : List (List ℕ) → Option ℕ
newest_epoch [] = None
newest_epoch (seed ∷ seeds) = Some (length seeds)

abbrev pub session_made : ℕ → ℕ → ℕ → ℕ → RegistrationValue → NewSession
session_made moment u n epoch registration = record {
  number = first_of_account u + n;
  account = u;
  created = moment;
  epoch = epoch;
  registration = registration;
}

-- the session that a body registers: the account's next number, and vector sets under the newest seed
abbrev pub new_session_in : List (List ℕ) → ℕ → ℕ → ℕ → List ℕ → Option NewSession
new_session_in seeds moment u n body =
    option_and_then (λ epoch. option_map (session_made moment u n epoch) (registration_in body)) (newest_epoch seeds)

-- a token that is bound to it
abbrev pub session_claims : NewSession → Claims
session_claims s = record {
  account = s.account;
  session = Some s.number;
  issued = s.created;
  expires = s.created + token_life;
}

abbrev pub made_numbers : NewSession → List ℕ
made_numbers s = range_with_len (first_of_session s.number) (length s.registration.capabilities)

abbrev pub session_made_data : Ring → NewSession → Data
session_made_data ring s =
    new_session_data (ring_token_text ring (session_claims s)) s.number s.created (made_numbers s)
