-- A login: what its body says, and what is found on it.
use Rattle.std.specs.Prelude.{ℕ, ◌+◌, List, length, ◌&&◌, ◌==◌, if◌then◌else◌, Option, Some, None, option_map}
use Rattle.std.specs.Prelude.{option_and_then, Result, Ok, Err}
use Rattle.std.specs.Str.{all_ascii_digits}
use Rattle.std.specs.Str.Parse.{digits_value}
use Rattle.acvp_mac.specs.Codes.{accepted}
use Rattle.acvp_registry.specs.Number.{plain_number_of}
use Rattle.acvp_token.specs.Keys.{Ring}
use Rattle.acvp_token.specs.Verdict.{reading_under}
use Rattle.acvp_token.specs.declared.Claims.{Claims}
use Rattle.acvp_token.specs.declared.TokenFault.{TokenFault}
use Rattle.acvp_json.specs.Envelope.{object_of}
use Rattle.acvp_json.specs.LoginBody.{login_body_of}
use Rattle.acvp_json.specs.declared.login_body.LoginBody.{LoginBody}
use Rattle.acvp_policy.specs.declared.facts.LoginFacts.{LoginFacts}
use Rattle.acvp_policy.specs.declared.facts.UserFacts.{UserFacts}
use Rattle.acvp_policy.specs.declared.facts.Renewal.{Renewal}
use Rattle.acvp_policy.specs.declared.facts.Renewal.TheVariants as renewal
use Rattle.acvp_tables.specs.State.{is_account_number}
use Rattle.acvp_tables.specs.declared.rows.AccountRow.{AccountRow}
use Rattle.acvp_desk.specs.declared.ask.LoginAsk.{LoginAsk}

-- ---- what the body says

-- what the bytes of a login's body say
abbrev pub login_at : List ℕ → Option LoginBody
login_at body = option_and_then login_body_of (object_of body)

-- a one-time code is 8 decimal digits (RFC 4226, section 5.3)
abbrev pub password_of : List ℕ → Option ℕ
password_of text = if (length text == 8) && all_ascii_digits text then Some (digits_value 10 text) else None

abbrev pub if_account : ℕ → Option ℕ
if_account n = if is_account_number n then Some n else None

-- the number of an account that is written as its plain decimal
abbrev pub user_of : List ℕ → Option ℕ
user_of text = option_and_then if_account (plain_number_of text)

-- a token that is handed in for renewal may have expired
abbrev pub renewal_from : Result Claims TokenFault → Renewal
renewal_from (Ok claims) = renewal.Reads claims
renewal_from (Err fault) = renewal.Unreadable

abbrev pub renewal_of : Ring → Option (List ℕ) → Renewal
renewal_of ring None = renewal.Unasked
renewal_of ring (Some text) = renewal_from (reading_under ring text)

-- what a login asks
abbrev pub login_ask : Ring → LoginBody → LoginAsk
login_ask ring body = record {
  user = user_of body.user;
  password = password_of body.password;
  renewal = renewal_of ring body.access_token;
}

abbrev pub login_ask_at : Ring → List ℕ → Option LoginAsk
login_ask_at ring body = option_map (login_ask ring) (login_at body)

-- ---- what is found on it

-- the step whose code (RFC 6238) the password is
abbrev pub login_step : ℕ → LoginAsk → AccountRow → Option ℕ
login_step moment ask row = option_and_then (λ code. accepted row.secret row.last_step moment code) ask.password

abbrev pub user_facts : ℕ → LoginAsk → AccountRow → UserFacts
user_facts moment ask row = record { account = row.number; enabled = row.enabled; step = login_step moment ask row }

abbrev pub login_facts : ℕ → LoginAsk → Option AccountRow → LoginFacts
login_facts moment ask found = record { user = option_map (user_facts moment ask) found; renewal = ask.renewal }

-- ---- what is given

-- how long a token lives, in seconds
abbrev pub token_life : ℕ
token_life = 1800

-- the session of the token that is renewed
abbrev pub renewed_session : Renewal → Option ℕ
renewed_session renewal.Unasked = None
renewed_session renewal.Unreadable = None
renewed_session (renewal.Reads claims) = claims.session

-- the claims of the new token
abbrev pub claims_at : ℕ → LoginAsk → AccountRow → Claims
claims_at moment ask row = record {
  account = row.number;
  session = renewed_session ask.renewal;
  issued = moment;
  expires = moment + token_life;
}
