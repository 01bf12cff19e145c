-- What a request says.
use Rattle.std.specs.Prelude.{ℕ, List}
use Rattle.acvp_desk.specs.declared.request.Ask.{Ask}
use Rattle.acvp_desk.specs.declared.request.TokenField.{TokenField}
use Rattle.acvp_desk.specs.declared.request.TokenField.TheVariants as field
use Rattle.acvp_desk.specs.declared.request.TypedRequest.{TypedRequest}

-- what the `Authorization` field holds: no bearer token (RFC 6750, section 2.1), one, or it stands there more than once
pub data TokenValue : Type 0 where
  missing : TokenValue
  doubled : TokenValue
  bearer : List ℕ → TokenValue

-- what the target and its method ask, and the bytes of the token and of the body
pub record RequestValue : Type 0 where
  pub ask : Ask
  pub token : TokenValue
  pub body : List ℕ

abbrev pub token_value : TokenField → TokenValue
token_value field.Missing = missing
token_value field.Doubled = doubled
token_value (field.Bearer token) = bearer token.now

-- what the code's request says
abbrev pub request_value : TypedRequest → RequestValue
request_value r = record { ask = r.ask; token = token_value r.token; body = r.body.now }
