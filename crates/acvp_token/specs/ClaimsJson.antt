-- The claims of a token as JSON (RFC 7519, section 4).
use Rattle.std.specs.Prelude.{ℕ, List, codes, decimal, Option, None, Some}
use Rattle.serde_json.specs.Data.{Data, number, unsigned, string, object, Members, member, no_members}
use Rattle.serde_json.specs.Written.{compact_text}
use Rattle.acvp_token.specs.declared.Claims.{Claims}

-- the session's number as a claim, where there is one, before further claims
abbrev pub with_session : Option ℕ → Members → Members
with_session None further = further
with_session (Some session) further = member (codes "sid") (number (unsigned session)) further

-- the claims in the order of their names: when the token ends and was issued, the session, and the
-- account as text
abbrev pub claims_data : Claims → Data
claims_data claims =
    object (member (codes "exp") (number (unsigned claims.expires))
    (member (codes "iat") (number (unsigned claims.issued))
    (with_session claims.session
    (member (codes "sub") (string (decimal claims.account)) no_members))))

-- the text of the claims, with no space
abbrev pub claims_text : Claims → List ℕ
claims_text claims = compact_text (claims_data claims)
