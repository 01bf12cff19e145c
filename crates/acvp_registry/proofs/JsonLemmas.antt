-- Lemmas on the JSON value that bytes are.
use Rattle.std.proofs.Common.{◌≡◌, ℕ, List, Bool, true, false, Some, None, refl}
use Rattle.std.specs.Prelude.{IsUtf8}
use Rattle.std.specs.Str.{is_utf8}
use Rattle.std.proofs.lemmas.Str.{IsUtf8-from_is_utf8, is_utf8-from_IsUtf8}
use Rattle.serde_json.specs.Data.{Data}
use Rattle.serde_json.specs.Read.{read}
use Rattle.serde_json.specs.Written.{has_float}
use Rattle.acvp_registry.specs.Json.{body_json}

-- text that reads as a value without floats
pub body_json-read : (body : List ℕ) (d : Data) → IsUtf8 body → read body ≡ Some d → has_float d ≡ false
    → body_json body ≡ Some d
body_json-read body d utf8 reads plain =
    let text : is_utf8 body ≡ true = is_utf8-from_IsUtf8 body utf8 in
    rw (text, reads, plain)

body_json-unread : (body : List ℕ) (b : Bool) → is_utf8 body ≡ b → (IsUtf8 body → read body ≡ None)
    → body_json body ≡ None
body_json-unread body true text reads =
    let none : read body ≡ None = reads (IsUtf8-from_is_utf8 body text) in
    rw (text, none)
body_json-unread body false text reads = rw text

-- bytes that are no JSON text
pub body_json-none : (body : List ℕ) → (IsUtf8 body → read body ≡ None) → body_json body ≡ None
body_json-none body reads = body_json-unread body (is_utf8 body) refl reads
