-- What holds of each object that is kept.
use Rattle.std.specs.Prelude.{◌≡◌, ℕ, List, Some, None}
use Rattle.acvp_registry.specs.Json.{body_json}
use Rattle.acvp_registry.specs.Object.{KeptObject, object_fault, object_text}

-- its value fits its kind, and the text beside it is its own and reads back
pub record IsKeptText (o : KeptObject) (text : List ℕ) : Type 0 where
  pub fit : object_fault o.kind o.value ≡ None
  pub written : text ≡ object_text o
  pub reads_back : body_json text ≡ Some o.value
