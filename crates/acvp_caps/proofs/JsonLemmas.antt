-- The elements of an array.
use Rattle.std.proofs.Common.{◌≡◌, List, [], ◌∷◌, Option, Some, refl, sym, ◌∙◌, ap}
use Rattle.std.specs.Prelude.{map}
use Rattle.serde_json.specs.Data.{Data, Items}
use Rattle.serde_json.specs.View.{view, items_of, items_view}
use Rattle.serde_json.specs.declared.value.Value.{Value}
use Rattle.acvp_caps.specs.Json.{item_list, array_list}

pub item_list-items_of : (ds : List Data) → item_list (items_of ds) ≡ ds
item_list-items_of [] = refl
item_list-items_of (d ∷ ds) = ap (λ (es : List Data). d ∷ es) (item_list-items_of ds)

pub array_list-view : (vs : List Value) (o : Option Items) → Some (items_view vs) ≡ o → map view vs ≡ array_list o
array_list-view vs o e = sym (item_list-items_of (map view vs)) ∙ ap array_list e
