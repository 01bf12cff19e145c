use Rattle.serde_json.specs.Find.{as_array}
use Rattle.serde_json.specs.View.{view}
use Rattle.acvp_caps.proofs.JsonLemmas.{array_list-view}
use Rattle.acvp_caps.proofs.json.array_elements.Goals as goal

pub returns-in-Some : goal.returns-in-Some
returns-in-Some c =
    rw c.as_slice.ensures.value
    (array_list-view c.in-Some.values.now.items (as_array (view c.args.value.now)) c.in-Some.ensures)
