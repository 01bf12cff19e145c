use Rattle.acvp_store.proofs.ObjectRanges.{objects_joined, objects_tree}
use Rattle.acvp_store.proofs.OneList.{same_objects}
use Rattle.acvp_store.proofs.range_laws.object_ranges_tell.Goals as goal

pub returns : goal.returns
returns c = record { whole = objects_joined; same = same_objects; tree = objects_tree }
