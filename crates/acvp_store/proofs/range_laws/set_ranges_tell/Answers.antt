use Rattle.acvp_store.proofs.SetRanges.{sets_joined, sets_tree}
use Rattle.acvp_store.proofs.OneList.{same_sets}
use Rattle.acvp_store.proofs.range_laws.set_ranges_tell.Goals as goal

pub returns : goal.returns
returns c = record { whole = sets_joined; same = same_sets; tree = sets_tree }
