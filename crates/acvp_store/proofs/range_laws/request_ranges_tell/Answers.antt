use Rattle.acvp_store.proofs.RequestRanges.{requests_whole, requests_tree, requests_full}
use Rattle.acvp_store.proofs.range_laws.request_ranges_tell.Goals as goal

pub returns : goal.returns
returns c = record { whole = requests_whole; tree = requests_tree; full = requests_full }
