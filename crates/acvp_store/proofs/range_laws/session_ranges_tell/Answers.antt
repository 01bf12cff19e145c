use Rattle.acvp_store.proofs.RangeJoins.{sessions_whole, sessions_known, sessions_tree}
use Rattle.acvp_store.proofs.range_laws.session_ranges_tell.Goals as goal

pub returns : goal.returns
returns c = record { whole = sessions_whole; known = sessions_known; tree = sessions_tree }
