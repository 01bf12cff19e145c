use Rattle.acvp_store.proofs.RangeJoins.{accounts_whole, accounts_known, accounts_tree, accounts_full}
use Rattle.acvp_store.proofs.range_laws.account_range_tells.Goals as goal

pub returns : goal.returns
returns c = record { whole = accounts_whole; known = accounts_known; tree = accounts_tree; full = accounts_full }
