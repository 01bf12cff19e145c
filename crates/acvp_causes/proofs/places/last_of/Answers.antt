use Rattle.std.proofs.Common.{sym}
use Rattle.acvp_causes.proofs.FolderLemmas.{last_of-none, last_of-split}
use Rattle.acvp_causes.proofs.places.last_of.Goals as goal

pub returns-in-Some : goal.returns-in-Some
returns-in-Some c =
    let h = c.in-Some.ensures.cases in
    sym (last_of-split c.args.path.now _ h.0 h.1 _ h.2 h.4 h.7)

pub returns-in-None : goal.returns-in-None
returns-in-None c = sym (last_of-none _ c.in-None.ensures.cases)
