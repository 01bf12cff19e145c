use Rattle.std.proofs.Common.{[], ◌∷◌}
use Rattle.acvp_copying.specs.Deeds.{Finished, FolderSynced, Named, StillNamed}
use Rattle.acvp_copying.proofs.DeedLemmas.{did_then}
use Rattle.acvp_copying.proofs.backup.back_up.Goals as goal

pub returns : goal.returns
returns g c =
    let (naming, is, done) = c.in_ok-name_new.ensures in
    did_then g.F.Making.does g.F.Number.PartialEq.eq (StillNamed ∷ Finished c.in_ok-count.count ∷ [])
    (StillNamed ∷ Named ∷ FolderSynced ∷ []) c.args.files.now c.make_copy.new.files c.name_new.new.files
    c.in_ok-count.ensures (rw is at done)
