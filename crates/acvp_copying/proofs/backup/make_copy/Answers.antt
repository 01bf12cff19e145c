use Rattle.std.proofs.Common.{[], ◌∷◌}
use Rattle.acvp_copying.specs.Deeds.{Finished, StillNamed}
use Rattle.acvp_copying.proofs.DeedLemmas.{did_last}
use Rattle.acvp_copying.proofs.backup.make_copy.Goals as goal

pub returns : goal.returns
returns g c =
    did_last g.F.Making.does g.F.Number.PartialEq.eq (StillNamed ∷ []) Finished c.finish.result c.args.files.now
    c.copy_whole.new.files c.finish.new.self c.in_ok-copy_whole.ensures c.finish.ensures
