use Rattle.std.proofs.Common.{[], ◌∷◌, refl}
use Rattle.acvp_copying.specs.Deeds.{Finished, PutBack, StillNamed}
use Rattle.acvp_copying.proofs.DeedLemmas.{did_then}
use Rattle.acvp_copying.proofs.backup.bring_back.Goals as goal

pub returns : goal.returns
returns g c =
    did_then g.F.Making.does g.F.Number.PartialEq.eq (StillNamed ∷ Finished c.in_ok-rows.rows ∷ [])
    (PutBack c.in_ok-rows.rows ∷ []) c.args.files.now c.make_copy.new.files c.put_back.new.self
    c.in_ok-rows.ensures (c.put_back.new.self, c.in_ok-in_place.ensures, refl)
