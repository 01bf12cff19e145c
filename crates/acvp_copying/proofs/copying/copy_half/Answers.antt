use Rattle.std.proofs.Common.{true, false, [], ◌∷◌, inl, inr, refl}
use Rattle.acvp_copying.specs.Deeds.{Copied, Synced}
use Rattle.acvp_copying.proofs.copying.copy_half.Goals.{then-branch+in_ok-sync, else-branch}
use Rattle.acvp_copying.proofs.DeedLemmas.{not_there}
use Rattle.acvp_copying.proofs.copying.copy_half.Goals as goal

pub returns : goal.returns
returns g c =
    elim c.if-branch.branch [
      | then-branch+in_ok-sync w ↦ (
        Copied c.args.half true ∷ Synced c.args.half ∷ [],
        inl refl,
        (
          c.copy.new.self,
          rw w.if-branch.true at c.in_ok-copy.ensures.copied,
          (w.sync.new.self, w.in_ok-sync.ensures, w.files-is),
        ),
      )
      | else-branch w ↦ (
        Copied c.args.half false ∷ [],
        inr (not_there c.in_ok-copy.field-0 c.args.half w.if-branch.false c.in_ok-copy.ensures.there, refl),
        (c.copy.new.self, rw w.if-branch.false at c.in_ok-copy.ensures.copied, w.files-is),
      )
    ]
