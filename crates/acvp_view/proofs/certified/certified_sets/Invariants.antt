use Rattle.std.specs.Prelude.{take}
use Rattle.std.specs.List.{AllZip}
use Rattle.acvp_tables.specs.Content.{live_sets}
use Rattle.acvp_view.specs.Certified.{IsCertifiedSet}
use Rattle.acvp_view.proofs.certified.certified_sets.Given as goal

abbrev pub invariant-loop-row : goal.invariant-loop-row
invariant-loop-row l = AllZip (IsCertifiedSet l.seeds) (live_sets l.session (take l.row-index l.rows)) l.sets.items
