use Rattle.std.proofs.Common.{refl}
use Rattle.acvp_tables.proofs.Empty.{none_sound}
use Rattle.acvp_tables.proofs.laws.records_begin_well.Goals as goal

pub returns : goal.returns
returns c = record { numbered = none_sound; counted = refl }
