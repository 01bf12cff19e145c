-- That a grant is leave for what is drafted.
use Rattle.std.specs.Prelude.{Option, Some, None, ⊤}
use Rattle.acvp_policy.specs.Granted.{Granted}
use Rattle.acvp_tables.specs.Covers.{Covers}
use Rattle.acvp_tables.specs.Own.{Fits}
use Rattle.acvp_tables.specs.declared.change.Change.{Change}

-- the grant is leave for the change, where one is made
abbrev pub CoversAny : Granted → Option Change → Type 0
CoversAny grant None = ⊤
CoversAny grant (Some it) = Covers grant it × Fits it
