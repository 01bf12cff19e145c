-- A change of the lists.
use Rattle.std.specs.Prelude.{◌≡◌, Result, OnOk, OnErr}
use Rattle.acvp_tables.specs.Content.{Content}

-- the change is made, or the content stays
pub record IsMade {X E : Type 0} (result : Result X E) (old new : Content) (change : Content → Content) : Type 0 where
  pub ok : OnOk result (new ≡ change old)
  pub err : OnErr result (new ≡ old)
