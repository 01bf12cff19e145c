-- A registration: whether it is a sample, and its capabilities.
use Rattle.std.specs.Prelude.{ℕ, ◌≤◌, List, Bool}
use Rattle.acvp_caps.specs.Capability.{CapabilityValue}

pub record RegistrationValue : Type 0 where
  pub sample : Bool
  pub capabilities : List CapabilityValue

-- a registration has this many capabilities
pub record HasCapabilities (count : ℕ) : Type 0 where
  pub least : 1 ≤ count
  pub most : count ≤ 20
