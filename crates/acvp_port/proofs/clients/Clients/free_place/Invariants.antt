use Rattle.std.proofs.Common.{◌<◌, ◌≤◌, ℕ}
use Rattle.acvp_port.specs.Clients.{IsFree}
use Rattle.acvp_port.proofs.clients.Clients.free_place.Given as goal

-- no place before is free
abbrev pub invariant-loop-place : goal.invariant-loop-place
invariant-loop-place l = (place : ℕ) → l.from ≤ place → place < l.place → IsFree l.self place → ⊥
