use Rattle.std.proofs.Common.{◌≡◌, map}
use Rattle.std.specs.Prelude.{take}
use Rattle.acvp_desk.specs.Registries.{request_shown}
use Rattle.acvp_desk.proofs.registry.requests_shown.Given as goal

abbrev pub invariant-loop-row : goal.invariant-loop-row
invariant-loop-row l = l.shown.items ≡ map request_shown (take l.row-index l.fn.rows)
