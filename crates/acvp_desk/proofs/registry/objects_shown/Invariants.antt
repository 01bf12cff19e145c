use Rattle.std.proofs.Common.{◌≡◌, map}
use Rattle.std.specs.Prelude.{take}
use Rattle.acvp_json.specs.Registry.{registered_data}
use Rattle.acvp_desk.specs.Registries.{object_shown}
use Rattle.acvp_desk.proofs.registry.objects_shown.Given as goal

abbrev pub invariant-loop-row : goal.invariant-loop-row
invariant-loop-row l = map registered_data l.shown.items ≡ map object_shown (take l.row-index l.fn.rows)
