use Rattle.std.proofs.Common.{◌≡◌, drop}
use Rattle.acvp_tables.specs.Content.{object_at}
use Rattle.acvp_check.proofs.registrations.is_there_as_asked.Given as goal

abbrev pub invariant-loop-row : goal.invariant-loop-row
invariant-loop-row l =
    object_at l.asked.kind l.number (drop l.row-index l.objects) ≡ object_at l.asked.kind l.number l.objects
