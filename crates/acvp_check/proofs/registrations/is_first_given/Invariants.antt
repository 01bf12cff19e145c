use Rattle.std.proofs.Common.{◌≡◌, drop}
use Rattle.std.specs.Prelude.{find}
use Rattle.acvp_desk.specs.Registrations.{is_given}
use Rattle.acvp_check.proofs.registrations.is_first_given.Given as goal

abbrev pub invariant-loop-row : goal.invariant-loop-row
invariant-loop-row l =
    find (is_given l.kind l.number) (drop l.row-index l.requests) ≡ find (is_given l.kind l.number) l.requests
