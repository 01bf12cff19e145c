use Rattle.std.proofs.Common.{◌≡◌, map}
use Rattle.std.specs.Prelude.{take}
use Rattle.acvp_desk.proofs.find.set_numbers.Given as goal

abbrev pub invariant-loop-set : goal.invariant-loop-set
invariant-loop-set g l = l.numbers.items ≡ map (λ row. row.number) (take l.set-index l.set-items)
