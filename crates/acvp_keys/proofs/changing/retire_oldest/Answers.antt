use Rattle.std.proofs.Common.{arith, refl, sym}
use Rattle.acvp_keys.proofs.ChangingLemmas.{retired, more_retired, none_left}
use Rattle.acvp_keys.proofs.changing.retire_oldest.Goals as goal

pub loop-place-init : goal.loop-place-init
loop-place-init c = (tt, refl)

pub returns-then-is_some : goal.returns-then-is_some
returns-then-is_some c =
    rw (sym c.loop-place.invariant.1)
    (retired c.loop-place.entries c.loop-place.place (omega arith) c.loop-place.invariant.0 c.if-is_some.ensures)

pub loop-place-preserved : goal.loop-place-preserved
loop-place-preserved c = (
  more_retired c.loop-place.entries c.loop-place.place (omega arith) c.loop-place.invariant.0 c.if-is_some.ensures,
  c.loop-place.invariant.1,
)

pub returns : goal.returns
returns c =
    rw (sym c.loop-place.invariant.1)
    (none_left c.loop-place.entries c.loop-place.place (omega arith) c.loop-place.invariant.0)
