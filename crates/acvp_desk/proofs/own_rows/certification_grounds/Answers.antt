use Rattle.std.proofs.Common.{refl}
use Rattle.acvp_tables.specs.State.{state_of}
use Rattle.acvp_desk.proofs.own_rows.certification_grounds.Goals as goal

pub returns-clause-found : goal.returns-clause-found
unfolding state_of
returns-clause-found g c =
    λ live seeds content kept h. let early = c.in_ok-requests.ensures.reads.was_open live in
    rw (
      c.in_ok-named.ensures.found early seeds content kept h,
      c.in_ok-requests.ensures.found live content kept.sound (c.in_ok-named.ensures.looks.same early content h),
    ) refl
