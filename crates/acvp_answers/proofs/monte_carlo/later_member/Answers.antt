use Rattle.std.proofs.Common.{◌≡◌, ◌+◌, ◌++◌, suc, arith}
use Rattle.std.specs.Fn.{iterate}
use Rattle.acvp_mac.specs.Hash.{digest_of}
use Rattle.acvp_answers.specs.MonteCarlo.{extended}
use Rattle.acvp_answers.proofs.MonteCarloLemmas.{iterate-suc, ends_more, last_of_ends}
use Rattle.acvp_answers.proofs.monte_carlo.later_member.Goals as goal

pub loop-preserved : goal.loop-preserved
loop-preserved c = λ members ends.
    let hash = digest_of c.args.name in
    let next : c.next_member-next.result ≡ hash (c.loop.first ++ c.loop.second ++ c.loop.third) =
    rw (← c.as_slice.ensures.value, ← c.as_slice-in-loop.ensures.value, ← c.as_slice-in-loop-2.ensures.value)
    c.next_member-next.ensures in
    let count : c.loop.counter + 1 ≡ suc c.loop.counter = omega arith in
    rw (count, iterate-suc (extended hash) c.loop.counter members, next)
    (ends_more hash (iterate (extended hash) c.loop.counter members) c.loop.first c.loop.second c.loop.third
    (c.loop.invariant members ends))

pub returns : goal.returns
returns c = λ members ends.
    let hash = digest_of c.args.name in
    let count : c.loop.counter ≡ c.args.places = omega (arith, c.loop-test.false, c.loop.auto.counter-end) in
    let is = last_of_ends (iterate (extended hash) c.loop.counter members) c.loop.first c.loop.second c.loop.third
    (c.loop.invariant members ends) in
    rw count at is
