use Rattle.std.proofs.Common.{[], ◌∷◌, refl, List, ℕ}
use Rattle.acvp_mac.specs.Hash.{digest_of}
use Rattle.acvp_answers.specs.MonteCarlo.{next_checkpoint, members_of, extended}
use Rattle.acvp_answers.specs.Private.Ending.{EndsIn}
use Rattle.acvp_answers.proofs.MonteCarloLemmas.{ends_more}
use Rattle.acvp_answers.proofs.monte_carlo.next_checkpoint.Goals as goal

pub returns : goal.returns
unfolding next_checkpoint members_of
returns c =
    let hash = digest_of c.args.name in
    let seed = c.args.seed.now in
    let seeds : List (List ℕ) = seed ∷ seed ∷ seed ∷ [] in
    let second_is = rw c.as_slice.ensures.value at c.next_member-second.ensures in
    let third_is = rw (c.as_slice-2.ensures.value, c.as_slice-3.ensures.value) at c.next_member-third.ensures in
    let once : EndsIn (extended hash seeds) seed seed c.next_member-first.result =
    rw c.next_member-first.ensures (ends_more hash seeds seed seed seed ([], refl)) in
    let twice : EndsIn (extended hash (extended hash seeds)) seed c.next_member-first.result
    c.next_member-second.result =
    rw second_is (ends_more hash (extended hash seeds) seed seed c.next_member-first.result once) in
    let thrice : EndsIn (extended hash (extended hash (extended hash seeds))) c.next_member-first.result
    c.next_member-second.result c.next_member-third.result =
    rw third_is (ends_more hash (extended hash (extended hash seeds)) seed c.next_member-first.result
    c.next_member-second.result twice) in
    c.later_member.ensures (extended hash (extended hash (extended hash seeds))) thrice
