-- The code's tests and the plain decimal of a place say the same of a text.
use Rattle.std.proofs.Common.{arith}
use Rattle.acvp_token.proofs.Places.{one-digit, two-digits, place-digits, is_one, is_two}
use Rattle.acvp_token.proofs.key_ring.key_place.Goals as goal
use Rattle.acvp_token.proofs.key_ring.key_place.Goals.{else-text-eq1-via-then-text-eq1+then-text-ge48+else-text-le57}
use Rattle.acvp_token.proofs.key_ring.key_place.Goals.{else-text-eq1-via-then-text-eq1+else-text-ge48}
use Rattle.acvp_token.proofs.key_ring.key_place.Goals.{else-text-eq1-via-else-text-eq1}
use Rattle.acvp_token.proofs.key_ring.key_place.Goals.{else-text-eq2-via-then-text-eq2+then-text-eq49+then-text-ge48-2+else-text-le53}
use Rattle.acvp_token.proofs.key_ring.key_place.Goals.{else-text-eq2-via-then-text-eq2+then-text-eq49+else-text-ge48-2}
use Rattle.acvp_token.proofs.key_ring.key_place.Goals.{else-text-eq2-via-then-text-eq2+else-text-eq49}
use Rattle.acvp_token.proofs.key_ring.key_place.Goals.{else-text-eq2-via-else-text-eq2}

pub returns-then-text-le57 : goal.returns-then-text-le57
returns-then-text-le57 c = one-digit c.args.text.now c.if-text-eq1.true c.if-text-ge48.true c.if-text-le57.true

pub returns-then-text-le53 : goal.returns-then-text-le53
returns-then-text-le53 c =
    two-digits c.args.text.now c.if-text-eq2.true c.if-text-eq49.true c.if-text-ge48-2.true c.if-text-le53.true

pub returns-else-text-eq2 : goal.returns-else-text-eq2
returns-else-text-eq2 c =
    λ place is.
    elim (place-digits c.args.text.now place is) [
      | is_one size low high ↦
          elim c.else-text-eq1.branch [
            | else-text-eq1-via-then-text-eq1+then-text-ge48+else-text-le57 w ↦ omega arith
            | else-text-eq1-via-then-text-eq1+else-text-ge48 w ↦ omega arith
            | else-text-eq1-via-else-text-eq1 w ↦ omega arith
          ]
      | is_two size first low high ↦
          elim c.else-text-eq2.branch [
            | else-text-eq2-via-then-text-eq2+then-text-eq49+then-text-ge48-2+else-text-le53 w ↦ omega arith
            | else-text-eq2-via-then-text-eq2+then-text-eq49+else-text-ge48-2 w ↦ omega arith
            | else-text-eq2-via-then-text-eq2+else-text-eq49 w ↦ omega arith
            | else-text-eq2-via-else-text-eq2 w ↦ omega arith
          ]
    ]
