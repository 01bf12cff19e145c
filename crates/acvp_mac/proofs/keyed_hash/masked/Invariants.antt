use Rattle.std.proofs.Common.{◌≡◌, length, take, map, bit_xor}
use Rattle.acvp_mac.proofs.keyed_hash.masked.Given as goal

abbrev pub invariant-loop-i : goal.invariant-loop-i
invariant-loop-i l =
    (length l.masked ≡ 128) × (take l.i l.masked ≡ map (λ b. bit_xor b l.pad) (take l.i l.block))
