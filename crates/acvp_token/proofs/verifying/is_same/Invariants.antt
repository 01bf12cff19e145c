use Rattle.std.proofs.Common.{ℕ, ◌<◌, ◌≡◌, ◌↔◌, IsTrue, length, slice_index}
use Rattle.acvp_token.proofs.verifying.is_same.Given as goal

abbrev pub invariant-loop-byte : goal.invariant-loop-byte
invariant-loop-byte l =
    IsTrue l.same ↔ ((k : ℕ) → k < length l.yielded → slice_index l.given k ≡ slice_index l.made k)
