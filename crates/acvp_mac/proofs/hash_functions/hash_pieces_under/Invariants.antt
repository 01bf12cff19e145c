use Rattle.std.proofs.Common.{take}
use Rattle.std.specs.List.{flat_map}
use Rattle.acvp_mac.proofs.hash_functions.hash_pieces_under.Given as goal

abbrev pub invariant-loop-piece : goal.invariant-loop-piece
invariant-loop-piece g l =
    g.H.HashFunction.holds l.state (flat_map (λ piece. piece.now) (take l.piece-index l.pieces))
