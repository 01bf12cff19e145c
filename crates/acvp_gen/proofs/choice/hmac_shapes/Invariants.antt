use Rattle.std.proofs.Common.{◌≡◌, ◌++◌, drop, map}
use Rattle.std.specs.List.{flat_map}
use Rattle.acvp_gen.specs.Choice.{hmac_shape, hmac_shapes, mac_lengths}
use Rattle.acvp_gen.proofs.choice.hmac_shapes.Given as goal

abbrev pub invariant-loop-key_bits : goal.invariant-loop-key_bits
invariant-loop-key_bits l =
    l.shapes.items ++ flat_map (λ key. map (hmac_shape key) (mac_lengths l.macs-2))
    (drop l.key_bits-index l.key_bits-items) ≡ hmac_shapes l.fn.words.seed l.fn.words.vs l.fn.algorithm l.keys l.macs-2
