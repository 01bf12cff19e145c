use Rattle.std.proofs.Common.{◌≡◌, ◌++◌, drop, map}
use Rattle.acvp_gen.specs.Choice.{hmac_shape}
use Rattle.acvp_gen.proofs.choice.add_hmac_shapes.Given as goal

abbrev pub invariant-loop-mac_bits : goal.invariant-loop-mac_bits
invariant-loop-mac_bits l = l.shapes.items ++ map (hmac_shape l.key_bits) (drop l.mac_bits-index l.macs)
    ≡ l.fn.shapes.items ++ map (hmac_shape l.key_bits) l.macs
