use Rattle.std.proofs.Common.{◌≡◌, drop}
use Rattle.acvp_json.specs.Private.Scan.{accepts}
use Rattle.acvp_json.specs.declared.kept_scan.Place.TheVariants.{Begin}
use Rattle.acvp_json.proofs.kept_scan.scan.Given as goal

abbrev pub invariant-loop-byte : goal.invariant-loop-byte
invariant-loop-byte l = accepts l.place (drop l.byte-index l.bytes) ≡ accepts Begin l.bytes
