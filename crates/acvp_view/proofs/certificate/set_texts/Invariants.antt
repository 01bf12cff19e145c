use Rattle.std.proofs.Common.{◌≡◌, map, string_bytes, take}
use Rattle.acvp_view.specs.Certificate.{set_part}
use Rattle.acvp_view.proofs.certificate.set_texts.Given as goal

abbrev pub invariant-loop-set : goal.invariant-loop-set
invariant-loop-set l = map string_bytes l.texts.items ≡ map (set_part l.page) (take l.set-index l.sets)
