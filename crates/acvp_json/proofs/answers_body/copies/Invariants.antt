use Rattle.std.proofs.Common.{◌≡◌, map, take, string_bytes}
use Rattle.acvp_json.proofs.answers_body.copies.Given as goal

abbrev pub invariant-loop-text : goal.invariant-loop-text
invariant-loop-text l = map string_bytes l.copies.items ≡ map (λ t. t.now) (take l.text-index l.texts)
