use Rattle.std.proofs.Common.{◌≡◌, take, string_bytes}
use Rattle.acvp_answers.specs.VerdictText.{verdicts_text}
use Rattle.acvp_answers.proofs.verdict_text.verdicts_to_text.Given as goal

abbrev pub invariant-loop-verdict : goal.invariant-loop-verdict
invariant-loop-verdict l = string_bytes l.text ≡ verdicts_text (take l.verdict-index l.verdicts)
