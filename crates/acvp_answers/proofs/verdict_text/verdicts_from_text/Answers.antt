use Rattle.std.proofs.Common.{◌≡◌, ◌∙◌, sym, take}
use Rattle.std.proofs.lemmas.List.{take_all}
use Rattle.acvp_answers.proofs.VerdictTextLemmas.{same_verdicts, no_text}
use Rattle.acvp_answers.proofs.verdict_text.verdicts_from_text.Goals as goal

pub returns-in_default-clause-read : goal.returns-in_default-clause-read
returns-in_default-clause-read c = λ verdicts e.
    no_text c.as_bytes-letter-items.result.now c.loop-letter.letter-index c.loop-letter-test.true
    c.in_default.ensures verdicts (c.as_bytes-letter-items.ensures.value ∙ e)

pub returns-clause-back : goal.returns-clause-back
returns-clause-back c = λ verdicts e.
    let items = c.as_bytes-letter-items.result.now in
    let whole : take c.loop-letter.letter-index items ≡ items =
    take_all c.loop-letter.letter-index items c.loop-letter-test.false in
    same_verdicts c.loop-letter.verdicts.items verdicts
    (sym c.loop-letter.invariant ∙ whole ∙ c.as_bytes-letter-items.ensures.value ∙ e)
