use Rattle.std.proofs.Common.{rules, ◌≡◌, Some, Option}
use Rattle.acvp_answers.specs.declared.verdict.Disposition.{Disposition}
use Rattle.acvp_store.proofs.Words.{IsDispositionOf, StoreFault}
use Rattle.acvp_store.proofs.SetRows.{not_given}
use Rattle.acvp_store.proofs.sets.judged_disposition.Goals as goal

pub returns-in_err-given-in-Some-Some-clause-refused : goal.returns-in_err-given-in-Some-Some-clause-refused
returns-in_err-given-in-Some-Some-clause-refused c =
    let text : c.args.set.now.verdicts ≡ Some c.as_str.result.now = search rules in
    let number : c.args.set.now.disposition ≡ Some c.in-Some-Some.number = search rules in
    let none : c.in_err-given-in-Some-Some.field-0.0 ≡ StoreFault.Refused → (d : Option Disposition)
    → ¬ IsDispositionOf c.args.set.now d =
    λ refused. not_given c.args.set.now c.as_str.result.now c.in-Some-Some.number text number
    (c.in_err-given-in-Some-Some.ensures.refused refused) in
    search rules
