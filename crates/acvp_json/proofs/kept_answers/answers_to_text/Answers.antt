use Rattle.std.proofs.Common.{◌≡◌, Some, string_bytes}
use Rattle.std.specs.Prelude.{IfOk}
use Rattle.std.proofs.lemmas.Result.{IfOk-weaker}
use Rattle.serde_json.specs.View.{view}
use Rattle.acvp_json.specs.KeptAnswers.{kept_text, kept_answers, IsKeptAs}
use Rattle.acvp_json.proofs.KeptLemmas.{written, is-kept}
use Rattle.acvp_json.proofs.kept_answers.answers_to_text.Goals as goal

pub returns-clause-text : goal.returns-clause-text
returns-clause-text c =
    let are : IfOk c.to_string.result (λ s. IsKeptAs (string_bytes s) c.args.answers.now) =
    written c.to_string.result
    (view c.in_ok-answers_value.field-0) c.args.answers.now c.in_ok-answers_value.ensures.value
    c.answers_value.ensures.ascending c.to_string.ensures.text c.to_string.ensures.reads_back in
    IfOk-weaker c.to_string.result (λ s. IsKeptAs (string_bytes s) c.args.answers.now)
    (λ s. string_bytes s ≡ kept_text c.args.answers.now) (λ s is. is.written) are

pub returns-clause-reads_back : goal.returns-clause-reads_back
returns-clause-reads_back c =
    let are : IfOk c.to_string.result (λ s. IsKeptAs (string_bytes s) c.args.answers.now) =
    written c.to_string.result
    (view c.in_ok-answers_value.field-0) c.args.answers.now c.in_ok-answers_value.ensures.value
    c.answers_value.ensures.ascending c.to_string.ensures.text c.to_string.ensures.reads_back in
    IfOk-weaker c.to_string.result (λ s. IsKeptAs (string_bytes s) c.args.answers.now)
    (λ s. kept_answers (string_bytes s) ≡ Some c.args.answers.now)
    (λ s is. is-kept (string_bytes s) c.args.answers.now is) are
