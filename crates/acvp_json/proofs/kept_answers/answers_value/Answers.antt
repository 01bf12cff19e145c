use Rattle.std.proofs.Common.{◌≡◌, ◌++◌, [], ap, ◌∙◌, sym, map, string_bytes}
use Rattle.std.proofs.lemmas.List.{append-nil}
use Rattle.serde_json.specs.Data.{array}
use Rattle.serde_json.specs.View.{view, items_of}
use Rattle.serde_json.proofs.Views.{view-Array}
use Rattle.acvp_json.specs.KeptAnswers.{answer_data}
use Rattle.acvp_json.proofs.KeptLemmas.{shown-more}
use Rattle.acvp_json.proofs.kept_answers.answers_value.Goals as goal

pub loop-number-preserved : goal.loop-number-preserved
loop-number-preserved c =
    shown-more c.loop-number.values.items c.push.new.self.items c.loop-number.number-iterator c.next.new.self (
      c.in-Some.number,
      map string_bytes c.in-Some.texts.now,
    ) c.in_ok-answer_value.field-0 _ c.in-Some.ensures.steps c.in_ok-answer_value.ensures c.loop-number.invariant
    c.in_ok-push.ensures.items

pub returns-clause-value : goal.returns-clause-value
returns-clause-value c =
    let whole : map view c.loop-number.values.items ++ map answer_data [] ≡ map answer_data c.args.answers.now =
    rw c.in-None.ensures.steps.0 at c.loop-number.invariant in
    view-Array c.loop-number.values
    ∙ ap (λ ds. array (items_of ds)) (sym (append-nil (map view c.loop-number.values.items)) ∙ whole)
