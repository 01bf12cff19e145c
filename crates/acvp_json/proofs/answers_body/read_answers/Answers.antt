use Rattle.std.proofs.Common.{rules, ◌≡◌, ◌∙◌, sym, ap, map}
use Rattle.serde_json.specs.View.{view}
use Rattle.acvp_json.proofs.AnswersLemmas.{body_read, body_unread}
use Rattle.acvp_json.proofs.answers_body.read_answers.Goals as goal

pub returns-in_err-add_groups : goal.returns-in_err-add_groups
returns-in_err-add_groups c =
    let same : map (λ g. g.items) c.deref.result.now ≡ c.in_ok-submission.submission.groups =
    ap (map (λ g. g.items)) c.deref.ensures.value ∙ ap (λ s. s.groups) c.submission.view_is in
    let unread = body_unread (view c.args.object.now) c.args.prompts.now c.in_ok-submission.submission
    c.in_err-add_groups.field-0.0 c.in_ok-submission.ensures (sym c.is_for_set.ensures ∙ c.if-not-is_for_set.false)
    (rw (same, c.new-answers.ensures) at c.in_err-add_groups.ensures) in
    search rules

pub returns : goal.returns
returns c =
    let same : map (λ g. g.items) c.deref.result.now ≡ c.in_ok-submission.submission.groups =
    ap (map (λ g. g.items)) c.deref.ensures.value ∙ ap (λ s. s.groups) c.submission.view_is in
    body_read (view c.args.object.now) c.args.prompts.now c.in_ok-submission.submission c.add_groups.new.answers
    c.in_ok-submission.ensures (sym c.is_for_set.ensures ∙ c.if-not-is_for_set.false)
    (rw (same, c.new-answers.ensures) at c.in_ok-add_groups.ensures)
