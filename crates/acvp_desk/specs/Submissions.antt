-- Answers that are submitted to a vector set: what is asked of a body of them, what they come to, and what is kept.
use Rattle.std.specs.Prelude.{ℕ, ◌+◌, List, Option, option_and_then, option_map}
use Rattle.acvp_answers.specs.Answer.{Answer}
use Rattle.acvp_answers.specs.Standards.{standard_of}
use Rattle.acvp_answers.specs.Verdicts.{verdicts_of, disposition_of}
use Rattle.acvp_answers.specs.declared.verdict.Verdict.{Verdict}
use Rattle.acvp_gen.specs.Prompt.{PromptsValue}
use Rattle.acvp_json.specs.AnswersBody.{answers_body_conditions, answers_body_of}
use Rattle.acvp_json.specs.Envelope.{object_of}
use Rattle.acvp_mac.specs.Conditions.{Condition}
use Rattle.acvp_policy.specs.declared.rule.Rule.{Rule}
use Rattle.acvp_tables.specs.Counted.{is_passed, one_if}
use Rattle.acvp_tables.specs.Graded.{GradedValue}
use Rattle.acvp_tables.specs.declared.change.KeptAnswers.{KeptAnswers}
use Rattle.acvp_desk.specs.Bodies.{body_conditions, rule_of}

-- the conditions on a body of answers to these prompts
abbrev pub answers_conditions : PromptsValue → List ℕ → List (Condition Rule)
answers_conditions prompts body = body_conditions rule_of (λ d. answers_body_conditions d prompts) body

-- the answers that it gives
abbrev pub answers_at : PromptsValue → List ℕ → Option (List Answer)
answers_at prompts body = option_and_then (λ d. answers_body_of d prompts) (object_of body)

-- answers with the verdicts on them, and what these come to
abbrev pub with_verdicts : List Answer → List Verdict → GradedValue
with_verdicts answers verdicts = record {
  answers = answers;
  verdicts = verdicts;
  disposition = disposition_of verdicts;
}

-- graded by the standard answers to the prompts
abbrev pub graded_on : PromptsValue → List Answer → GradedValue
graded_on prompts answers = with_verdicts answers (verdicts_of (standard_of prompts) answers)

-- the answers that a body gives to these prompts, graded
abbrev pub graded_at : List ℕ → PromptsValue → Option GradedValue
graded_at body prompts = option_map (graded_on prompts) (answers_at prompts body)

-- what is kept of a vector set's answers, where so many other sets of its session have passed
abbrev pub kept_answers : ℕ → ℕ → ℕ → GradedValue → KeptAnswers
kept_answers session n others graded = record {
  session = session;
  set = n;
  graded = graded;
  passed = others + one_if (is_passed graded.disposition);
}
