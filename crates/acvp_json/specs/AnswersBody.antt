-- The body of answers to a vector set's tests.
use Rattle.std.specs.Prelude.{ℕ, ◌==◌, ◌&&◌, not, List, [], ◌∷◌, ◌++◌, find, codes, Bool, true, is_some, Option, Some}
use Rattle.std.specs.Prelude.{None, option_map, option_and_then}
use Rattle.std.specs.BTreeMap.{insert_entry}
use Rattle.std.specs.List.{list_any, filter_map}
use Rattle.std.specs.Ordering.{nat_cmp}
use Rattle.serde_json.specs.Data.{Data}
use Rattle.acvp_caps.specs.Algorithms.{name_of}
use Rattle.acvp_caps.specs.Conditions.{Condition}
use Rattle.acvp_gen.specs.declared.group.GroupForm.{GroupForm}
use Rattle.acvp_gen.specs.declared.group.GroupForm.TheVariants.{Digest, MonteCarlo, Mac}
use Rattle.acvp_gen.specs.Prompt.{GroupValue, PromptsValue}
use Rattle.acvp_answers.specs.Answer.{Answer}
use Rattle.acvp_json.specs.declared.fault.BodyFault.{BodyFault}
use Rattle.acvp_json.specs.declared.fault.BodyFault.TheVariants.{BodyField, UnknownTest, DuplicateTest, SetMismatch}
use Rattle.acvp_json.specs.Elements.{joined}
use Rattle.acvp_json.specs.Members.{is_text}
use Rattle.acvp_json.specs.SubmittedAnswers.{GivenValue, SubmissionValue, submission_of}

-- a text that isn't told, or this one
abbrev pub is_text_or_absent : List ℕ → Option (List ℕ) → Bool
is_text_or_absent wanted None = true
is_text_or_absent wanted (Some text) = is_text wanted (Some text)

-- the body is for this vector set, and names no other algorithm or revision
abbrev pub is_for_set : SubmissionValue → PromptsValue → Bool
is_for_set submission prompts =
    (submission.vs == prompts.vs)
    && is_text_or_absent (name_of prompts.algorithm) submission.algorithm
    && is_text_or_absent (codes "1.0") submission.revision

-- the group of a number that has the test of a number
abbrev pub has_test : ℕ → GroupValue → Bool
has_test number group = list_any (λ t. t.number == number) group.tests

abbrev pub group_for : PromptsValue → GivenValue → Option GroupValue
group_for prompts given = find (λ g. (g.number == given.group) && has_test given.test g) prompts.groups

abbrev pub one_text : Option (List ℕ) → Option (List (List ℕ))
one_text text = option_map (λ t. t ∷ []) text

-- the texts of an answer to a test of a group of this form, by the member of its kind
abbrev pub texts_by_form : GroupForm → GivenValue → Option (List (List ℕ))
texts_by_form Digest given = one_text given.md
texts_by_form MonteCarlo given = given.checkpoints
texts_by_form (Mac sizes) given = one_text given.mac

abbrev pub texts_given : PromptsValue → GivenValue → Option (List (List ℕ))
texts_given prompts given = option_and_then (λ group. texts_by_form group.form given) (group_for prompts given)

-- the conditions of an answer, where these numbers came before it: its test is the vector set's, wasn't answered
-- before, and has the member of its kind
abbrev pub given_conditions : PromptsValue → List ℕ → GivenValue → List (Condition BodyFault)
given_conditions prompts before given =
    (is_some (group_for prompts given), UnknownTest)
    ∷ (not (list_any (λ n. n == given.test) before), DuplicateTest)
    ∷ (is_some (texts_given prompts given), BodyField)
    ∷ []

abbrev pub all_given_conditions : PromptsValue → List ℕ → List GivenValue → List (Condition BodyFault)
all_given_conditions prompts before [] = []
all_given_conditions prompts before (given ∷ more) = given_conditions prompts before given
    ++ all_given_conditions prompts (before ++ given.test ∷ []) more

-- the conditions on what a body says: its vector set, and then each answer in the order of the body
abbrev pub submission_conditions : PromptsValue → Option SubmissionValue → List (Condition BodyFault)
submission_conditions prompts None = []
submission_conditions prompts (Some submission) = (is_for_set submission prompts, SetMismatch)
    ∷ all_given_conditions prompts [] (joined submission.groups)

-- the conditions of a body of answers, in their order: first the form of the whole
abbrev pub answers_body_conditions : Data → PromptsValue → List (Condition BodyFault)
answers_body_conditions d prompts = (is_some (submission_of d), BodyField)
    ∷ submission_conditions prompts (submission_of d)

-- an answer, where it has its texts
abbrev pub answer_given : PromptsValue → GivenValue → Option Answer
answer_given prompts given = option_map (λ texts. (given.test, texts)) (texts_given prompts given)

-- each answer at its place by its test's number
abbrev pub placed : List Answer → List Answer → List Answer
placed answers [] = answers
placed answers (a ∷ more) = placed (insert_entry nat_cmp answers a.0 a.1) more

-- the answers that are given, ascending
abbrev pub answers_from : PromptsValue → List GivenValue → List Answer
answers_from prompts given = placed [] (filter_map (answer_given prompts) given)

-- the answers that a body gives, where it has its form
abbrev pub answers_body_of : Data → PromptsValue → Option (List Answer)
answers_body_of d prompts =
    option_map (λ submission. answers_from prompts (joined submission.groups)) (submission_of d)
