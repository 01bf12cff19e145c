-- The answers that a body gives are to tests of the prompts that it is read by.
use Rattle.std.proofs.Common.{◌≡◌, ℕ, List, [], ◌∷◌, ◌++◌, map, Bool, true, false, ◌&&◌, ◌||◌, ◌==◌, Option, None, Some}
use Rattle.std.proofs.Common.{refl, ap, subst, ◌∙◌}
use Rattle.std.specs.Prelude.{All, find, is_some, option_and_then, option_map, slice_get}
use Rattle.std.specs.BTreeMap.{insert_entry}
use Rattle.std.specs.List.{cons_option, filter_map, flat_map, list_any}
use Rattle.std.specs.Map.{keys_of}
use Rattle.std.specs.Ordering.{nat_cmp}
use Rattle.std.proofs.lemmas.List.{map-append}
use Rattle.std.proofs.lemmas.List.Elements.{All-cons, All-head, All-nil, All-tail}
use Rattle.std.proofs.lemmas.List.Sums.{list_all-from_AllPass}
use Rattle.std.proofs.lemmas.Map.Views.{All-keys-insert_entry}
use Rattle.acvp_answers.specs.Answer.{Answer, is_answered}
use Rattle.acvp_answers.specs.Standards.{group_answers, standard_of, texts_on}
use Rattle.acvp_gen.specs.Algorithms.{hash_of}
use Rattle.acvp_gen.specs.Prompt.{GroupValue, PromptsValue, TestValue}
use Rattle.acvp_gen.specs.Prompts.{prompts_of}
use Rattle.acvp_json.specs.AnswersBody.{answer_given, answers_body_of, answers_from, group_for, has_test, placed}
use Rattle.acvp_json.specs.AnswersBody.{texts_by_form, texts_given}
use Rattle.acvp_json.specs.Data.{Data}
use Rattle.acvp_json.specs.Elements.{joined}
use Rattle.acvp_json.specs.Envelope.{object_of}
use Rattle.acvp_json.specs.SubmittedAnswers.{GivenValue, SubmissionValue, submission_of}
use Rattle.acvp_mac.specs.declared.HashName.{HashName}
use Rattle.acvp_tables.specs.Changes.{with_graded}
use Rattle.acvp_tables.specs.Graded.{GradedValue}
use Rattle.acvp_tables.specs.State.{of_all, set_record}
use Rattle.acvp_tables.specs.declared.rows.SetRow.{SetRow}
use Rattle.acvp_tables.proofs.KeptLemmas.{any_before, any_behind}
use Rattle.acvp_desk.specs.Answered.{are_to_its_tests, are_to_tests, has_own_answers}
use Rattle.acvp_desk.specs.Replies.{prompts_from}
use Rattle.acvp_desk.specs.Sets.{source_of}
use Rattle.acvp_desk.specs.Submissions.{graded_at, graded_on}
use Rattle.acvp_desk.proofs.NextSession.{right_true}

-- ---- what the standard answers

-- the tests of a group
same_tests : (texts : TestValue → List (List ℕ)) (tests : List TestValue) (n : ℕ)
    → is_answered (map (λ t. (t.number, texts t)) tests) n ≡ list_any (λ t. t.number == n) tests
same_tests texts [] n = refl
same_tests texts (t ∷ tests) n = ap (λ b. (t.number == n) || b) (same_tests texts tests n)

-- a test of a group that is found
found_answered : (name : HashName) (n : ℕ) (p : GroupValue → Bool)
    → ((g : GroupValue) → p g ≡ true → has_test n g ≡ true) → (groups : List GroupValue)
    → is_some (find p groups) ≡ true → is_answered (flat_map (group_answers name) groups) n ≡ true
found_answered name n p has [] there = absurd (cc)
found_answered name n p has (g ∷ groups) there =
    ap (list_any (λ m. m == n)) (map-append (λ (a : Answer). a.0) (group_answers name g)
    (flat_map (group_answers name) groups)) ∙ go (p g) refl (found_answered name n p has groups)
  where
    its : List ℕ
    its = keys_of (group_answers name g)

    others : List ℕ
    others = keys_of (flat_map (group_answers name) groups)

    go : (b : Bool) → p g ≡ b
        → (is_some (find p groups) ≡ true → is_answered (flat_map (group_answers name) groups) n ≡ true)
        → list_any (λ m. m == n) (its ++ others) ≡ true
    go true e later =
        any_before (λ m. m == n) its others (same_tests (texts_on name g.form) g.tests n ∙ has g e)
    go false e later = any_behind (λ m. m == n) its others (later (rw e at there))

-- ---- what a body gives

module _ (prompts : PromptsValue) where
  abbrev IsToTest : ℕ → Type 0
  IsToTest n = is_answered (standard_of prompts) n ≡ true

  -- what is given with its texts
  given_to_test : (given : GivenValue) → is_some (texts_given prompts given) ≡ true → IsToTest given.test
  given_to_test given there =
      found_answered (hash_of prompts.algorithm) given.test
      (λ g. (g.number == given.group) && has_test given.test g)
      (λ g is. right_true (g.number == given.group) (has_test given.test g) is) prompts.groups
      (go (group_for prompts given) there)
    where
      go : (group : Option GroupValue) → is_some (option_and_then (λ g. texts_by_form g.form given) group) ≡ true
          → is_some group ≡ true
      go None there = there
      go (Some g) there = refl

  all_given : (given : List GivenValue) → All IsToTest (keys_of (filter_map (answer_given prompts) given))
  all_given [] = All-nil IsToTest
  all_given (g ∷ given) = go (texts_given prompts g) refl (all_given given)
    where
      rest : List Answer
      rest = filter_map (answer_given prompts) given

      go : (texts : Option (List (List ℕ))) → texts_given prompts g ≡ texts → All IsToTest (keys_of rest)
          → All IsToTest (keys_of (cons_option (option_map (λ texts. (g.test, texts)) texts) rest))
      go None is later = later
      go (Some texts) is later =
          All-cons IsToTest g.test (keys_of rest) (given_to_test g (ap is_some is)) later

  all_placed : (answers more : List Answer) → All IsToTest (keys_of answers) → All IsToTest (keys_of more)
      → All IsToTest (keys_of (placed answers more))
  all_placed answers [] here later = here
  all_placed answers (a ∷ more) here later =
      all_placed (insert_entry nat_cmp answers a.0 a.1) more
      (All-keys-insert_entry nat_cmp a.0 a.1 IsToTest answers here (All-head IsToTest a.0 (keys_of more) later))
      (All-tail IsToTest a.0 (keys_of more) later)

  given_to_tests : (given : List GivenValue)
      → are_to_tests (standard_of prompts) (answers_from prompts given) ≡ true
  given_to_tests given =
      list_all-from_AllPass (is_answered (standard_of prompts)) (keys_of (answers_from prompts given))
      (all_placed [] (filter_map (answer_given prompts) given) (All-nil IsToTest) (all_given given))

  body_to_tests : (body : List ℕ) (graded : GradedValue) → graded_at body prompts ≡ Some graded
      → are_to_tests (standard_of prompts) graded.answers ≡ true
  body_to_tests body graded read = of_object (object_of body) read
    where
      of_submission : (submission : Option SubmissionValue)
          → option_map (graded_on prompts)
          (option_map (λ submission. answers_from prompts (joined submission.groups)) submission) ≡ Some graded
          → are_to_tests (standard_of prompts) graded.answers ≡ true
      of_submission None read = absurd (cc)
      of_submission (Some submission) read =
          let is : graded_on prompts (answers_from prompts (joined submission.groups)) ≡ graded = cc in
          subst (λ g. are_to_tests (standard_of prompts) g.answers ≡ true) is
          (given_to_tests (joined submission.groups))

      of_object : (object : Option Data)
          → option_map (graded_on prompts) (option_and_then (λ d. answers_body_of d prompts) object) ≡ Some graded
          → are_to_tests (standard_of prompts) graded.answers ≡ true
      of_object None read = absurd (cc)
      of_object (Some d) read = of_submission (submission_of d) read

-- where the prompts are those of a vector set, under the seed of its epoch
pub given_own : (seeds : List (List ℕ)) (n : ℕ) (row : SetRow) (body : List ℕ) (prompts : PromptsValue)
    (graded : GradedValue) → row.number ≡ n → prompts_from seeds n (source_of (set_record row)) ≡ Some prompts
    → graded_at body prompts ≡ Some graded → has_own_answers seeds (with_graded graded row) ≡ true
unfolding has_own_answers
given_own seeds n row body prompts graded number made read = go (slice_get seeds row.epoch) made
  where
    go : (seed : Option (List ℕ)) → option_map (λ seed. prompts_of seed n row.capability) seed ≡ Some prompts
        → of_all (are_to_its_tests row graded.answers) seed ≡ true
    go None made = refl
    go (Some seed) made =
        let is : prompts ≡ prompts_of seed n row.capability = cc in
        rw number (subst (λ prompts. are_to_tests (standard_of prompts) graded.answers ≡ true) is
        (body_to_tests prompts body graded read))
