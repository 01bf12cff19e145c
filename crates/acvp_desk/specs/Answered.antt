-- What every run keeps of the answers to vector sets.
use Rattle.std.specs.Prelude.{◌≡◌, ℕ, List, Bool, true, slice_get}
use Rattle.std.specs.List.{list_all}
use Rattle.std.specs.Map.{keys_of}
use Rattle.acvp_answers.specs.Answer.{Answer, is_answered}
use Rattle.acvp_answers.specs.Standards.{standard_of}
use Rattle.acvp_gen.specs.Prompts.{prompts_of}
use Rattle.acvp_tables.specs.Content.{Content}
use Rattle.acvp_tables.specs.State.{of_all}
use Rattle.acvp_tables.specs.declared.rows.SetRow.{SetRow}

-- each answer is to a test that the standard answers
abbrev pub are_to_tests : List Answer → List Answer → Bool
are_to_tests standard answers = list_all (is_answered standard) (keys_of answers)

-- the answers that are kept are to tests of the vector set, as its prompts under a seed have them
abbrev pub are_to_its_tests : SetRow → List Answer → List ℕ → Bool
are_to_its_tests row answers seed =
    are_to_tests (standard_of (prompts_of seed row.number row.capability)) answers

-- under the seed of its epoch, where that is there
unfoldable pub has_own_answers : List (List ℕ) → SetRow → Bool
has_own_answers seeds row =
    of_all (λ graded. of_all (are_to_its_tests row graded.answers) (slice_get seeds row.epoch)) row.graded

pub record AreAnswered (seeds : List (List ℕ)) (c : Content) : Type 0 where
  pub tests : list_all (has_own_answers seeds) c.sets ≡ true
