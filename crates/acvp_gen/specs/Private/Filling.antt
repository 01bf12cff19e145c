-- The same tests and groups by a number and a place that move along; and bounds within which no sum leaves its type.
use Rattle.std.specs.Prelude.{ℕ, ◌+◌, ◌≤◌, List, [], ◌∷◌, length, All}
use Rattle.std.specs.List.{sum_by}
use Rattle.acvp_gen.specs.declared.shape.TestShape.{TestShape}
use Rattle.acvp_gen.specs.Choice.{ShapeValue}
use Rattle.acvp_gen.specs.Prompt.{TestValue, GroupValue}
use Rattle.acvp_gen.specs.Prompts.{test_at, words_of_test}

abbrev pub tests_from : List ℕ → ℕ → ℕ → ℕ → List TestShape → List TestValue
tests_from seed vs number place [] = []
tests_from seed vs number place (test ∷ tests) = test_at seed vs number place test
    ∷ tests_from seed vs (number + 1) (place + words_of_test test) tests

abbrev pub groups_from : List ℕ → ℕ → ℕ → ℕ → ℕ → List ShapeValue → List GroupValue
groups_from seed vs group number place [] = []
groups_from seed vs group number place (shape ∷ shapes) =
    record {
      number = group;
      form = shape.form;
      tests = tests_from seed vs number place shape.tests;
    }
    ∷ groups_from seed vs (group + 1) (number + length shape.tests) (place + sum_by words_of_test shape.tests) shapes

-- a test of no longer key and message than an algorithm is tested at
pub record IsShort (test : TestShape) : Type 0 where
  pub key : test.key_bits ≤ 524288
  pub message : test.message_bits ≤ 65536

-- at most 26 tests, each of them short
pub record IsSmall (shape : ShapeValue) : Type 0 where
  pub few : length shape.tests ≤ 26
  pub short : All IsShort shape.tests

-- at most 14 groups, each of them small
pub record AreSmall (shapes : List ShapeValue) : Type 0 where
  pub few : length shapes ≤ 14
  pub small : All IsSmall shapes
