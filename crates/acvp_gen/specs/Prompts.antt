-- The prompts of a vector set: each test has its number and its bytes by the tests before it.
use Rattle.std.specs.Prelude.{◌≡◌, ℕ, suc, ◌+◌, ◌*◌, ◌/◌, ◌≤◌, List, [], ◌∷◌, ◌++◌, length, map, All, is_some, IfSome}
use Rattle.std.specs.List.{flat_map, sum_by, range_with_len}
use Rattle.acvp_caps.specs.declared.algorithm.Algorithm.{Algorithm}
use Rattle.acvp_caps.specs.Algorithms.{is_hmac_of}
use Rattle.acvp_caps.specs.Capability.{CapabilityValue, digest_bits}
use Rattle.acvp_gen.specs.declared.group.GroupForm.{GroupForm}
use Rattle.acvp_gen.specs.declared.group.GroupForm.TheVariants.{MonteCarlo}
use Rattle.acvp_gen.specs.declared.shape.TestShape.{TestShape}
use Rattle.acvp_gen.specs.Choice.{ShapeValue, shapes_on, draws_on}
use Rattle.acvp_gen.specs.Prompt.{TestValue, GroupValue, PromptsValue, sizes_of}
use Rattle.acvp_gen.specs.Words.{bytes_of, words_in}

-- the words that a test's key and message take
abbrev pub words_of_test : TestShape → ℕ
words_of_test test = words_in (test.key_bits / 8) + words_in (test.message_bits / 8)

-- the test of a number, whose key begins at a place, and the message after it
abbrev pub test_at : List ℕ → ℕ → ℕ → ℕ → TestShape → TestValue
test_at seed vs number place test = record {
  number = number;
  bits = test.message_bits;
  message = bytes_of seed vs (place + words_in (test.key_bits / 8)) (test.message_bits / 8);
  key = bytes_of seed vs place (test.key_bits / 8);
}

-- A test, by those that come before it: it is numbered after them, and its bytes begin behind the draws and the words
-- of theirs.
abbrev pub test_after : List ℕ → ℕ → ℕ → List TestShape → TestShape → TestValue
test_after seed vs draws before test = test_at seed vs (length before + 1) (draws + sum_by words_of_test before) test

abbrev pub tests_after : List ℕ → ℕ → ℕ → List TestShape → List TestShape → List TestValue
tests_after seed vs draws before [] = []
tests_after seed vs draws before (test ∷ tests) = test_after seed vs draws before test
    ∷ tests_after seed vs draws (before ++ test ∷ []) tests

-- the groups from a number on, by the tests that come before them
abbrev pub groups_after : List ℕ → ℕ → ℕ → List TestShape → ℕ → List ShapeValue → List GroupValue
groups_after seed vs draws before number [] = []
groups_after seed vs draws before number (shape ∷ shapes) =
    record {
      number = number;
      form = shape.form;
      tests = tests_after seed vs draws before shape.tests;
    }
    ∷ groups_after seed vs draws (before ++ shape.tests) (suc number) shapes

-- the prompts of a capability, under a seed and a vector set's number
abbrev pub prompts_of : List ℕ → ℕ → CapabilityValue → PromptsValue
prompts_of seed vs capability = record {
  vs = vs;
  algorithm = capability.algorithm;
  groups = groups_after seed vs (draws_on capability.domains) [] 1
      (shapes_on seed vs capability.algorithm capability.domains);
}

-- all tests of groups, in their order
abbrev pub tests_in : List GroupValue → List TestValue
tests_in groups = flat_map (λ g. g.tests) groups

-- tests are numbered from 1 on through all groups
abbrev pub AreNumbered : List GroupValue → Type 0
AreNumbered groups = map (λ t. t.number) (tests_in groups) ≡ range_with_len 1 (length (tests_in groups))

-- a MAC is never longer than the digest of the algorithm's hash function
abbrev pub IsSized : Algorithm → GroupForm → Type 0
IsSized algorithm form = IfSome (sizes_of form) (λ s. s.mac_bits ≤ digest_bits algorithm)

-- What holds of each group of an algorithm: it has sizes exactly where the algorithm is HMAC; the keys of a group with
-- sizes have the bits that it names; a Monte Carlo group's messages are as long as a digest; and a test's bits are
-- those of the whole bytes of its message.
pub record IsGroupOf (algorithm : Algorithm) (group : GroupValue) : Type 0 where
  pub sizes : is_some (sizes_of group.form) ≡ is_hmac_of algorithm
  pub keys : IfSome (sizes_of group.form) (λ s. All (λ t. 8 * length t.key ≡ s.key_bits) group.tests)
  pub seeds : group.form ≡ MonteCarlo → All (λ t. 8 * length t.message ≡ digest_bits algorithm) group.tests
  pub bits : All (λ t. t.bits ≡ 8 * length t.message) group.tests

-- what holds of the groups of every vector set
pub record AreGroupsOf (algorithm : Algorithm) (groups : List GroupValue) : Type 0 where
  pub numbered : AreNumbered groups
  pub sized : All (λ g. IsSized algorithm g.form) groups
  pub each : All (IsGroupOf algorithm) groups
