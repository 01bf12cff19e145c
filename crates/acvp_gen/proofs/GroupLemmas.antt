-- Lemmas on tests and groups: by what comes before them is the same as by a number and a place that move along.
use Rattle.std.proofs.Common.{◌≡◌, ℕ, zero, suc, ◌+◌, List, [], ◌∷◌, ◌++◌, length, map, refl, sym, ◌∙◌, ap}
use Rattle.std.proofs.Common.{length-append, arith, ◌*◌, ◌/◌, ◌%◌, None, Some}
use Rattle.std.specs.Prelude.{All, Option, IfSome}
use Rattle.std.specs.List.{sum_by, flat_map, range_with_len}
use Rattle.std.proofs.lemmas.List.{map-append, length-take-le}
use Rattle.std.proofs.lemmas.List.Elements.{All-cons, All-nil, All-head, All-tail}
use Rattle.std.proofs.lemmas.List.Sums.{sum_by-append}
use Rattle.acvp_caps.specs.declared.algorithm.Algorithm.{Algorithm}
use Rattle.acvp_caps.specs.Capability.{digest_bits}
use Rattle.acvp_gen.specs.declared.group.Sizes.{Sizes}
use Rattle.acvp_gen.specs.declared.shape.TestShape.{TestShape}
use Rattle.acvp_gen.specs.Choice.{ShapeValue}
use Rattle.acvp_gen.specs.Words.{word_bytes_of, words_in, bytes_of}
use Rattle.acvp_gen.specs.Prompt.{TestValue, GroupValue, sizes_of}
use Rattle.acvp_gen.specs.Prompts.{words_of_test, test_at, tests_after, groups_after, tests_in, IsSized, IsGroupOf}
use Rattle.acvp_gen.specs.Prompts.{AreGroupsOf}
use Rattle.acvp_gen.specs.Private.Filling.{tests_from, groups_from}
use Rattle.acvp_gen.proofs.ChoiceLemmas.{IsShapeOf}
use Rattle.acvp_gen.proofs.WordLemmas.{two_ranges}

one_test_more : (draws : ℕ) (before : List TestShape) (test : TestShape)
    → draws + sum_by words_of_test (before ++ test ∷ []) ≡ draws + sum_by words_of_test before + words_of_test test
one_test_more draws before test = omega (arith, sum_by-append words_of_test before (test ∷ []))

one_number_more : (before : List TestShape) (test : TestShape)
    → length (before ++ test ∷ []) + 1 ≡ length before + 1 + 1
one_number_more before test = omega (arith, length-append before (test ∷ []))

same_tests : (seed : List ℕ) (vs draws : ℕ) (before tests : List TestShape) →
    tests_after seed vs draws before tests ≡ tests_from seed vs (length before + 1)
    (draws + sum_by words_of_test before) tests
same_tests seed vs draws before [] = refl
same_tests seed vs draws before (test ∷ tests) =
    let rest = same_tests seed vs draws (before ++ test ∷ []) tests in
    ap (λ ts. test_at seed vs (length before + 1) (draws + sum_by words_of_test before) test ∷ ts)
    (rest ∙ rw (one_number_more before test, one_test_more draws before test) refl)

same_groups_at : (seed : List ℕ) (vs draws : ℕ) (before : List TestShape) (group : ℕ) (shapes : List ShapeValue) →
    groups_after seed vs draws before group shapes ≡ groups_from seed vs group (length before + 1)
    (draws + sum_by words_of_test before) shapes
same_groups_at seed vs draws before group [] = refl
same_groups_at seed vs draws before group (shape ∷ shapes) =
    let rest = same_groups_at seed vs draws (before ++ shape.tests) (suc group) shapes in
    let number : length (before ++ shape.tests) + 1 ≡ length before + 1 + length shape.tests =
    omega (arith, length-append before shape.tests) in
    let place : draws + sum_by words_of_test (before ++ shape.tests)
    ≡ draws + sum_by words_of_test before + sum_by words_of_test shape.tests =
    omega (arith, sum_by-append words_of_test before shape.tests) in
    let next : suc group ≡ group + 1 = omega arith in
    rw (same_tests seed vs draws before shape.tests)
    (ap (λ gs. record {
      number = group;
      form = shape.form;
      tests = tests_from seed vs (length before + 1) (draws + sum_by words_of_test before) shape.tests;
    } ∷ gs)
    (rest ∙ rw (number, place, next) refl))

pub same_groups : (seed : List ℕ) (vs draws : ℕ) (shapes : List ShapeValue)
    → groups_from seed vs 1 1 draws shapes ≡ groups_after seed vs draws [] 1 shapes
same_groups seed vs draws shapes = sym (same_groups_at seed vs draws [] 1 shapes ∙ rw (start draws) refl)
  where
    start : (n : ℕ) → n + sum_by words_of_test [] ≡ n
    start n = omega arith

-- ---- numbers

tests_numbered : (seed : List ℕ) (vs number place : ℕ) (tests : List TestShape)
    → map (λ t. t.number) (tests_from seed vs number place tests) ≡ range_with_len number (length tests)
tests_numbered seed vs number place [] = refl
tests_numbered seed vs number place (test ∷ tests) =
    ap (λ ns. number ∷ ns) (tests_numbered seed vs (number + 1) (place + words_of_test test) tests)

how_many : (seed : List ℕ) (vs number place : ℕ) (tests : List TestShape)
    → length (tests_from seed vs number place tests) ≡ length tests
how_many seed vs number place [] = refl
how_many seed vs number place (test ∷ tests) = ap suc (how_many seed vs (number + 1) (place + words_of_test test) tests)

groups_numbered : (seed : List ℕ) (vs group number place : ℕ) (shapes : List ShapeValue) →
    map (λ t. t.number) (tests_in (groups_from seed vs group number place shapes))
    ≡ range_with_len number (length (tests_in (groups_from seed vs group number place shapes)))
groups_numbered seed vs group number place [] = refl
groups_numbered seed vs group number place (shape ∷ shapes) =
    let tests = tests_from seed vs number place shape.tests in
    let rest = tests_in (groups_from seed vs (group + 1) (number + length shape.tests)
    (place + sum_by words_of_test shape.tests) shapes) in
    let more = groups_numbered seed vs (group + 1) (number + length shape.tests)
    (place + sum_by words_of_test shape.tests) shapes in
    map-append (λ t. t.number) tests rest
    ∙ rw (
      tests_numbered seed vs number place shape.tests,
      more,
      two_ranges number (length shape.tests) (length rest),
      length-append tests rest,
      how_many seed vs number place shape.tests,
    ) refl

-- ---- what holds of each test and group

all_tests : (P : TestShape → Type 0) (Q : TestValue → Type 0) (seed : List ℕ) (vs : ℕ)
    → ((number place : ℕ) (test : TestShape) → P test → Q (test_at seed vs number place test))
    → (number place : ℕ) (tests : List TestShape) → All P tests → All Q (tests_from seed vs number place tests)
all_tests P Q seed vs step number place [] all = All-nil Q
all_tests P Q seed vs step number place (test ∷ tests) all =
    All-cons Q (test_at seed vs number place test)
    (tests_from seed vs (number + 1) (place + words_of_test test) tests)
    (step number place test (All-head P test tests all))
    (all_tests P Q seed vs step (number + 1) (place + words_of_test test) tests (All-tail P test tests all))

-- the group of a number, whose tests are made from a number and a place on
abbrev group_at : List ℕ → ℕ → ℕ → ℕ → ℕ → ShapeValue → GroupValue
group_at seed vs group number place shape = record {
  number = group;
  form = shape.form;
  tests = tests_from seed vs number place shape.tests;
}

all_groups : (P : ShapeValue → Type 0) (Q : GroupValue → Type 0) (seed : List ℕ) (vs : ℕ)
    → ((group number place : ℕ) (shape : ShapeValue) → P shape → Q (group_at seed vs group number place shape))
    → (group number place : ℕ) (shapes : List ShapeValue) → All P shapes
    → All Q (groups_from seed vs group number place shapes)
all_groups P Q seed vs step group number place [] all = All-nil Q
all_groups P Q seed vs step group number place (shape ∷ shapes) all =
    All-cons Q (group_at seed vs group number place shape)
    (groups_from seed vs (group + 1) (number + length shape.tests) (place + sum_by words_of_test shape.tests) shapes)
    (step group number place shape (All-head P shape shapes all))
    (all_groups P Q seed vs step (group + 1) (number + length shape.tests)
    (place + sum_by words_of_test shape.tests) shapes (All-tail P shape shapes all))

four_bytes : (seed : List ℕ) (vs place words : ℕ)
    → length (flat_map (word_bytes_of seed vs) (range_with_len place words)) ≡ 4 * words
four_bytes seed vs place zero = refl
four_bytes seed vs place (suc words) =
    let word : length (word_bytes_of seed vs place) ≡ 4 = refl in
    omega (
      arith,
      length-append (word_bytes_of seed vs place) (flat_map (word_bytes_of seed vs) (range_with_len (place + 1) words)),
      four_bytes seed vs (place + 1) words,
      word,
    )

-- a value has the bytes that it is made of
value_length : (seed : List ℕ) (vs place size : ℕ) → length (bytes_of seed vs place size) ≡ size
value_length seed vs place size =
    length-take-le size (flat_map (word_bytes_of seed vs) (range_with_len place (words_in size)))
    (omega (arith, four_bytes seed vs place (words_in size)))

fit_group : (a : Algorithm) (seed : List ℕ) (vs group number place : ℕ) (shape : ShapeValue) → IsShapeOf a shape
    → IsGroupOf a (group_at seed vs group number place shape)
fit_group a seed vs group number place shape fit = record {
  sizes = fit.sizes;
  keys = keys_of (sizes_of shape.form) fit.whole_keys fit.keys;
  seeds = λ is. all_tests (λ t. t.message_bits ≡ digest_bits a) (λ t. 8 * length t.message ≡ digest_bits a) seed vs
      (λ number place test same. let whole : digest_bits a % 8 ≡ 0 = omega arith in omega (
        arith,
        same,
        value_length seed vs (place + words_in (test.key_bits / 8)) (test.message_bits / 8),
      )) number place shape.tests (fit.seeds is);
  bits = all_tests (λ t. t.message_bits % 8 ≡ 0) (λ t. t.bits ≡ 8 * length t.message) seed vs
      (λ number place test whole. omega (
        arith,
        whole,
        value_length seed vs (place + words_in (test.key_bits / 8)) (test.message_bits / 8),
      )) number place shape.tests fit.messages;
}
  where
    keys_of : (o : Option Sizes) → IfSome o (λ s. s.key_bits % 8 ≡ 0)
        → IfSome o (λ s. All (λ t. t.key_bits ≡ s.key_bits) shape.tests)
        → IfSome o (λ s. All (λ t. 8 * length t.key ≡ s.key_bits) (tests_from seed vs number place shape.tests))
    keys_of None whole keys = tt
    keys_of (Some s) whole keys =
        let eights : s.key_bits % 8 ≡ 0 = whole in
        all_tests (λ t. t.key_bits ≡ s.key_bits) (λ t. 8 * length t.key ≡ s.key_bits) seed vs
        (λ number place test same. omega (arith, eights, same, value_length seed vs place (test.key_bits / 8)))
        number place shape.tests keys

pub are_groups : (a : Algorithm) (seed : List ℕ) (vs draws : ℕ) (shapes : List ShapeValue) → All (IsShapeOf a) shapes
    → AreGroupsOf a (groups_after seed vs draws [] 1 shapes)
are_groups a seed vs draws shapes all =
    rw (← same_groups seed vs draws shapes) (record {
      numbered = groups_numbered seed vs 1 1 draws shapes;
      sized = all_groups (λ s. IsSized a s.form) (λ g. IsSized a g.form) seed vs
          (λ group number place shape sized. sized) 1 1 draws shapes (λ k d within. (all k d within).sized);
      each = all_groups (IsShapeOf a) (IsGroupOf a) seed vs
          (λ group number place shape fit. fit_group a seed vs group number place shape fit) 1 1 draws shapes all;
    })
