-- Answers to tests: each a test's number and the texts that answer it.
use Rattle.std.specs.Prelude.{◌≡◌, ℕ, ◌==◌, List, length, map, string_bytes, Vec, String, Bool}
use Rattle.std.specs.List.{list_any, range_with_len}
use Rattle.std.specs.Global.{Global}
use Rattle.std.specs.Map.{keys_of}
use Rattle.std.specs.Ordering.{nat_cmp}
use Rattle.std.specs.List.Sorted.{IsStrictlySortedBy}

-- a test's number, and the texts that answer it
abbrev pub Answer : Type 0
Answer = ℕ × List (List ℕ)

-- the answers ascend by their numbers, each of which stands once
abbrev pub AreAscending : List Answer → Type 0
AreAscending answers = IsStrictlySortedBy nat_cmp (keys_of answers)

-- the answers are numbered from 1 on without gaps, so that a place tells its test's number
abbrev pub AreWithoutGaps : List Answer → Type 0
AreWithoutGaps answers = keys_of answers ≡ range_with_len 1 (length answers)

-- whether the test of a number is answered
abbrev pub is_answered : List Answer → ℕ → Bool
is_answered answers number = list_any (λ n. n == number) (keys_of answers)

-- the texts that a map keeps, and its entries, as contracts see them
abbrev pub Texts : Type 0
Texts = Vec (String Global) Global

abbrev pub shown_texts : Texts → List (List ℕ)
shown_texts texts = map string_bytes texts.items

abbrev pub shown : List (ℕ × Texts) → List Answer
shown entries = map (λ e. (e.0, shown_texts e.1)) entries
