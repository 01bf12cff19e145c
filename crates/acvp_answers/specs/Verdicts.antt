-- What answers come to, compared with the standard's.
use Rattle.std.specs.Prelude.{ℕ, List, map, Bool, true, false, if◌then◌else◌, Option, None, Some}
use Rattle.std.specs.List.{list_any}
use Rattle.std.specs.BTreeMap.{is_at}
use Rattle.std.specs.Map.{lookup}
use Rattle.std.specs.Ordering.{nat_cmp}
use Rattle.std.specs.Str.{bytes_eq, str_to_ascii_lowercase}
use Rattle.std.specs.Cmp.Lexicographic.{pointwise}
use Rattle.acvp_answers.specs.Answer.{Answer}
use Rattle.acvp_answers.specs.declared.verdict.Verdict.{Verdict}
use Rattle.acvp_answers.specs.declared.verdict.Verdict.TheVariants as verdict
use Rattle.acvp_answers.specs.declared.verdict.Disposition.{Disposition}
use Rattle.acvp_answers.specs.declared.verdict.Disposition.TheVariants as disposition

-- the text with its ASCII letters in lower case is this one
abbrev pub is_lowered_to : List ℕ → List ℕ → Bool
is_lowered_to given wanted = bytes_eq (str_to_ascii_lowercase given) wanted

-- the same of each text of a list
abbrev pub are_lowered_to : List (List ℕ) → List (List ℕ) → Bool
are_lowered_to given wanted = pointwise is_lowered_to given wanted

-- an answer, if any, against the standard's texts
abbrev pub verdict_on : Option (List (List ℕ)) → List (List ℕ) → Verdict
verdict_on None wanted = verdict.Missing
verdict_on (Some given) wanted = if are_lowered_to given wanted then verdict.Passed else verdict.Fail

-- the texts that answer the test of a number
abbrev pub answer_to : List Answer → ℕ → Option (List (List ℕ))
answer_to answers number = lookup (is_at (nat_cmp number)) answers

-- the verdicts on the standard's tests, in their order
abbrev pub verdicts_of : List Answer → List Answer → List Verdict
verdicts_of standard given = map (λ s. verdict_on (answer_to given s.0) s.1) standard

abbrev pub is_fail : Verdict → Bool
is_fail verdict.Passed = false
is_fail verdict.Fail = true
is_fail verdict.Missing = false

abbrev pub is_missing : Verdict → Bool
is_missing verdict.Passed = false
is_missing verdict.Fail = false
is_missing verdict.Missing = true

-- fail if some verdict is, else missing if some is, else passed
abbrev pub disposition_of : List Verdict → Disposition
disposition_of verdicts =
    if list_any is_fail verdicts then disposition.Fail
    else if list_any is_missing verdicts then disposition.Missing
    else disposition.Passed
