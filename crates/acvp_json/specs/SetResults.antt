-- The object of a vector set's results: what the set and each of its tests come to.
use Rattle.std.specs.Prelude.{ℕ, List, codes}
use Rattle.std.specs.List.{enumerate_from}
use Rattle.serde_json.specs.Data.{Data, string, object, no_members, member}
use Rattle.acvp_answers.specs.declared.verdict.Verdict.{Verdict}
use Rattle.acvp_answers.specs.declared.verdict.Verdict.TheVariants as verdict
use Rattle.acvp_answers.specs.declared.verdict.Disposition.{Disposition}
use Rattle.acvp_answers.specs.declared.verdict.Disposition.TheVariants as disposition
use Rattle.acvp_json.specs.Values.{count, array_of}

abbrev pub verdict_word : Verdict → List ℕ
verdict_word verdict.Passed = codes "passed"
verdict_word verdict.Fail = codes "fail"
verdict_word verdict.Missing = codes "missing"

abbrev pub disposition_word : Disposition → List ℕ
disposition_word disposition.Passed = codes "passed"
disposition_word disposition.Fail = codes "fail"
disposition_word disposition.Missing = codes "missing"
disposition_word disposition.Expired = codes "expired"
disposition_word disposition.Unreceived = codes "unreceived"

-- what a test comes to, and the test's number
abbrev pub result_data : ℕ × Verdict → Data
result_data (n, verdict) =
    object (member (codes "result") (string (verdict_word verdict))
    (member (codes "tcId") (count n) no_members))

-- what a vector set comes to, the results of its tests, which are numbered from 1 on, and its number
abbrev pub set_results_data : ℕ → Disposition → List Verdict → Data
set_results_data vs disposition verdicts =
    object (member (codes "disposition") (string (disposition_word disposition))
    (member (codes "tests") (array_of result_data (enumerate_from 1 verdicts))
    (member (codes "vsId") (count vs) no_members)))
