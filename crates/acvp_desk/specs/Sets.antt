-- What the records hold of a vector set.
use Rattle.std.specs.Prelude.{ℕ, List, length, filter, Bool, false, not, ◌&&◌, ◌==◌, if◌then◌else◌}
use Rattle.std.specs.Prelude.{slice_get, Option, Some, None, option_map, option_and_then, is_some}
use Rattle.acvp_answers.specs.Answer.{Answer}
use Rattle.acvp_answers.specs.Standards.{standard_of}
use Rattle.acvp_answers.specs.Verdicts.{verdicts_of, disposition_of}
use Rattle.acvp_answers.specs.declared.verdict.Disposition.{Disposition}
use Rattle.acvp_answers.specs.declared.verdict.Verdict.{Verdict}
use Rattle.acvp_gen.specs.Prompts.{prompts_of}
use Rattle.acvp_policy.specs.Conditions.{is_some_and}
use Rattle.acvp_policy.specs.declared.facts.SessionFacts.{SessionFacts}
use Rattle.acvp_policy.specs.declared.facts.SetFacts.{SetFacts}
use Rattle.acvp_tables.specs.Content.{is_reviewer}
use Rattle.acvp_tables.specs.Counted.{is_passed}
use Rattle.acvp_tables.specs.State.{State, SetRecord, live_records, set_record_at}
use Rattle.acvp_desk.specs.declared.found.SetSource.{SetSource}
use Rattle.acvp_desk.specs.declared.found.Submission.{Submission}
use Rattle.acvp_desk.specs.declared.found.ByPrompts.TheVariants as by_prompts
use Rattle.acvp_desk.specs.declared.found.SetPlace.{SetPlace}
use Rattle.acvp_desk.specs.declared.found.SetPlace.TheVariants as in_set
use Rattle.acvp_desk.specs.declared.wish.SetWish.{SetWish}
use Rattle.acvp_desk.specs.declared.wish.SetWish.TheVariants as on_set

-- ---- how it stands

abbrev pub facts_of_set : SessionFacts → SetRecord → SetFacts
facts_of_set session row = record { session = session; cancelled = row.cancelled; answered = is_some row.answers }

-- a vector set is looked up in a session: one of another session isn't there
abbrev pub if_in_session : ℕ → SetRecord → Option SetRecord
if_in_session session row = if row.session == session then Some row else None

abbrev pub set_in_session : ℕ → ℕ → List SetRecord → Option SetRecord
set_in_session session n sets = option_and_then (if_in_session session) (set_record_at n sets)

-- how the vector set of a number stands in a session that stands so
unfoldable pub set_facts : Option SessionFacts → ℕ → ℕ → List SetRecord → Option SetFacts
set_facts facts session n sets =
    option_and_then (λ of. option_map (facts_of_set of) (set_in_session session n sets)) facts

-- whether the account that acts is let in as a reviewer of the set's session, and reviews it
abbrev pub set_reviewed : SetWish → ℕ → ℕ → State → Bool
set_reviewed on_set.Results session u state = is_reviewer session u state.reviewers
set_reviewed _ session u state = false

-- ---- what a reply shows

-- what its prompts are made from, beside its number and the seed
abbrev pub source_of : SetRecord → SetSource
source_of row = record { capability = row.capability; epoch = row.epoch }

-- of the set of a number in a session
abbrev pub set_source : ℕ → ℕ → List SetRecord → Option SetSource
set_source session n sets = option_map source_of (set_in_session session n sets)

-- the verdicts on answers to it, worked out anew under the seed
abbrev pub answers_verdicts : List ℕ → SetRecord → List Answer → List Verdict
answers_verdicts seed row answers = verdicts_of (standard_of (prompts_of seed row.number row.capability)) answers

abbrev pub verdicts_under : SetRecord → Option (List ℕ) → Option (List Answer) → Option (List Verdict)
verdicts_under row None answers = None
verdicts_under row (Some seed) None = None
verdicts_under row (Some seed) (Some answers) = Some (answers_verdicts seed row answers)

-- the verdicts under the seed of its epoch, where it has answers
unfoldable pub verdicts_on_set : List (List ℕ) → SetRecord → Option (List Verdict)
verdicts_on_set seeds row = verdicts_under row (slice_get seeds row.epoch) row.answers

-- of the set of a number in a session
abbrev pub verdicts_in_session : List (List ℕ) → ℕ → ℕ → List SetRecord → Option (List Verdict)
verdicts_in_session seeds session n sets = option_and_then (verdicts_on_set seeds) (set_in_session session n sets)

-- the verdicts; or, where there are no answers, what the prompts are made from
abbrev pub results_place : Option (List Verdict) → Option SetSource → SetPlace
results_place (Some verdicts) source = in_set.Verdicts verdicts
results_place None source = in_set.Made by_prompts.Results source

-- ---- what its answers come to

-- what the answers to a vector set come to under the seed of its epoch, where it has any
unfoldable pub set_disposition : List (List ℕ) → SetRecord → Option Disposition
set_disposition seeds row = option_map disposition_of (verdicts_on_set seeds row)

-- whether a vector set has answers that pass
abbrev pub set_passes : List (List ℕ) → SetRecord → Bool
set_passes seeds row = is_some_and (set_disposition seeds row) is_passed

-- ---- what answers to it are graded by, and counted with

abbrev pub if_live_in : ℕ → SetRecord → Option SetRecord
if_live_in session row = if (row.session == session) && not row.cancelled then Some row else None

-- how many vector sets of the session beside it aren't cancelled and pass
abbrev pub others_passed : List (List ℕ) → ℕ → ℕ → List SetRecord → ℕ
others_passed seeds session n sets =
    length (filter (λ row. not (row.number == n) && set_passes seeds row) (live_records session sets))

abbrev pub submission_to : List (List ℕ) → ℕ → ℕ → List SetRecord → SetRecord → Submission
submission_to seeds session n sets row = record { source = source_of row; others = others_passed seeds session n sets }

-- where it is of the session and isn't cancelled
unfoldable pub submission_for : List (List ℕ) → ℕ → ℕ → List SetRecord → Option Submission
submission_for seeds session n sets =
    option_map (submission_to seeds session n sets) (option_and_then (if_live_in session) (set_record_at n sets))

-- ---- what is found of it

abbrev pub set_place : List (List ℕ) → ℕ → ℕ → List SetRecord → SetWish → SetPlace
set_place seeds session n sets on_set.Read = in_set.Made by_prompts.Prompts (set_source session n sets)
set_place seeds session n sets on_set.Expected = in_set.Made by_prompts.Expected (set_source session n sets)
set_place seeds session n sets on_set.Results =
    results_place (verdicts_in_session seeds session n sets) (set_source session n sets)
set_place seeds session n sets on_set.Submit = in_set.Submit (submission_for seeds session n sets)
set_place seeds session n sets on_set.Resubmit = in_set.Resubmit (submission_for seeds session n sets)

-- and of one that isn't there
abbrev pub no_set_place : SetWish → SetPlace
no_set_place on_set.Read = in_set.Made by_prompts.Prompts None
no_set_place on_set.Expected = in_set.Made by_prompts.Expected None
no_set_place on_set.Results = in_set.Made by_prompts.Results None
no_set_place on_set.Submit = in_set.Submit None
no_set_place on_set.Resubmit = in_set.Resubmit None

-- what was asked
abbrev pub set_wish : SetPlace → SetWish
set_wish (in_set.Made by_prompts.Prompts source) = on_set.Read
set_wish (in_set.Made by_prompts.Expected source) = on_set.Expected
set_wish (in_set.Made by_prompts.Results source) = on_set.Results
set_wish (in_set.Verdicts verdicts) = on_set.Results
set_wish (in_set.Submit submission) = on_set.Submit
set_wish (in_set.Resubmit submission) = on_set.Resubmit
