-- The rows of a vector set and of the session of a path, as the code holds them between its reads; and what they tell.
use Rattle.std.specs.Prelude.{ℕ, ◌==◌, if◌then◌else◌, Option, Some, None, option_and_then, option_map, is_some}
use Rattle.acvp_policy.specs.declared.facts.SessionFacts.{SessionFacts}
use Rattle.acvp_policy.specs.declared.facts.SetFacts.{SetFacts}
use Rattle.acvp_tables.specs.Content.{Content, session_at, set_at, set_summary}
use Rattle.acvp_tables.specs.declared.rows.SetRow.{SetRow}
use Rattle.acvp_tables.specs.declared.summary.SetSummary.{SetSummary}
use Rattle.acvp_desk.specs.declared.find.SetRows.{SetRows}
use Rattle.acvp_desk.specs.declared.found.SetSource.{SetSource}

abbrev pub rows_in : ℕ → ℕ → Content → SetRows
rows_in session n c = record { session = session_at session c.sessions; set = option_map set_summary (set_at n c.sets) }

-- how a vector set stands, where it is of the session of a number, which stands so
abbrev pub if_summary_in : ℕ → SetSummary → Option SetSummary
if_summary_in session set = if set.session == session then Some set else None

abbrev pub facts_of_summary : SessionFacts → SetSummary → SetFacts
facts_of_summary facts set = record { session = facts; cancelled = set.cancelled; answered = is_some set.disposition }

abbrev pub set_facts_from : ℕ → SessionFacts → Option SetSummary → Option SetFacts
set_facts_from session facts set = option_map (facts_of_summary facts) (option_and_then (if_summary_in session) set)

-- what its prompts are made from, whose capability is read of the row that is kept
abbrev pub source_with : SetSummary → SetRow → SetSource
source_with set row = record { capability = row.capability; epoch = set.epoch }

abbrev pub source_from : Option SetSummary → Option SetRow → Option SetSource
source_from set row = option_and_then (λ set. option_map (source_with set) row) set
