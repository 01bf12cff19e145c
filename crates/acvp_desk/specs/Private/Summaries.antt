-- Vector sets as the code reads them before a certification is approved.
use Rattle.std.specs.Prelude.{ℕ, List, length, Bool, ◌==◌, ◌&&◌}
use Rattle.std.specs.List.{list_all}
use Rattle.acvp_policy.specs.Conditions.{is_some_and}
use Rattle.acvp_tables.specs.Counted.{is_passed}
use Rattle.acvp_tables.specs.declared.summary.SetSummary.{SetSummary}

-- there are so many, and all have passed
abbrev pub summaries_passed : ℕ → List SetSummary → Bool
summaries_passed live sets =
    (length sets == live) && list_all (λ (set : SetSummary). is_some_and set.disposition is_passed) sets
