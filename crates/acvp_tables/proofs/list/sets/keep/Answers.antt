use Rattle.acvp_tables.specs.Changes.{is_set, with_graded}
use Rattle.acvp_tables.proofs.OnceLemmas.{changed_none, changed_at}
use Rattle.acvp_tables.proofs.list.sets.keep.Goals as goal

-- src/list/sets.rt:120:1
pub returns-in-Some : goal.returns-in-Some
returns-in-Some c = λ once.
    changed_at (is_set c.args.number) (with_graded c.args.graded) c.args.rows.now c.in-Some.place _ c.in-Some.ensures.0
    (c.in-Some.ensures.1 _) once

-- src/list/sets.rt:120:1
pub returns-in_default : goal.returns-in_default
returns-in_default c = λ once.
    changed_none (is_set c.args.number) (with_graded c.args.graded) c.args.rows.now c.in_default.ensures
