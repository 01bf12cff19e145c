use Rattle.std.proofs.Common.{ap, sym, ◌≡◌, Some, subst, ◌∙◌}
use Rattle.acvp_store.proofs.Words.{disposition_number, kept_text, verdicts_text, state}
use Rattle.acvp_store.proofs.Writings.{SetGraded, writes}
use Rattle.acvp_store.proofs.SetRows.{grade_effect}
use Rattle.acvp_store.proofs.sets.GradedSetWork.run.Goals as goal

pub returns-clause-inside : goal.returns-clause-inside
returns-clause-inside g c =
    let old = state g.S.Store c.args.tx.now.conn.now in
    let disposition_is = subst (λ x. disposition_number x ≡ Some c.in-Some.disposition) c.disposition.ensures.value
    c.in-Some.ensures.some in
    writes SetGraded _ _ _ _
    (rw (
      c.in_ok-number.ensures.1,
      c.to_sql.ensures,
      c.as_str.ensures.value,
      c.to_sql-2.ensures,
      c.as_str-2.ensures.value,
      c.to_sql-3.ensures,
    ) at c.perform.ensures.performed) _
    (λ layout. grade_effect layout old _ c.args.self.now.graded.now _ _ _
    (c.in_ok-answers.ensures.text ∙ ap kept_text c.answers.ensures)
    (c.in_ok-answers.ensures.reads_back ∙ ap Some c.answers.ensures)
    (c.in_ok-verdicts.ensures ∙ ap verdicts_text c.verdicts.ensures) disposition_is
    (sym c.disposition.ensures.value ∙ c.disposition.ensures.given))
