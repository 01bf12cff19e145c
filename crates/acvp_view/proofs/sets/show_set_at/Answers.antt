use Rattle.std.proofs.Common.{◌∙◌, option_map, sym}
use Rattle.acvp_tables.specs.Content.{set_at}
use Rattle.acvp_view.proofs.DecisionLemmas.{row_texts}
use Rattle.acvp_view.proofs.LineLemmas.{ok_then}
use Rattle.acvp_view.proofs.sets.show_set_at.Goals as goal

pub returns-clause-told : goal.returns-clause-told
returns-clause-told g c = λ live.
    let up2 = c.in_ok-verdicts.ensures.reads.was_open live in
    let up1 = c.in_ok-capability.ensures.reads.was_open up2 in
    ok_then c.show_set.result c.show_set.ensures.taken (λ shown.
    let (texts, are, taken) = shown in
    λ content well h.
    let h1 = c.in_ok-set.ensures.reads.same up1 content h in
    let h2 = c.in_ok-capability.ensures.reads.same up2 content h1 in (
      texts,
      row_texts c.args.form (set_at c.args.number content.sets) c.in-Some.set c.in-Some-2.capability
          (option_map (λ v. v.items) c.in_ok-verdicts.verdicts) texts
          (sym c.in-Some.is ∙ c.in_ok-set.ensures.found up1 content well h)
          (sym c.in-Some-2.is ∙ c.in_ok-capability.ensures.found up2 content well h1)
          (c.in_ok-verdicts.ensures.found live content well h2) are,
      taken,
    ))
