use Rattle.std.proofs.Common.{[], ◌∷◌, option_map, refl}
use Rattle.acvp_view.specs.Decision.{capability_text, results_texts}
use Rattle.acvp_view.proofs.EscapeLemmas.{takes_shown_both}
use Rattle.acvp_view.proofs.LineLemmas.{ok_then}
use Rattle.acvp_view.proofs.sets.show_set.Goals as goal

pub returns-clause-taken : goal.returns-clause-taken
returns-clause-taken g c =
    let (text, reads, taken) = c.in_ok-show_capability.ensures.taken in
    let set = c.args.set.now in
    let first = capability_text c.args.form set.number set.cancelled text in
    let results = results_texts c.args.form set.number set.disposition (option_map (λ v. v.items) c.args.verdicts.now)
    in
    ok_then c.show_results.result c.show_results.ensures.taken (λ more. (
      first ∷ results,
      record { capability_read = text; reads_back = reads; are = refl },
      takes_shown_both c.args.form g.L.Lines.takes (first ∷ []) results c.args.lines.now c.show_capability.new.lines
          c.show_results.new.lines taken more,
    ))
