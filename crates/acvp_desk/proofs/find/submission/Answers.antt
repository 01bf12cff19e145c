use Rattle.std.proofs.Common.{ap, sym, ◌∙◌, arith}
use Rattle.std.proofs.lemmas.Bool.Decides.{nat_tests}
use Rattle.acvp_tables.specs.Content.{set_at}
use Rattle.acvp_desk.specs.declared.find.SetRows.{SetRows}
use Rattle.acvp_desk.proofs.SetLemmas.{no_row}
use Rattle.acvp_desk.proofs.KeptAnswers.{no_set_is, set_is, set_is_off}
use Rattle.acvp_desk.proofs.find.submission.Goals as goal
use Rattle.acvp_desk.proofs.find.submission.Goals.{then-set-session-via-then-set-session}
use Rattle.acvp_desk.proofs.find.submission.Goals.{then-set-session-via-else-set-session+then-set}

pub returns-in_default-clause-found : goal.returns-in_default-clause-found
returns-in_default-clause-found g c =
    λ live seeds content kept h.
    no_set_is c.sets_are_there_once.ensures c.selections_follow.ensures.live_sets c.selections_follow.ensures.set
    seeds content c.args.session c.args.number
    (sym c.in_default.is ∙ ap (λ (rows : SetRows). rows.set) h.1)

pub returns-then-set-session-clause-found : goal.returns-then-set-session-clause-found
returns-then-set-session-clause-found g c =
    λ live seeds content kept h.
    set_is_off c.sets_are_there_once.ensures c.selections_follow.ensures.live_sets c.selections_follow.ensures.set
    seeds content c.args.session c.args.number
    c.in-Some.set (sym c.in-Some.is ∙ ap (λ (rows : SetRows). rows.set) h.1)
    (elim c.then-set-session.branch [
      | then-set-session-via-then-set-session w ↦ grind (arith, nat_tests, w.if-set-session)
      | then-set-session-via-else-set-session+then-set w ↦ grind (arith, nat_tests, w.if-set-session, w.if-set)
    ])

pub returns-in_default-2-clause-found : goal.returns-in_default-2-clause-found
returns-in_default-2-clause-found g c =
    λ live seeds content kept h.
    no_set_is c.sets_are_there_once.ensures c.selections_follow.ensures.live_sets c.selections_follow.ensures.set
    seeds content c.args.session c.args.number
    (no_row c.in-Some.set (set_at c.args.number content.sets)
    (sym c.in_default-2.is ∙ c.in_ok-source.ensures.found live seeds content kept h.0))

pub returns-clause-found : goal.returns-clause-found
returns-clause-found g c =
    λ live seeds content kept h.
    set_is c.sets_are_there_once.ensures c.selections_follow.ensures.live_sets c.selections_follow.ensures.set seeds
    content c.args.session c.args.number
    c.in-Some.set c.in-Some-2.source c.in-Some-session.row c.in-Some-checked_sub.others kept
    (sym c.in-Some.is ∙ ap (λ (rows : SetRows). rows.set) h.1)
    (grind (arith, nat_tests, c.if-set-session.false, c.if-set.false))
    (sym c.in-Some-2.is ∙ c.in_ok-source.ensures.found live seeds content kept h.0)
    (sym c.in-Some-session.is ∙ ap (λ (rows : SetRows). rows.session) h.1)
    (grind (arith, nat_tests, c.in-Some-checked_sub.ensures, c.one_if_passed.ensures))
