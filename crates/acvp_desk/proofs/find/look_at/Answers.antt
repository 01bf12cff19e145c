use Rattle.std.proofs.Common.{refl, sym, ap, ◌∙◌}
use Rattle.acvp_tables.specs.State.{state_of}
use Rattle.acvp_desk.specs.Place.{place_of}
use Rattle.acvp_desk.specs.declared.found.Place.TheVariants as place
use Rattle.acvp_desk.specs.declared.wish.Wish.TheVariants as wish
use Rattle.acvp_desk.proofs.find.look_at.Goals as goal

pub returns-in_ok-account_counts-in-Read-clause-found : goal.returns-in_ok-account_counts-in-Read-clause-found
returns-in_ok-account_counts-in-Read-clause-found g c =
    λ live seeds content kept h.
    ap place.Account (c.in_ok-account_counts-in-Read.ensures.found live seeds content kept h)
    ∙ sym (ap (place_of seeds c.args.account c.args.body.now (state_of content))
    (c.in-Account.is ∙ ap wish.Account c.in-Read.is))

pub returns-in_ok-session_count-in-NewSession-clause-found : goal.returns-in_ok-session_count-in-NewSession-clause-found
returns-in_ok-session_count-in-NewSession-clause-found g c =
    λ live seeds content kept h.
    rw (c.in-NewSession.is, c.in_ok-session_count-in-NewSession.ensures.found live seeds content kept h) refl

pub returns-in_ok-sessions_page-in-ListSessions-clause-found : goal.returns-in_ok-sessions_page-in-ListSessions-clause-found
returns-in_ok-sessions_page-in-ListSessions-clause-found g c =
    λ live seeds content kept h.
    rw (c.in-ListSessions.is, c.in_ok-sessions_page-in-ListSessions.ensures.found live seeds content kept h) refl

pub returns-in_ok-registry_place-in-Registry-clause-found : goal.returns-in_ok-registry_place-in-Registry-clause-found
returns-in_ok-registry_place-in-Registry-clause-found g c =
    λ live seeds content kept h.
    rw (c.in-Registry.is, c.in_ok-registry_place-in-Registry.ensures.found live seeds content kept h) refl

pub returns-in_ok-grounds-in-Certify-clause-found : goal.returns-in_ok-grounds-in-Certify-clause-found
returns-in_ok-grounds-in-Certify-clause-found g c =
    λ live seeds content kept h. let late = c.in_ok-grounds-in-Certify.ensures.looks.was_open live in
    let judged = c.in_ok-judge_own_sets-in-Certify.ensures.looks in
    let up = judged.was_open late in
    let there = judged.same late content (c.in_ok-found-in-Certify.ensures.looks.same up content h) in
    rw (
      c.in-Certify.is,
      ← c.in_ok-parts-in-Certify.ensures,
      c.in_ok-found-in-Certify.ensures.found up seeds content kept h,
      c.in_ok-grounds-in-Certify.ensures.found live seeds content kept there,
    ) refl

pub returns-in_ok-accounts-in-Reviewer-clause-found : goal.returns-in_ok-accounts-in-Reviewer-clause-found
returns-in_ok-accounts-in-Reviewer-clause-found g c =
    λ live seeds content kept h. let up = c.in_ok-accounts-in-Reviewer.ensures.looks.was_open live in
    rw (
      c.in-Reviewer.is,
      c.in_ok-found-in-Reviewer.ensures.found up seeds content kept h,
      c.in_ok-accounts-in-Reviewer.ensures.found live seeds content kept
          (c.in_ok-found-in-Reviewer.ensures.looks.same up content h),
    ) refl
