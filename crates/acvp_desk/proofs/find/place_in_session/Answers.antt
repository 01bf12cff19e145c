use Rattle.std.proofs.Common.{refl, ◌∙◌, arith}
use Rattle.std.proofs.lemmas.Bool.Decides.{nat_tests}
use Rattle.acvp_tables.specs.State.{state_of}
use Rattle.acvp_desk.specs.Place.{session_facts}
use Rattle.acvp_desk.proofs.Elsewhere.{no_place}
use Rattle.acvp_desk.proofs.SetLemmas.{no_set_elsewhere}
use Rattle.acvp_desk.proofs.find.place_in_session.Goals as goal

pub returns-then-number-session-clause-found : goal.returns-then-number-session-clause-found
returns-then-number-session-clause-found g c =
    λ live seeds content kept h. let state = state_of content in
    let none = no_set_elsewhere c.numbers_name.ensures.set
    (session_facts seeds state c.args.session) c.args.session c.args.number state kept.sound
    (grind (arith, nat_tests, c.if-number-session.true)) in
    let nothing = c.no_set_place.ensures.value
    ∙ no_place c.numbers_name.ensures.set seeds c.args.session c.args.number state c.args.wish kept.sound
    (grind (arith, nat_tests, c.if-number-session.true)) in
    rw (← none, nothing) refl

pub returns-clause-found : goal.returns-clause-found
returns-clause-found g c =
    λ live seeds content kept h. let up = c.in_ok-place.ensures.looks.was_open live in
    let first = c.in_ok-found.ensures.looks.was_open up in
    let rows = c.in_ok-rows.ensures.found first seeds content kept h in
    let at = c.in_ok-rows.ensures.looks.same first content h in
    let then = c.in_ok-found.ensures.looks.same up content at in
    rw (
      c.in_ok-found.ensures.found up seeds content kept (at, rows),
      c.in_ok-place.ensures.found live seeds content kept (then, rows),
    ) refl
