use Rattle.std.proofs.Common.{inr}
use Rattle.acvp_tables.specs.State.{state_of}
use Rattle.acvp_desk.proofs.FoundRows.{account_is, refused_caller, login_found, caller_found}
use Rattle.acvp_desk.proofs.AdmittedCaller.{row_is_there}
use Rattle.acvp_desk.proofs.find.find.Goals as goal

pub returns-in-Err-clause-refused : goal.returns-in-Err-clause-refused
returns-in-Err-clause-refused g c =
    inr (
      λ clean live. c.in-Ok-reviewer.ensures.looks.stays_open clean
          (c.in-Ok.ensures.looks.stays_open (c.in-Ok-reviewer.ensures.looks.was_clean clean) live),
      λ clean seeds content kept h. let before = c.in-Ok-reviewer.ensures.looks.was_clean clean in
          refused_caller c.args.moment c.args.body.now c.args.ask.now c.in-Ok.account c.in-Ok-reviewer.reviewer seeds
          (state_of content) c.in-Err.rule
          c.action.result c.unfound_facts-facts.result
          (account_is c.args.ask.now content c.in-Ok.account c.who.result c.who.ensures
          (c.in-Ok.ensures.found before seeds content kept h))
          (c.in-Ok-reviewer.ensures.found clean seeds content kept
          (λ up. c.in-Ok.ensures.looks.same up content (h (c.in-Ok.ensures.looks.was_open up))))
          c.action.ensures c.unfound_facts-facts.ensures c.in-Err.ensures.refused,
    )

pub returns-in-Login-clause-found : goal.returns-in-Login-clause-found
returns-in-Login-clause-found g c =
    λ clean seeds content kept h. let before = c.in-Ok-reviewer.ensures.looks.was_clean clean in
    login_found c.args.ask.now c.in-Login.login c.in-Ok.account seeds c.args.body.now (state_of content) c.in-Login.is
    (account_is c.args.ask.now content c.in-Ok.account c.who.result c.who.ensures
    (c.in-Ok.ensures.found before seeds content kept h))

pub returns-in-Ok-look_at-clause-found : goal.returns-in-Ok-look_at-clause-found
returns-in-Ok-look_at-clause-found g c =
    λ clean seeds content kept h.
    let reviewed = c.in-Ok-look_at.ensures.looks.was_clean clean in
    let before = c.in-Ok-reviewer.ensures.looks.was_clean reviewed in
    let up = row_is_there c.args.moment c.args.ask.now c.in-Caller.asked c.action.result c.unfound_facts-facts.result
    c.in-Ok.account c.in-Ok-reviewer.reviewer c.admit.result _
    c.in-Caller.is c.action.ensures c.unfound_facts-facts.ensures c.admit.ensures.judged c.in_default-admit.is
    c.in-Ok.ensures.open before in
    let live = c.in-Ok-look_at.ensures.looks.stays_open clean
    (c.in-Ok-reviewer.ensures.looks.stays_open reviewed up.1) in
    let late = c.in-Ok-look_at.ensures.looks.was_open live in
    let there = c.in-Ok.ensures.looks.same up.1 content (h up.0) in
    caller_found c.args.ask.now c.in-Caller.asked c.in-Ok.account c.in-Ok-reviewer.reviewer c.in-Ok-look_at.place
    c.acting.result seeds c.args.body.now (state_of content)
    c.in-Caller.is c.acting.ensures
    (account_is c.args.ask.now content c.in-Ok.account c.who.result c.who.ensures
    (c.in-Ok.ensures.found before seeds content kept h))
    (c.in-Ok-reviewer.ensures.found reviewed seeds content kept (λ _. there))
    (c.in-Ok-look_at.ensures.found live seeds content kept (c.in-Ok-reviewer.ensures.looks.same late content there))

pub returns-in-Ok-look_at-clause-open : goal.returns-in-Ok-look_at-clause-open
returns-in-Ok-look_at-clause-open g c =
    λ clean. (row_is_there c.args.moment c.args.ask.now c.in-Caller.asked c.action.result c.unfound_facts-facts.result
    c.in-Ok.account c.in-Ok-reviewer.reviewer c.admit.result _
    c.in-Caller.is c.action.ensures c.unfound_facts-facts.ensures c.admit.ensures.judged c.in_default-admit.is
    c.in-Ok.ensures.open
    (c.in-Ok-reviewer.ensures.looks.was_clean (c.in-Ok-look_at.ensures.looks.was_clean clean))).0
