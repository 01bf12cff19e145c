use Rattle.std.proofs.Common.{inl, sym, ◌∙◌}
use Rattle.acvp_desk.specs.Desk.{keys_of}
use Rattle.acvp_desk.specs.Request.{request_value}
use Rattle.acvp_desk.proofs.ServeExits.{refused_at_once, refused_caller, refused, given_read, given_changed, failed}
use Rattle.acvp_desk.proofs.NamedLemmas.{named_first, named_given, named_known}
use Rattle.acvp_desk.proofs.serve.serve.Goals as goal

pub returns-in-Err-clause-served : goal.returns-in-Err-clause-served
returns-in-Err-clause-served g c =
    refused_at_once g.T.Tables.meaning (keys_of c.args.ring.now c.args.cache.now.seeds) c.args.moment
    (request_value c.args.request.now)
    (c.records_are_kept.ensures.request (keys_of c.args.ring.now c.args.cache.now.seeds) c.args.moment
    (request_value c.args.request.now))
    g.met.T.Tables.rests c.in-Err.rule c.args.tables.now c.in-Err.ensures.clock c.in-Err.ensures.err

pub returns-in-Err-find-clause-served : goal.returns-in-Err-find-clause-served
returns-in-Err-find-clause-served g c =
    refused_caller g.T.Tables.meaning (keys_of c.args.ring.now c.args.cache.now.seeds) c.args.moment
    (request_value c.args.request.now)
    (c.records_are_kept.ensures.request (keys_of c.args.ring.now c.args.cache.now.seeds) c.args.moment
    (request_value c.args.request.now))
    c.in-Ok.ensures.moment c.in-Ok.ask c.in-Ok.ensures.ok.0
    (c.in-Ok.ensures.ok.1 c.args.cache.now.seeds) c.args.tables.now c.find.new.tables c.in-Err-find.rule
    c.in-Err-find.ensures.looks c.in-Err-find.ensures.nobody c.in-Err-find.ensures.refused

pub returns-in-Err-plan-clause-served : goal.returns-in-Err-plan-clause-served
returns-in-Err-plan-clause-served g c =
    refused g.T.Tables.meaning (keys_of c.args.ring.now c.args.cache.now.seeds) c.args.moment
    (request_value c.args.request.now)
    (c.records_are_kept.ensures.request (keys_of c.args.ring.now c.args.cache.now.seeds) c.args.moment
    (request_value c.args.request.now))
    c.in-Ok.ensures.moment c.in-Ok.ask c.in-Ok.ensures.ok.0
    (c.in-Ok.ensures.ok.1 c.args.cache.now.seeds) c.args.tables.now c.find.new.tables c.in-Ok-find.found
    c.in-Ok-find.ensures.looks c.in-Ok-find.ensures.nobody c.in-Ok-find.ensures.found c.in-Err-plan.rule
    c.in-Err-plan.ensures.denied

pub returns-in-None-clause-served : goal.returns-in-None-clause-served
returns-in-None-clause-served g c =
    given_read g.T.Tables.meaning (keys_of c.args.ring.now c.args.cache.now.seeds) c.args.moment
    (request_value c.args.request.now)
    (c.records_are_kept.ensures.request (keys_of c.args.ring.now c.args.cache.now.seeds) c.args.moment
    (request_value c.args.request.now))
    c.in-Ok.ensures.moment c.in-Ok.ask c.in-Ok.ensures.ok.0
    (c.in-Ok.ensures.ok.1 c.args.cache.now.seeds) c.args.tables.now c.find.new.tables c.in-Ok-find.found
    c.in-Ok-find.ensures.looks c.in-Ok-find.ensures.nobody c.in-Ok-find.ensures.found c.in-Ok-plan.allowed.draft.reply
    c.in-Ok-plan.ensures.held
    c.in-Ok-plan.ensures.reply (sym c.in-None.is ∙ c.in-Ok-plan.ensures.change)

pub returns-in-Ok-apply-clause-served : goal.returns-in-Ok-apply-clause-served
returns-in-Ok-apply-clause-served g c =
    given_changed g.T.Tables.meaning (keys_of c.args.ring.now c.args.cache.now.seeds) c.args.moment
    (request_value c.args.request.now)
    (c.records_are_kept.ensures.request (keys_of c.args.ring.now c.args.cache.now.seeds) c.args.moment
    (request_value c.args.request.now))
    c.in-Ok.ensures.moment c.in-Ok.ask c.in-Ok.ensures.ok.0
    (c.in-Ok.ensures.ok.1 c.args.cache.now.seeds) c.args.tables.now c.find.new.tables c.in-Ok-find.found
    c.in-Ok-find.ensures.looks c.in-Ok-find.ensures.nobody c.in-Ok-find.ensures.found c.in-Ok-plan.allowed.draft.reply
    c.in-Ok-plan.ensures.held
    c.in-Ok-plan.ensures.reply c.in-Some.change
    (sym c.in-Some.is ∙ c.in-Ok-plan.ensures.change) c.in-Ok-find.ensures.open c.in-Ok-find.ensures.named
    c.apply.new.self
    g.T.Tables.faults _ c.in-Ok-apply.ensures

pub returns-in-Err-apply-clause-served : goal.returns-in-Err-apply-clause-served
returns-in-Err-apply-clause-served g c =
    failed g.T.Tables.meaning (keys_of c.args.ring.now c.args.cache.now.seeds) c.args.moment
    (request_value c.args.request.now)
    (c.records_are_kept.ensures.request (keys_of c.args.ring.now c.args.cache.now.seeds) c.args.moment
    (request_value c.args.request.now))
    c.in-Ok.ensures.moment c.in-Ok.ask c.in-Ok.ensures.ok.0
    (c.in-Ok.ensures.ok.1 c.args.cache.now.seeds) c.args.tables.now c.find.new.tables c.in-Ok-find.found
    c.in-Ok-find.ensures.looks c.in-Ok-find.ensures.nobody c.in-Ok-find.ensures.found c.in-Ok-plan.allowed.draft.reply
    c.in-Ok-plan.ensures.held
    c.in-Ok-plan.ensures.reply c.in-Some.change
    (sym c.in-Some.is ∙ c.in-Ok-plan.ensures.change) c.in-Ok-find.ensures.open c.in-Ok-find.ensures.named
    c.apply.new.self
    g.T.Tables.faults _ c.in-Err-apply.ensures

pub returns-in-Err-clause-named : goal.returns-in-Err-clause-named
returns-in-Err-clause-named g c =
    named_first (keys_of c.args.ring.now c.args.cache.now.seeds) c.args.moment
    (request_value c.args.request.now) c.args.tables.now c.in-Err.rule c.in-Err.ensures.err

pub returns-in-Err-find-clause-named : goal.returns-in-Err-find-clause-named
returns-in-Err-find-clause-named g c =
    inl (c.verified_account.ensures ∙ named_known (keys_of c.args.ring.now c.args.cache.now.seeds) c.args.moment
    (request_value c.args.request.now) c.in-Ok.ask (c.in-Ok.ensures.ok.1 c.args.cache.now.seeds))

pub returns-in-Err-plan-clause-named : goal.returns-in-Err-plan-clause-named
returns-in-Err-plan-clause-named g c =
    inl (c.verified_account-in-Err-plan.ensures ∙ named_known (keys_of c.args.ring.now c.args.cache.now.seeds) c.args.moment
    (request_value c.args.request.now) c.in-Ok.ask (c.in-Ok.ensures.ok.1 c.args.cache.now.seeds))

pub returns-in-Err-apply-clause-named : goal.returns-in-Err-apply-clause-named
returns-in-Err-apply-clause-named g c =
    inl (c.verified_account-in-Err-apply.ensures ∙ named_known (keys_of c.args.ring.now c.args.cache.now.seeds) c.args.moment
    (request_value c.args.request.now) c.in-Ok.ask (c.in-Ok.ensures.ok.1 c.args.cache.now.seeds))

pub returns-in-None-clause-named : goal.returns-in-None-clause-named
returns-in-None-clause-named g c =
    c.who.ensures ∙ named_given (keys_of c.args.ring.now c.args.cache.now.seeds) c.args.moment
    (request_value c.args.request.now) c.in-Ok.ask (c.in-Ok.ensures.ok.1 c.args.cache.now.seeds) c.in-Ok.ensures.ok.0

pub returns-in-Ok-apply-clause-named : goal.returns-in-Ok-apply-clause-named
returns-in-Ok-apply-clause-named g c =
    c.who-in-Ok-apply.ensures ∙ named_given (keys_of c.args.ring.now c.args.cache.now.seeds) c.args.moment
    (request_value c.args.request.now) c.in-Ok.ask (c.in-Ok.ensures.ok.1 c.args.cache.now.seeds) c.in-Ok.ensures.ok.0
