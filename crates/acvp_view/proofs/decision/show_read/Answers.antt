use Rattle.std.proofs.Common.{◌∙◌, None, Some, subst, sym}
use Rattle.acvp_desk.specs.Kept.{IsKept}
use Rattle.acvp_desk.specs.declared.keys.Keys.{Keys}
use Rattle.acvp_view.specs.Decision.{token_for}
use Rattle.acvp_view.proofs.DecisionLemmas.{named_as}
use Rattle.acvp_view.proofs.decision.show_read.Goals as goal

pub returns-clause-read : goal.returns-clause-read
returns-clause-read g c = λ clean content kept h.
    let keys = c.in_ok-desk.ensures.keys in
    let it = c.args.certification in
    let told = c.in_ok-show_named.ensures.read (subst (λ t. g.T.Tables.meaning.is_clean t) c.into_tables.ensures clean)
    content (subst (λ (k : Keys). IsKept k.seed content) (sym keys) kept)
    (λ up. c.in_ok-desk.ensures.same up content h) in
    named_as c.args.form g.L.Lines.takes c.in_ok-desk.desk.keys c.args.keys c.args.moment c.as_str-2.result.now
    (token_for c.args.keys c.args.account (Some it.session) c.args.moment) c.as_str.result.now
    (token_for c.args.keys c.args.account None c.args.moment) it c.args.vendor content c.args.lines.now
    c.show_named.new.lines keys (c.as_str-2.ensures.value ∙ c.in_ok-bound.ensures)
    (c.as_str.ensures.value ∙ c.in_ok-own.ensures) told.0
