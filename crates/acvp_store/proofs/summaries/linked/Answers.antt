use Rattle.std.proofs.Common.{◌≡◌, Some, MatchOption, sym, ap, subst, ◌∙◌}
use Rattle.acvp_registry.specs.Url.{IsUrl}
use Rattle.acvp_store.proofs.Words.{option_map}
use Rattle.acvp_store.proofs.summaries.linked.Goals as goal

pub returns : goal.returns
returns c url at =
    let both : Some c.in_ok-url.url.now ≡ Some url = sym (ap (option_map (λ s. s.now)) c.in_ok-url.was)
    ∙ c.text_at.ensures ∙ at in
    let same : c.in_ok-url.url.now ≡ url = cc in
    subst (λ u. MatchOption c.url_number.result ((number : _) → ¬ IsUrl c.args.kind number u)
    (λ number. IsUrl c.args.kind number u)) same c.url_number.ensures.named
