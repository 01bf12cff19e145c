use Rattle.std.proofs.Common.{◌≡◌, ◌∙◌, ap, map, rules, string_bytes}
use Rattle.std.specs.List.{join_by}
use Rattle.acvp_view.specs.Certificate.{between_sets}
use Rattle.acvp_view.proofs.CertificateLemmas.{join_by-map}
use Rattle.acvp_view.proofs.certificate.sets_text.Goals as goal

pub returns : goal.returns
returns c = let is : c.deref.result.now ≡ c.in_ok-texts.texts.items = search rules in
    c.in_ok-text.ensures.ok ∙ ap (λ between. join_by string_bytes between c.deref.result.now) c.between_sets.ensures
    ∙ join_by-map string_bytes (between_sets c.args.page) c.deref.result.now
    ∙ ap (join_by (λ text. text) (between_sets c.args.page)) (ap (map string_bytes) is ∙ c.in_ok-texts.ensures)
