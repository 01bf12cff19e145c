use Rattle.std.proofs.Common.{rules, ◌≡◌, Some, string_bytes, sym, ap, subst, ◌∙◌}
use Rattle.serde_json.specs.View.{view}
use Rattle.serde_json.specs.Written.{compact_text}
use Rattle.acvp_store.proofs.Words.{body_json, certification_data}
use Rattle.acvp_store.proofs.CertificationTexts.{has_environment, has_module, same_certification}
use Rattle.acvp_store.proofs.summaries.certification.Goals as goal

pub returns-clause-refused : goal.returns-clause-refused
returns-clause-refused c refused d reads fits written =
    let is : body_json (string_bytes c.args.text) ≡ Some (view c.in_ok-value.value) =
    subst (λ t. body_json t ≡ Some (view c.in_ok-value.value)) c.as_str.ensures.value c.in_ok-value.ensures.value in
    let found = same_certification d (view c.in_ok-value.value)
    (string_bytes c.args.text) c.in-Some.module c.in-Some-linked.environment c.in-Some-number_at.session is
    c.in-Some.ensures c.in-Some-linked.ensures (sym c.in-Some-number_at.ensures) reads written in
    let text : string_bytes c.in_ok-written.written ≡ string_bytes c.args.text = c.in_ok-written.ensures.text
    ∙ ap (λ x. compact_text (certification_data x)) found ∙ sym written in
    search rules

pub returns-in_default-clause-refused : goal.returns-in_default-clause-refused
returns-in_default-clause-refused c refused d reads fits written =
    let is : body_json (string_bytes c.args.text) ≡ Some (view c.in_ok-value.value) =
    subst (λ t. body_json t ≡ Some (view c.in_ok-value.value)) c.as_str.ensures.value c.in_ok-value.ensures.value in
    has_module d (view c.in_ok-value.value) (string_bytes c.args.text) is reads fits written
    (λ url at. c.in_default.ensures url at)

pub returns-in_default-linked-clause-refused : goal.returns-in_default-linked-clause-refused
returns-in_default-linked-clause-refused c refused d reads fits written =
    let is : body_json (string_bytes c.args.text) ≡ Some (view c.in_ok-value.value) =
    subst (λ t. body_json t ≡ Some (view c.in_ok-value.value)) c.as_str.ensures.value c.in_ok-value.ensures.value in
    has_environment d (view c.in_ok-value.value) (string_bytes c.args.text) is reads fits written
    (λ url at. c.in_default-linked.ensures url at)

pub returns-then-eq-clause-known : goal.returns-then-eq-clause-known
returns-then-eq-clause-known c d reads written =
    let is : body_json (string_bytes c.args.text) ≡ Some (view c.in_ok-value.value) =
    subst (λ t. body_json t ≡ Some (view c.in_ok-value.value)) c.as_str.ensures.value c.in_ok-value.ensures.value in
    same_certification d (view c.in_ok-value.value)
    (string_bytes c.args.text) c.in-Some.module c.in-Some-linked.environment c.in-Some-number_at.session is
    c.in-Some.ensures c.in-Some-linked.ensures (sym c.in-Some-number_at.ensures) reads written
