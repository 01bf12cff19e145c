use Rattle.std.proofs.Common.{◌≡◌, sym, ◌∙◌, ap, subst, Some, None, option_map, string_bytes}
use Rattle.serde_json.specs.View.{view}
use Rattle.serde_json.specs.Written.{has_float}
use Rattle.acvp_registry.specs.Object.{KeptObject, object_fault}
use Rattle.acvp_registry.specs.Url.{url_of}
use Rattle.acvp_registry.proofs.ObjectLemmas.{with_url-is, with_url-no_float}
use Rattle.acvp_registry.proofs.object.with_url.Goals as goal

pub returns-in_ok-put_url-in-Some-clause-value : goal.returns-in_ok-put_url-in-Some-clause-value
returns-in_ok-put_url-in-Some-clause-value c =
    c.in_ok-put_url-in-Some.ensures
    ∙ with_url-is c.args.object.now c.args.number (view c.in_ok-value.value) (Some (string_bytes c.in-Some.url))
    (c.in_ok-value.ensures.cases ∙ ap (λ (o : KeptObject). o.value) c.object.view_is)
    (ap (option_map string_bytes) (sym c.in-Some.is) ∙ c.in_ok-url.ensures
    ∙ ap (λ (o : KeptObject). url_of o.kind c.args.number) c.object.view_is)

pub returns-in_ok-put_url-in-Some-clause-plain : goal.returns-in_ok-put_url-in-Some-clause-plain
returns-in_ok-put_url-in-Some-clause-plain c =
    ap has_float (returns-in_ok-put_url-in-Some-clause-value c)
    ∙ with_url-no_float c.args.object.now c.args.number
    (subst (λ (o : KeptObject). object_fault o.kind o.value ≡ None) c.object.view_is c.object.invariant.fit)

pub returns-in-None-clause-value : goal.returns-in-None-clause-value
returns-in-None-clause-value c =
    with_url-is c.args.object.now c.args.number (view c.in_ok-value.value) None
    (c.in_ok-value.ensures.cases ∙ ap (λ (o : KeptObject). o.value) c.object.view_is)
    (ap (option_map string_bytes) (sym c.in-None.is) ∙ c.in_ok-url.ensures
    ∙ ap (λ (o : KeptObject). url_of o.kind c.args.number) c.object.view_is)
