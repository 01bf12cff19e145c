use Rattle.std.proofs.Common.{inr, refl, sym, ◌∙◌}
use Rattle.serde_json.specs.View.{view}
use Rattle.acvp_registry.proofs.JsonLemmas.{body_json-read, body_json-none}
use Rattle.acvp_registry.proofs.json.body_value.Goals as goal

pub returns-in-Ok-2 : goal.returns-in-Ok-2
returns-in-Ok-2 c = body_json-read c.args.body.now (view c.in-Ok.value) c.in-Ok.ensures.ok.0 c.in-Ok.ensures.ok.1
    (sym c.has_float.ensures ∙ c.if-has_float.false)

pub returns-in-Err-2 : goal.returns-in-Err-2
returns-in-Err-2 c = inr (
  refl,
  body_json-none c.args.body.now (c.in-Err.ensures.err (λ memory. let told = c.is_memory.ensures.1 memory in cc)),
)
