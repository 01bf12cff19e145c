use Rattle.std.proofs.Common.{◌∙◌, ap}
use Rattle.std.specs.Str.{str_eq_ignore_ascii_case}
use Rattle.acvp_http.proofs.FieldLemmas.{values_of_step, within_step, few_step}
use Rattle.acvp_http.proofs.framing.field_values_of.Goals as goal

pub loop-header-preserved : goal.loop-header-preserved
loop-header-preserved c = record {
  found = values_of_step c.args.block.now c.args.name.now c.loop-header.found c.push_if.new.self c.args.headers.now
      c.loop-header.header-index _ c.is_named.result _ c.loop-header-test.true c.push_if.ensures
      (c.is_named.ensures ∙ ap
      (λ name. str_eq_ignore_ascii_case name c.args.name.now) c.of.ensures) c.loop-header.invariant.found;
  within = within_step _ c.loop-header.found c.push_if.new.self c.args.headers.now c.loop-header.header-index _
      c.is_named.result c.loop-header-test.true c.push_if.ensures c.requires.within c.loop-header.invariant.within;
  few = few_step c.loop-header.found c.push_if.new.self c.args.headers.now c.loop-header.header-index _
      c.is_named.result c.push_if.ensures c.loop-header.invariant.few;
}
