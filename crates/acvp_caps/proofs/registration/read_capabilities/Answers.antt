use Rattle.std.proofs.Common.{inl, inr, rules}
use Rattle.std.proofs.lemmas.Result.{err_from_is_err_and}
use Rattle.serde_json.specs.View.{view}
use Rattle.acvp_caps.specs.Registered.{capability_at, capability_conditions}
use Rattle.acvp_caps.proofs.DomainItemLemmas.{kept-more}
use Rattle.acvp_mac.proofs.ConditionLemmas.{holds-more, first-fault}
use Rattle.acvp_caps.proofs.registration.read_capabilities.Goals as goal

pub returns-in_err-capability-clause-err : goal.returns-in_err-capability-clause-err
returns-in_err-capability-clause-err c =
    let p = err_from_is_err_and c.from_residual.result c.from_residual.ensures.1 in
    rw (p.1, p.2) (elim c.in_err-capability.ensures [
      | inl memory ↦ inl memory
      | inr broken ↦ inr (first-fault capability_conditions view c.args.values.now c.loop-value.value-index
          c.value-item.result c.in_err-capability.field-0.0
          c.loop-value-test.true c.value-item.is c.loop-value.invariant.passed broken)
    ])

pub loop-value-preserved : goal.loop-value-preserved
loop-value-preserved c = record {
  read = kept-more capability_at view c.args.values.now c.loop-value.value-index c.value-item.result
      c.loop-value.capabilities.items c.push.new.self.items c.in_ok-capability.capability
      c.loop-value-test.true c.value-item.is c.loop-value.invariant.read c.in_ok-capability.ensures.1
      c.in_ok-push.ensures.items;
  count = search rules;
  passed = holds-more capability_conditions view c.args.values.now c.loop-value.value-index c.value-item.result
      c.loop-value-test.true c.value-item.is c.loop-value.invariant.passed c.in_ok-capability.ensures.0;
}
