use Rattle.acvp_json.proofs.ReplyLemmas.{results-more}
use Rattle.std.proofs.Common.{rules}
use Rattle.acvp_json.proofs.set_results.result_values.Goals as goal

pub loop-place-preserved : goal.loop-place-preserved
loop-place-preserved c =
    results-more c.loop-place.values.items c.push.new.self.items c.args.verdicts.now c.loop-place.place _
    c.in_ok-result_value.field-0 c.loop-place-test.true
    (search rules) c.in_ok-result_value.ensures c.loop-place.invariant
    c.in_ok-push.ensures.items
