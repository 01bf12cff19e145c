use Rattle.std.proofs.Common.{arith}
use Rattle.acvp_json.proofs.ObjectLemmas.{one-more, all-put}
use Rattle.acvp_json.proofs.object.object.Goals as goal

pub loop-value-preserved : goal.loop-value-preserved
loop-value-preserved g c =
    record {
      within = omega (arith, c.loop-value.invariant.within, c.in-Some.ensures.len);
      put = one-more c.args.names.now c.pop.new.self.items c.loop-value.left.items c.in-Some.value _ _ _ c.len.result _
          (omega (arith, c.loop-value.invariant.within, c.in-Some.ensures.len, c.pop.new.self.ok.0, c.len.ensures))
          (omega (arith, c.pop.new.self.ok.0, c.len.ensures)) c.in-Some.ensures.items c.in_ok-put-2.ensures.ok
          c.loop-value.invariant.put;
    }

pub returns : goal.returns
returns g c =
    all-put c.args.names.now c.args.values c.loop-value.left.items c.loop-value.members _
    (omega (arith, c.loop-value.left.ok.0, c.in_default.ensures.cases.0)) c.loop-value.invariant.put
