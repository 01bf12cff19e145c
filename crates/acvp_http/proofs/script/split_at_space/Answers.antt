use Rattle.acvp_http.proofs.LineLemmas.{lacks_more}
use Rattle.acvp_http.proofs.script.split_at_space.Goals as goal

pub loop-i-preserved : goal.loop-i-preserved
loop-i-preserved c = lacks_more 32 c.args.text.now c.loop-i.i c.loop-i-test.true c.loop-i.invariant c.if-byte-eq32.false
