use Rattle.acvp_desk.proofs.WalkedRows.{looks_twice}
use Rattle.acvp_desk.proofs.judged.judge_sets.Goals as goal

pub loop-set-preserved : goal.loop-set-preserved
loop-set-preserved g c =
    looks_twice g.T.Tables.meaning tt tt tt c.args.tables.now c.loop-set.tables c.judge_set.new.tables
    c.loop-set.invariant c.in_ok-judge_set.ensures.looks
