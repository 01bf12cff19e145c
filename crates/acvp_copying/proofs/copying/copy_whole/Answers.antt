use Rattle.std.proofs.Common.{[]}
use Rattle.acvp_copying.specs.Deeds.{StillNamed}
use Rattle.acvp_copying.proofs.DeedLemmas.{did_last, found_whole, tried_again}
use Rattle.acvp_copying.proofs.copying.copy_whole.Goals as goal

pub returns-then-branch : goal.returns-then-branch
returns-then-branch g c =
    did_last g.F.Making.does g.F.Number.PartialEq.eq [] (λ done. StillNamed) c.is_still_named.result c.args.files.now
    c.copy_once.new.files c.is_still_named.new.self
    (found_whole g.F.Making.does g.F.Number.PartialEq.eq c.in_ok-copy_once.field-0 c.args.files.now c.loop.files
    c.copy_once.new.files c.loop.invariant c.in_ok-copy_once.ensures c.if-branch.true)
    c.is_still_named.ensures

pub loop-preserved : goal.loop-preserved
loop-preserved g c =
    tried_again g.F.Making.does g.F.Number.PartialEq.eq c.in_ok-copy_once.field-0 c.args.files.now c.loop.files
    c.copy_once.new.files c.loop.invariant c.in_ok-copy_once.ensures c.if-branch.false
