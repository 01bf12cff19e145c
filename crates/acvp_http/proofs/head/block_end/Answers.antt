use Rattle.std.proofs.Common.{◌≡◌, false, take, sym, ◌∙◌, arith, below_more}
use Rattle.acvp_http.specs.Asks.{ends_empty}
use Rattle.acvp_http.proofs.head.block_end.Goals as goal

pub loop-n-preserved : goal.loop-n-preserved
loop-n-preserved c =
    below_more (λ k. ends_empty (take k c.args.window.now) ≡ false) c.loop-n.n c.loop-n.invariant
    (sym c.ends_with_empty_line.ensures ∙ c.if-ends_with_empty_line.false)

pub returns-else-ends_with_empty_line : goal.returns-else-ends_with_empty_line
returns-else-ends_with_empty_line c =
    λ k h. below_more (λ k. ends_empty (take k c.args.window.now) ≡ false) c.loop-n.n c.loop-n.invariant
    (sym c.ends_with_empty_line.ensures ∙ c.if-ends_with_empty_line.false) k (omega arith)
