use Rattle.std.proofs.Common.{◌++◌, ◌%◌, length, arith}
use Rattle.std.specs.List.{slice_get}
use Rattle.acvp_gen.specs.Words.{word_of}
use Rattle.acvp_gen.specs.Choice.{drawn}
use Rattle.acvp_gen.proofs.LengthLemmas.{one_draw_more}
use Rattle.acvp_gen.proofs.WordLemmas.{word_after, moved_further}
use Rattle.acvp_gen.proofs.lengths.draw.Goals as goal

pub loop-preserved : goal.loop-preserved
loop-preserved c = record {
  listed = one_draw_more (λ place. slice_get c.args.domain.now
      (word_of c.args.words.now.seed c.args.words.now.vs place % length c.args.domain.now))
      c.loop.lengths.items c.push.new.self.items (c.args.lengths.now.items
      ++ drawn c.args.words.now.seed c.args.words.now.vs c.args.draws c.args.domain.now) c.member.result
      c.loop.counter c.args.draws
      c.loop-test.true c.in_ok-push.ensures.items
      (rw (
        ← word_after c.args.words.now c.loop.words c.loop.counter c.loop.invariant.moved c.requires.start,
        ← c.next_word.ensures.value,
        ← c.from.ensures,
        ← c.count-count.ensures.value,
      ) c.member.ensures)
      c.loop.invariant.listed;
  longer = omega (arith, c.in_ok-push.ensures.len, c.loop.invariant.longer);
  moved = moved_further c.args.words.now c.loop.words c.next_word.new.self c.loop.counter 1 c.loop.invariant.moved
      c.next_word.ensures.moved;
}
