use Rattle.std.proofs.Common.{◌≡◌, ◌+◌, ◌-◌, ◌≤◌, ℕ, List, ◌++◌, rules, arith, length, take, sym, ap, subst, ◌∙◌}
use Rattle.std.proofs.Common.{length-take-le}
use Rattle.std.proofs.lemmas.Slice.{take-put_mid}
use Rattle.std.proofs.lemmas.List.{take-take}
use Rattle.std.proofs.Math.Seq.{take-append-add}
use Rattle.std.specs.Io.KnownBytes.{Consumes}
use Rattle.std.proofs.KnownBytes.{Consumes-trans}
use borrow.Rule.Slice.PartMut.{put_mid}
use Rattle.acvp_causes.proofs.begins.begin_in.Goals as goal

-- the first bytes of the part stand behind the front
take-in_place : (at room n : ℕ) (xs part : List ℕ) → at ≤ length xs → n ≤ length part
    → take at xs ++ take n part ≡ take (at + n) (put_mid at room xs part)
take-in_place at room n xs part within fits =
    let front = length-take-le at xs within in
    let total = at + length part in
    let whole = take-put_mid at room xs part total (omega arith) within in
    sym (sym (take-take (at + n) total (put_mid at room xs part) (omega arith)) ∙ ap (take (at + n)) whole
    ∙ ap (λ k. take (k + n) (take at xs ++ part)) (sym front) ∙ take-append-add (take at xs) part n)

pub loop-preserved : goal.loop-preserved
loop-preserved g c =
    let from = c.loop.count in
    let more = c.in_ok-more.more in
    let fits = c.in_ok-more.ensures.bound.0 in
    record {
      room = search rules;
      given = omega arith;
      bytes = subst (Consumes _ _)
          (take-in_place from (length c.loop.begin - from) more c.loop.begin c.read.new.buf c.loop.invariant.room fits)
          (Consumes-trans _ _ _ _ _ c.loop.invariant.bytes c.in_ok-more.ensures.bytes.0);
    }
