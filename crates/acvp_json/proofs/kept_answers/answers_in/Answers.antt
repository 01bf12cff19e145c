use Rattle.std.proofs.Common.{◌≡◌, ◌++◌, true, [], ◌∷◌, sym}
use Rattle.std.specs.Prelude.{nat_lt}
use Rattle.std.specs.List.{list_all}
use Rattle.std.specs.Map.{keys_of}
use Rattle.acvp_answers.specs.Answer.{shown_texts}
use Rattle.acvp_json.specs.KeptAnswers.{is_above}
use Rattle.acvp_json.proofs.KeptLemmas.{inserted, below-more, after-more}
use Rattle.acvp_json.proofs.kept_answers.answers_in.Goals as goal

pub loop-item-preserved : goal.loop-item-preserved
loop-item-preserved c =
    let above : is_above c.loop-item.last c.in_ok-number.number ≡ true = sym c.if-not-is_above.ensures in
    let below : list_all (λ k. nat_lt k c.in_ok-number.number) (keys_of c.loop-item.answers) ≡ true =
    c.loop-item.invariant.below c.in_ok-number.number above in
    let more : c.insert.new.self ≡ c.loop-item.answers ++ (c.in_ok-number.number, shown_texts c.in_ok-number.texts)
    ∷ [] =
    inserted c.in_ok-insert.field-0 c.loop-item.answers c.insert.new.self c.in_ok-number.number
    (shown_texts c.in_ok-number.texts) below c.in_ok-insert.ensures in
    record {
      read = rw more (after-more c.deref-item-items.result.now c.loop-item.item-index c.item-item.result
          c.loop-item.last c.loop-item.answers (c.in_ok-number.number, shown_texts c.in_ok-number.texts) _
          c.loop-item-test.true c.item-item.is c.in_ok-number.ensures above c.loop-item.invariant.read);
      below = λ n higher. rw more (below-more c.loop-item.answers c.in_ok-number.number n
          (shown_texts c.in_ok-number.texts) below higher);
    }
