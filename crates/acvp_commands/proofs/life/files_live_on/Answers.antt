use Rattle.std.proofs.Common.{refl}
use Rattle.std.proofs.Math.Logic.{∥∥₁_elim}
use Rattle.acvp_tables.specs.Content.{no_rows}
use Rattle.acvp_commands.proofs.FileLifeLemmas.{one_more}
use Rattle.acvp_commands.proofs.life.files_live_on.Goals as goal

pub returns-clause-begins : goal.returns-clause-begins
returns-clause-begins g c = λ seeds made up stood. record {
  records = no_rows;
  life = refl;
  kept = c.records_are_kept.ensures.start seeds;
  is_open = up;
  stood = stood;
}

pub returns-clause-takes_up : goal.returns-clause-takes_up
returns-clause-takes_up g c = λ seeds content tables up kept stood. record {
  records = content;
  life = refl;
  kept = kept;
  is_open = up;
  stood = stood;
}

pub returns-clause-goes_on : goal.returns-clause-goes_on
returns-clause-goes_on g c = λ first runs run seeds opened last next lived adds went resumes.
    ∥∥₁_elim lived squash₁ (λ it.
    one_more c.records_are_kept.ensures.request c.records_are_kept.ensures.order c.records_outlast_keys.ensures.kept
    c.turns_leave.ensures
    first runs run seeds opened last next it adds went resumes)

pub returns-clause-promised : goal.returns-clause-promised
returns-clause-promised g c = λ first runs seeds tables lived earlier later turn is.
    ∥∥₁_elim lived squash₁ (λ it.
    ∣ c.lives_are_promised.ensures.told runs earlier later turn first it.records it.life is ∣₁)
