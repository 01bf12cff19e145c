use Rattle.std.proofs.Common.{◌≡◌, ◌≤◌, true, ap, subst, ◌∙◌, length, rules}
use Rattle.std.specs.Prelude.{drop}
use Rattle.std.specs.List.{flat_map, slice_index_or}
use Rattle.acvp_mac.specs.Conditions.{judged}
use Rattle.acvp_desk.specs.Epochs.{is_in_its_epoch}
use Rattle.acvp_check.specs.Conditions.{epoch_conditions, epoch_row_conditions}
use Rattle.acvp_check.proofs.EpochLemmas.{judged_rest}
use Rattle.acvp_check.proofs.epochs.epochs_wrong.Goals as goal

pub returns : goal.returns
unfolding epoch_conditions
returns c =
    let mine = c.args.mine.now in
    let n = c.first_suspect.result in
    let all : c.deref-2.result.now ≡ mine.sets = search rules in
    let same : c.deref.result.now ≡ mine.sets = search rules in
    let rest : c.split_at.result.1.now ≡ drop n mine.sets = c.split_at.ensures.back ∙ ap (drop n) same in
    c.each.ensures ∙ ap (λ rows. judged (flat_map (epoch_row_conditions mine) rows) (tt {0})) rest
    ∙ judged_rest mine n
    (λ k d few. subst (λ rows. is_in_its_epoch rows (slice_index_or rows k d) ≡ true) all
    (c.first_suspect.ensures.held k d few))
    (subst (λ rows. n ≤ length rows) all c.first_suspect.ensures.bound)
