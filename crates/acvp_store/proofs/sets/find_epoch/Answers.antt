use Rattle.acvp_store.proofs.Words.{IfOk-weaker, set_tree, state}
use Rattle.acvp_store.proofs.Epochs.{epoch_rows, find_greatest}
use Rattle.acvp_store.proofs.Finding.{GreatestEpoch, in_store, is_query, read_as}
use Rattle.acvp_store.proofs.sets.find_epoch.Goals as goal

pub returns-clause-read : goal.returns-clause-read
returns-clause-read g c =
    read_as c.asked.result c.epoch_in.result _ _ (λ ok. c.answered.ensures.ok (c.epoch_in.ensures.ok ok))
    (c.asked.ensures.read (λ live. (c.requires live).ready) (is_query GreatestEpoch))

pub returns-clause-found : goal.returns-clause-found
returns-clause-found g c live =
    let old = state g.S.Store c.args.conn.now in
    in_store c.epoch_in.result old.now _ (λ layout schema.
    find_greatest (old.now.trees (set_tree layout))
    (λ v. v.items) c.asked.result c.answered.result c.epoch_in.result c.answered.ensures.ok
    c.epoch_in.ensures.ok c.answered.ensures.found c.epoch_in.ensures.told
    (IfOk-weaker c.asked.result _ _ (λ rows shown. epoch_rows layout old _ rows.items schema shown)
    (c.asked.ensures.shown live)))
