use Rattle.acvp_store.proofs.Words.{account_tree, refl}
use Rattle.acvp_store.proofs.RangeOutside.{all_within}
use Rattle.acvp_store.proofs.RangeColumns.{outside_none, outside_told}
use Rattle.acvp_store.proofs.Finding.{AccountOutside, is_query, read_as, told}
use Rattle.acvp_store.proofs.ranges.account_outside.Goals as goal

pub returns-clause-read : goal.returns-clause-read
returns-clause-read g c =
    read_as c.asked.result c.number_in.result _ _ c.number_in.ensures.ok
    (c.asked.ensures.read (λ live. (c.requires live).ready) (is_query AccountOutside))

pub returns-clause-none : goal.returns-clause-none
returns-clause-none g c live =
    let store = c.requires ((returns-clause-read g c).stays.was_open live) in
    told c.asked.result c.number_in.result c.number_in.ensures.ok _ _ _
    (λ rows found is shown tree none. all_within 1 9999 _ tree.1
    (outside_none AccountOutside store.schema.0 account_tree 1 9999 refl (λ trees. refl) _ _ rows.items store.schema.1
    shown (is none)))
    c.number_in.ensures.none (c.asked.ensures.shown live)

pub returns-clause-some : goal.returns-clause-some
returns-clause-some g c live =
    let store = c.requires ((returns-clause-read g c).stays.was_open live) in
    told c.asked.result c.number_in.result c.number_in.ensures.ok _ _ _
    (λ rows found is shown number at. outside_told AccountOutside store.schema.0 account_tree 1 9999 refl
    (λ trees. refl) _ _ rows.items store.schema.1 shown number (is number at))
    c.number_in.ensures.some (c.asked.ensures.shown live)
