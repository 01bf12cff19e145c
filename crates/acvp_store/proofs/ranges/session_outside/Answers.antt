use Rattle.acvp_store.proofs.Words.{first_number, last_number, refl, session_tree}
use Rattle.acvp_store.proofs.RangeOutside.{all_within}
use Rattle.acvp_store.proofs.RangeColumns.{outside_none, outside_told}
use Rattle.acvp_store.proofs.Finding.{is_query, read_as, SessionOutside, told}
use Rattle.acvp_store.proofs.ranges.session_outside.Goals as goal

pub returns-clause-read : goal.returns-clause-read
returns-clause-read g c =
    read_as c.asked.result c.number_in.result _ _ c.number_in.ensures.ok
    (c.asked.ensures.read (λ live. (c.requires live).ready) (is_query SessionOutside))

pub returns-clause-none : goal.returns-clause-none
returns-clause-none g c live =
    let store = c.requires ((returns-clause-read g c).stays.was_open live) in
    told c.asked.result c.number_in.result c.number_in.ensures.ok _ _ _
    (λ rows found is shown tree none. all_within (first_number 1) (last_number 9999) _ tree.1
    (outside_none SessionOutside store.schema.0 session_tree 1000000 9999999999 refl (λ trees. refl) _ _ rows.items
    store.schema.1 shown (is none)))
    c.number_in.ensures.none (c.asked.ensures.shown live)

pub returns-clause-some : goal.returns-clause-some
returns-clause-some g c live =
    let store = c.requires ((returns-clause-read g c).stays.was_open live) in
    told c.asked.result c.number_in.result c.number_in.ensures.ok _ _ _
    (λ rows found is shown number at. outside_told SessionOutside store.schema.0 session_tree 1000000 9999999999 refl
    (λ trees. refl) _ _ rows.items store.schema.1 shown number (is number at))
    c.number_in.ensures.some (c.asked.ensures.shown live)
