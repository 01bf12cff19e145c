use Rattle.std.proofs.Common.{◌∙◌, true}
use Rattle.acvp_store.proofs.ReviewerRows.{any_passes}
use Rattle.acvp_store.proofs.Told.{told}
use Rattle.acvp_store.proofs.Texts.{old_sets_asks}
use Rattle.acvp_store.proofs.QueryLeaves.{read_as}
use Rattle.acvp_store.proofs.Versions.{old_rows, number_of, any_row}
use Rattle.acvp_store.proofs.version.has_old_sets.Goals as goal

pub returns-clause-read : goal.returns-clause-read
returns-clause-read g c =
    read_as c.asked.result c.any.result _ _ c.any.ensures.ok
    (c.asked.ensures.read (λ live. (c.requires live).0) old_sets_asks)

pub returns-clause-found : goal.returns-clause-found
returns-clause-found g c live =
    let store = c.requires ((returns-clause-read g c).stays.was_open live) in
    told c.asked.result c.any.result c.any.ensures.ok _ _ _
    (λ rows any is shown. is ∙ any_passes number_of (λ row. true) _ rows.items (old_rows _ _ rows.items store.1 shown)
    ∙ any_row _)
    c.any.ensures.found (c.asked.ensures.shown live)
