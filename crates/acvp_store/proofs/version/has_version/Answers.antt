use Rattle.std.proofs.Common.{◌∙◌}
use Rattle.acvp_store.proofs.Words.{is_version_row}
use Rattle.acvp_store.proofs.ReviewerRows.{any_passes}
use Rattle.acvp_store.proofs.Told.{told}
use Rattle.acvp_store.proofs.Texts.{find_version_asks}
use Rattle.acvp_store.proofs.QueryLeaves.{read_as}
use Rattle.acvp_store.proofs.Versions.{version_rows, value_of}
use Rattle.acvp_store.proofs.version.has_version.Goals as goal

pub returns-clause-read : goal.returns-clause-read
returns-clause-read g c =
    read_as c.asked.result c.any.result _ _ c.any.ensures.ok
    (c.asked.ensures.read (λ live. (c.requires live).0) find_version_asks)

pub returns-clause-found : goal.returns-clause-found
returns-clause-found g c live =
    let store = c.requires ((returns-clause-read g c).stays.was_open live) in
    told c.asked.result c.any.result c.any.ensures.ok _ _ _
    (λ rows any is shown. is ∙ any_passes value_of (is_version_row c.args.version) _ rows.items
    (version_rows store.1.0 c.args.version _ _ rows.items store.1.1 (rw c.to_sql.ensures at shown)))
    c.any.ensures.found (c.asked.ensures.shown live)
