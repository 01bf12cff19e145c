use Rattle.acvp_copying.proofs.ReplacementLemmas.{replaced_synced}
use Rattle.acvp_copying.proofs.replacing.keep_and_replace.Goals as goal

pub returns-in-Ok : goal.returns-in-Ok
returns-in-Ok g c =
    let (mid, kept, taken) = c.in-Ok.ensures in
    replaced_synced g.F.Making.does c.args.files.now mid c.keep_and_take.new.files c.sync_folder.new.self
    c.sync_folder.result kept taken c.sync_folder.ensures
