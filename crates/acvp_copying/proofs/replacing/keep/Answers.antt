use Rattle.acvp_copying.proofs.ReplacementLemmas.{kept_named}
use Rattle.acvp_copying.proofs.replacing.keep.Goals as goal

pub returns : goal.returns
returns g c =
    kept_named g.F.Making.does c.args.files.now c.copy_old.new.files c.keep_access.new.self c.name_new.new.files
    c.name_new.result c.in_ok-copy_old.ensures c.in_ok-keep_access.ensures c.name_new.ensures
