use Rattle.acvp_store.proofs.Words.{Migrated, Second}
use Rattle.acvp_store.proofs.version.is_second_beside.Goals as goal

pub has_version-requires : goal.has_version-requires
has_version-requires g c live = let was = c.requires live in (was.0, (Second Migrated, was.1))
