use Rattle.acvp_store.proofs.Words.{Third}
use Rattle.acvp_store.proofs.store.adopt_named.Goals as goal

pub has_version-requires : goal.has_version-requires
has_version-requires g c live = let was = c.requires live in (was.ready, (Third was.schema.0, was.schema.1))
