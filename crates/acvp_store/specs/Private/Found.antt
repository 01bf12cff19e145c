-- What an open finds, as a store's database. It stands here since a law of the tables, in src, is shown by it.
use Rattle.std.specs.Prelude.{◌≡◌}
use Rattle.std.proofs.Common.{subst, subst₂}
use Rattle.sqlite.specs.Effect.{Database, IsDatabase}
use Rattle.sqlite_catalog.specs.Listing.{IsSound}
use Rattle.sqlite_trees.specs.Tree.{Trees}
use Rattle.acvp_tables.specs.Content.{Content}
use Rattle.acvp_store.specs.Schema.{Layout, schema_of}
use Rattle.acvp_store.specs.Stands.{Stands}
use Rattle.acvp_store.specs.Store.{IsStoreOf}

-- the trees of a database of the store's schema that stands for the content
pub store_of : (layout : Layout) (d : Database) (db : Trees) → d.schema ≡ schema_of layout → d.trees ≡ db → IsDatabase d
    → (c : Content) → Stands layout d.trees c → IsStoreOf db c
store_of layout d db schema trees sound c st =
    (layout, record { sound = subst₂ IsSound schema trees sound; stands = subst (λ t. Stands layout t c) trees st })
