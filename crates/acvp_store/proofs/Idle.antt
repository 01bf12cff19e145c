-- No statement sets off another: each reference of the store's tables has NO ACTION.
use Rattle.std.proofs.Common.{◌≡◌, ℕ, List, [], ◌∷◌, Bool, true, false, None, Ok, refl, ap}
use Rattle.sqlite_schema.specs.declared.schema.Reference.{Reference}
use Rattle.sqlite_schema.specs.declared.schema.Action.TheVariants.{NoAction}
use Rattle.acvp_store.proofs.Words.{AllByRecursion, Applies, Created, deed_for, Edit, Enforced, filter_map, flat_map}
use Rattle.acvp_store.proofs.Words.{Layout, Migrated, one_step, pairs, parent_key, Row, Schema, schema_of, Table}
use Rattle.acvp_store.proofs.Words.{taken_by, Trees, work_by, work_for, works, Writes}

abbrev IsQuiet : Reference → Type 0
IsQuiet ref = (ref.on_delete ≡ NoAction) × (ref.on_update ≡ NoAction)

quiet_deed : (deletes : Bool) (ref : Reference) → IsQuiet ref → deed_for Enforced deletes ref ≡ None
quiet_deed true ref h = rw h.0 refl
quiet_deed false ref h = rw h.1 refl

module _ (schema : Schema) (depth tree : ℕ) (olds news : List Row) where
  quiet_work : (child : Table) (ref : Reference) → IsQuiet ref
      → work_for schema Enforced depth tree olds news child ref ≡ None
  quiet_work child ref h = ap (λ d. work_by depth tree (pairs olds news) child ref d (parent_key schema.tables ref))
      (quiet_deed _ ref h)

  quiet_references : (child : Table) (refs : List Reference) → AllByRecursion IsQuiet refs
      → filter_map (work_for schema Enforced depth tree olds news child) refs ≡ []
  quiet_references child [] h = refl
  quiet_references child (r ∷ refs) h = rw (quiet_work child r h.0) (quiet_references child refs h.1)

  quiet_tables : (tables : List Table) → AllByRecursion (λ t. AllByRecursion IsQuiet t.references) tables
      → flat_map (λ child. filter_map (work_for schema Enforced depth tree olds news child) child.references) tables
      ≡ []
  quiet_tables [] h = refl
  quiet_tables (t ∷ tables) h = rw (quiet_references t t.references h.0) (quiet_tables tables h.1)

all_quiet : (layout : Layout) → AllByRecursion (λ t. AllByRecursion IsQuiet t.references) (schema_of layout).tables
all_quiet Created = (
  tt,
  (
    tt,
    (
      ((refl, refl), ((refl, refl), tt)),
      (((refl, refl), tt), (((refl, refl), tt), (((refl, refl), tt), (((refl, refl), tt), tt)))),
    ),
  ),
)
all_quiet Migrated = (
  tt,
  (
    tt,
    (
      ((refl, refl), ((refl, refl), tt)),
      (((refl, refl), tt), (((refl, refl), tt), (((refl, refl), tt), (((refl, refl), tt), (((refl, refl), tt), tt))))),
    ),
  ),
)

idle : (layout : Layout) (depth tree : ℕ) (olds news : List Row)
    → works (schema_of layout) Enforced depth tree olds news ≡ []
idle layout depth tree olds news = quiet_tables (schema_of layout) depth tree olds news (schema_of layout).tables
    (all_quiet layout)

-- so a write is its one step
pub applied : (layout : Layout) (trees next : Trees) (edit : Edit)
    → Writes (schema_of layout) Enforced trees edit (Ok next) → Applies (schema_of layout) Enforced trees edit next
applied layout trees next edit wrote =
    one_step (schema_of layout) Enforced trees next edit
    (idle layout 0 edit.table.tree (taken_by trees edit) edit.news) wrote
