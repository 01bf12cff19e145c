-- The registration of what a request asks for.
use Rattle.std.specs.Prelude.{◌≡◌, ◌<◌, ◌^◌, ℕ, List, ◌++◌, ⊤, Some, None}
use Rattle.std.specs.List.{AllByRecursion}
use Rattle.sqlite.specs.Effect.{Database}
use Rattle.acvp_registry.specs.Json.{body_json}
use Rattle.acvp_registry.specs.Object.{KeptObject, object_fault, object_text}
use Rattle.acvp_tables.specs.Content.{kind_number, request_at}
use Rattle.acvp_tables.specs.Changes.{approved_objects}
use Rattle.acvp_tables.specs.declared.rows.ObjectRow.{ObjectRow}
use Rattle.acvp_tables.specs.declared.rows.RequestRow.{RequestRow}
use Rattle.acvp_tables.specs.declared.rows.RequestBody.{RequestBody}
use Rattle.acvp_tables.specs.declared.rows.RequestBody.TheVariants as body
use Rattle.acvp_store.specs.Schema.{Layout, schema_of}
use Rattle.acvp_store.specs.Alters.{SparesOthers}
use Rattle.acvp_store.specs.Stands.{object_tree, HoldsObjects, request_tree, HoldsRequests}

-- what it asks to register is a vendor, a module or an environment
abbrev pub IsOfKind : RequestBody → Type 0
IsOfKind (body.Registration o) = kind_number o.kind < 4
IsOfKind (body.Certification c) = ⊤

-- it is one of those that are registered, as the value of one is read
abbrev pub IsObject : KeptObject → Type 0
IsObject o = (kind_number o.kind < 4) × (object_fault o.kind o.value ≡ None)

-- it is one, and its text reads as it
abbrev pub IsReadObject : KeptObject → Type 0
IsReadObject o = IsObject o × (body_json (object_text o) ≡ Some o.value)

-- what the request of a number asks to register is there under another number
pub record Registers (layout : Layout) (request number : ℕ) (old new : Database) : Type 0 where
  pub schema : new.schema ≡ schema_of layout
  pub fits : number < 2 ^ 63
  pub kept : (requests : List RequestRow) (objects : List ObjectRow)
      → AllByRecursion (λ (r : RequestRow). IsOfKind r.body) requests → HoldsRequests (old.trees request_tree) requests
      → HoldsObjects (old.trees object_tree) objects
      → HoldsObjects (new.trees object_tree) (objects ++ approved_objects (request_at request requests) number)
  pub others : SparesOthers layout object_tree old.trees new.trees
