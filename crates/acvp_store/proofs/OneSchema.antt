-- Trees list one schema, so what a store's database shows to an open is that store.
use Rattle.std.proofs.Common.{◌≡◌, ◌⊎◌, inl, inr, ◌≤◌, ◌+◌, ◌↔◌, ℕ, zero, pos, List, [], ◌∷◌, length, slice_get, Bool}
use Rattle.std.proofs.Common.{true, false, Some, Result, Ok, Err, IsTrue, IfErr, IfOk, refl, sym, ap, subst, ◌∙◌, arith}
use Rattle.sqlite_catalog.proofs.StepLemmas.{named_once, same_itself}
use Rattle.sqlite_catalog.specs.Listing.{IsTableRow, IsIndexRow, IsViewRow, IsDefined, IsSound, automatic, is_table_row}
use Rattle.sqlite_catalog.specs.Listing.{is_index_row, is_view_row}
use Rattle.sqlite_resolve.specs.Compile.{table_defined_by}
use Rattle.sqlite_rules.proofs.ListLemmas.{all_has}
use Rattle.sqlite_schema.specs.Names.{same_name}
use Rattle.sqlite_schema.specs.declared.schema.Index.{Index}
use Rattle.sqlite_trees.specs.Objects.{catalog_tree}
use Rattle.sqlite_trees.specs.declared.store.Store.{Ghosts}
use Rattle.sqlite_trees.specs.Tree.{Trees, IsAscending, rowid}
use Rattle.sqlite_value.specs.declared.value.Value.{Value}
use Rattle.sqlite_value.specs.declared.value.Value.TheVariants.{Null, Int, Text}
use Rattle.acvp_store.specs.Adopted.{IsOurs}
use Rattle.acvp_store.specs.Private.Found.{store_of}
use Rattle.acvp_store.proofs.Words.{AllByRecursion, AllZip, column, Content, Created, Database, filter, First, Held}
use Rattle.acvp_store.proofs.Words.{IsAfterMigration, IsDatabase, IsMigrated, IsOf, IsOldOrMigrated, IsStoreAt}
use Rattle.acvp_store.proofs.Words.{IsStoreOf, Layout, layout_after, LeavesNoMore, LeavesSo, Migrated, Migrates, Moves}
use Rattle.acvp_store.proofs.Words.{Row, Schema, schema_at, schema_of, SchemaVersion, Second, ServesStore, Stands}
use Rattle.acvp_store.proofs.Words.{stands, StandsAt, State, state, Table, Third}
use Rattle.acvp_store.proofs.Versions.{same_version}

-- ---- each row lists one thing

module _ {A B : Type 0} (P : A → B → Type 0) where
  zip_once : ((a : A) (x y : B) → P a x → P a y → x ≡ y) → (rows : List A) (xs ys : List B) → AllZip P rows xs
      → AllZip P rows ys → xs ≡ ys
  zip_once once [] [] [] h k = refl
  zip_once once [] (x ∷ xs) ys h k = absurd h
  zip_once once (a ∷ rows) [] ys h k = absurd h
  zip_once once (a ∷ rows) (x ∷ xs) (y ∷ ys) h k =
      let first = once a x y h.0 k.0 in
      let more = zip_once once rows xs ys h.1 k.1 in
      ap (λ z. z ∷ xs) first ∙ ap (λ l. y ∷ l) more
  zip_once once _ _ _ h k = absurd k

  zip_none : (rows : List A) (xs : List B) → AllZip P rows [] → AllZip P rows xs → xs ≡ []
  zip_none [] [] h k = refl
  zip_none [] (x ∷ xs) h k = absurd k
  zip_none (a ∷ rows) xs h k = absurd h

tree_once : (row : Row) (s t : ℕ) → rowid row ≡ Int (pos (s + 1)) → rowid row ≡ Int (pos (t + 1)) → s ≡ t
tree_once row s t a b = let e : s + 1 ≡ t + 1 = (let both : Int (pos (s + 1)) ≡ Int (pos (t + 1)) = sym a ∙ b in cc) in
    omega (arith, e)

text_once : (v : Value) (s t : List ℕ) → v ≡ Text s → v ≡ Text t → s ≡ t
text_once v s t a b = let both : Text s ≡ Text t = sym a ∙ b in cc

table_once : (row : Row) (a b : Table) → IsTableRow row a → IsTableRow row b → a ≡ b
table_once row a b h k =
    let tree = tree_once row a.tree b.tree h.described.id k.described.id in
    let sql = text_once (column row 4) h.sql k.sql h.sql_is k.sql_is in
    let both : Ok h.defined.0 ≡ Ok k.defined.0 = sym h.defined.1 ∙ ap table_defined_by sql ∙ k.defined.1 in
    let made : h.defined.0 ≡ k.defined.0 = cc in
    h.defined.2 ∙ ap (λ (m : Table). record m { tree = a.tree }) made ∙ ap (λ t. record k.defined.0 { tree = t }) tree
    ∙ sym k.defined.2

-- of at most one member
get_once : {X : Type 0} (xs : List X) (i j : ℕ) (x y : X) → length xs ≤ 1 → slice_get xs i ≡ Some x
    → slice_get xs j ≡ Some y → i ≡ j
get_once (z ∷ []) zero zero x y few h k = refl
get_once (z ∷ w ∷ xs) i j x y few h k = absurd (omega (arith, few))
get_once _ _ _ x y few h k = absurd (cc)

defined_once : (t : Table) → length t.uniques ≤ 1 → (a b : Index) → a.tree ≡ b.tree → (v : Value) → IsDefined t a v
    → IsDefined t b v → a ≡ b
defined_once t few a b tree Null h k =
    let at = get_once t.uniques h.0 k.0 h.1 k.1 few h.2 k.2 in
    let both : Some h.1 ≡ Some k.1 = sym h.2 ∙ ap (slice_get t.uniques) at ∙ k.2 in
    let key : h.1 ≡ k.1 = cc in
    h.3 ∙ ap (λ n. automatic t n h.1 a.tree) at ∙ ap (λ l. automatic t k.0 l a.tree) key ∙ ap (automatic t k.0 k.1) tree
    ∙ sym k.3
defined_once t few a b tree (Text sql) h k =
    let both : Ok h.0 ≡ Ok k.0 = sym h.1 ∙ k.1 in
    let made : h.0 ≡ k.0 = cc in
    h.2 ∙ ap (λ (m : Index). record m { tree = a.tree; table = t.tree }) made
    ∙ ap (λ n. record k.0 { tree = n; table = t.tree }) tree ∙ sym k.2
defined_once t few a b tree _ h k = absurd h

-- the tables have different names, and each at most one UNIQUE
module _ (tables : List Table) (named : IsAscending (λ s t. same_name s.name t.name ≡ false) tables)
    (few : AllByRecursion (λ t. length t.uniques ≤ 1) tables) where
  index_once : (row : Row) (a b : Index) → IsIndexRow tables row a → IsIndexRow tables row b → a ≡ b
  index_once row a b h k =
      let tree = tree_once row a.tree b.tree h.described.id k.described.id in
      let name = text_once (column row 3) h.table.name k.table.name h.described.owner_is k.described.owner_is in
      let same : h.table ≡ k.table =
      named_once tables h.table k.table named h.listed k.listed
      (subst (λ n. same_name h.table.name n ≡ true) name (same_itself h.table.name)) in
      defined_once k.table (all_has (λ t. length t.uniques ≤ 1) tables k.table few k.listed) a b tree (column row 4)
      (subst (λ t. IsDefined t a (column row 4)) same h.defined) k.defined

-- ---- one schema

few_uniques : (version : SchemaVersion) → AllByRecursion (λ t. length t.uniques ≤ 1) (schema_at version).tables
few_uniques First = (omega arith, (omega arith, (omega arith, (omega arith, (omega arith, (omega arith, tt))))))
few_uniques (Second Created) =
    (omega arith, (omega arith, (omega arith, (omega arith, (omega arith, (omega arith, tt))))))
few_uniques (Second Migrated) =
    (omega arith, (omega arith, (omega arith, (omega arith, (omega arith, (omega arith, (omega arith, tt)))))))
few_uniques (Third Created) =
    (omega arith, (omega arith, (omega arith, (omega arith, (omega arith, (omega arith, (omega arith, tt)))))))
few_uniques (Third Migrated) = (
  omega arith,
  (
    omega arith,
    (omega arith, (omega arith, (omega arith, (omega arith, (omega arith, (omega arith, tt)))))),
  ),
)

no_views : (version : SchemaVersion) → (schema_at version).views ≡ []
no_views First = refl
no_views (Second layout) = refl
no_views (Third layout) = refl

pub one_schema : (version : SchemaVersion) (s : Schema) (db : Trees) → IsSound s db → IsSound (schema_at version) db
    → s ≡ schema_at version
one_schema version s db h k =
    let known = schema_at version in
    let rows = db catalog_tree in
    let listed = k.lists.listed in
    let tables : s.tables ≡ known.tables =
    zip_once IsTableRow table_once
    (filter is_table_row rows) s.tables known.tables h.lists.listed.tables listed.tables in
    let indexes : s.indexes ≡ known.indexes =
    zip_once (IsIndexRow known.tables) (index_once known.tables listed.named (few_uniques version))
    (filter is_index_row rows) s.indexes known.indexes
    (subst (λ ts. AllZip (IsIndexRow ts) (filter is_index_row rows) s.indexes) tables h.lists.listed.indexes)
    listed.indexes in
    let views : s.views ≡ [] =
    zip_none IsViewRow (filter is_view_row rows) s.views
    (subst (AllZip IsViewRow (filter is_view_row rows)) (no_views version) listed.views) h.lists.listed.views in
    ap (λ ts. record { tables = ts; indexes = s.indexes; views = s.views }) tables
    ∙ ap (λ is. record { tables = known.tables; indexes = is; views = s.views }) indexes
    ∙ ap (λ vs. record { tables = known.tables; indexes = known.indexes; views = vs }) (views ∙ sym (no_views version))

-- ---- a store's database

pub is_of : (version : SchemaVersion) (db : Database) → IsDatabase db → (c : Content) → IsStoreAt version db.trees c
    → IsOf version db
is_of version db sound c it =
    record {
      schema = one_schema version db.schema db.trees sound it.sound;
      named = it.stands.version;
      no_old_sets =
          it.stands.no_old_sets;
    }

pub is_ours : (db : Database) → IsDatabase db → (c : Content) → IsStoreOf db.trees c → IsOurs db
is_ours db sound c it = let of = is_of (Third it.0) db sound c it.1 in
    record { layout = it.0; schema = of.schema; version = of.named; no_old_sets = of.no_old_sets }

pub stands_again : {S : Type 0} (g : Ghosts S) (t : Held S) (db : Database) → (state g t).now ≡ db → IsDatabase db
    → (c : Content) → IsStoreOf db.trees c → ServesStore (state g t) → stands g t c
stands_again g t db same sound c it serves = (
  it.0,
  subst (λ (d : Database). d.schema ≡ schema_of it.0) (sym same)
      (one_schema (Third it.0) db.schema db.trees sound it.1.sound),
  subst (λ (d : Database). Stands it.0 d.trees c) (sym same) it.1.stands,
  serves,
)

-- after a migration
pub stands_migrated : {S : Type 0} (g : Ghosts S) (t : Held S) (old : State) → IsDatabase old.now
    → IsMigrated old (state g t) → ServesStore (state g t) → (version : SchemaVersion) (c : Content)
    → IsStoreAt version old.now.trees c → stands g t c
stands_migrated g t old sound moved serves version c it =
    go moved.from (same_version moved.from version
    (sym moved.was.schema ∙ one_schema version old.now.schema old.now.trees sound it.sound)) moved.was moved.turned
  where
    go : (from : SchemaVersion) → from ≡ version → IsOf from old.now → Migrates from old.now (state g t).now
        → stands g t c
    go First is was turned = (
      Migrated,
      turned.schema,
      turned.stands c (subst (λ v. StandsAt v old.now.trees c) (sym is) it.stands),
      serves,
    )
    go (Second layout) is was turned =
        (layout, turned.schema, turned.stands c (subst (λ v. StandsAt v old.now.trees c) (sym is) it.stands), serves)
    go (Third layout) is was turned =
        stands_again g t old.now turned sound c (layout, subst (λ v. IsStoreAt v old.now.trees c) (sym is) it) serves

-- ---- what a crash leaves of a migration

migrated_store : (old : Database) → IsDatabase old → (db : Trees) → IsAfterMigration old db
    → (version : SchemaVersion) (c : Content) → IsStoreAt version old.trees c → IsStoreOf db c
migrated_store old sound db moved version c it =
    go moved.from (same_version moved.from version
    (sym moved.was.schema ∙ one_schema version old.schema old.trees sound it.sound)) moved.was moved.turned
  where
    moved_so : (from : SchemaVersion) → from ≡ version → Moves from old moved.after → IsStoreOf db c
    moved_so from is turned = store_of (layout_after from) moved.after db turned.schema moved.trees moved.sound c
        (turned.stands c (subst (λ v. StandsAt v old.trees c) (sym is) it.stands))

    go : (from : SchemaVersion) → from ≡ version → IsOf from old → Migrates from old moved.after → IsStoreOf db c
    go First is was turned = moved_so First is turned
    go (Second layout) is was turned = moved_so (Second layout) is turned
    go (Third layout) is was turned =
        store_of layout moved.after db (ap (λ (d : Database). d.schema) turned ∙ was.schema) moved.trees moved.sound c
        (subst (λ (d : Database). Stands layout d.trees c) (sym turned)
        (subst (λ v. StandsAt v old.trees c) (sym is) it.stands))

pub as_committed : (old new : State) → ((db : Trees) → IsTrue old.is_open → old.may_leave db → db ≡ old.committed.trees)
    → LeavesNoMore old new → LeavesSo old new (IsOldOrMigrated old.committed.trees)
as_committed old new settled none clean live db may version c it =
    inl (subst (λ t. IsStoreAt version t c) (sym (settled db live (none clean db may))) it)

pub as_left : (old new : State) → (IsTrue old.is_open → old.now ≡ old.committed)
    → (IsTrue old.is_open → IsDatabase old.now)
    → LeavesSo old new (λ db. (db ≡ old.committed.trees) ⊎ IsAfterMigration old.now db)
    → LeavesSo old new (IsOldOrMigrated old.committed.trees)
as_left old new settled sound left clean live db may version c it = elim (left clean live db may) [
  | inl was ↦ inl (subst (λ t. IsStoreAt version t c) (sym was) it)
  | inr moved ↦ inr (migrated_store old.now (sound live) db moved version c
      (subst (λ (d : Database). IsStoreAt version d.trees c) (sym (settled live)) it))
]

-- ---- of results

-- the tables lie in neither of the two ways
not_so : (b : Bool) (P : Type 0) → b ≡ false → (IsTrue b ↔ P) → P → ⊥
not_so b P e same p = absurd (let t = same.1 p in cc)

pub neither_ours : (db : Database) (a b : Bool) → a ≡ false → b ≡ false → (IsTrue a ↔ (db.schema ≡ schema_of Created))
    → (IsTrue b ↔ (db.schema ≡ schema_of Migrated)) → ¬ IsOurs db
neither_ours db a b not_a not_b is_a is_b ours = go ours.layout ours.schema
  where
    go : (layout : Layout) → db.schema ≡ schema_of layout → ⊥
    go Created is = not_so a _ not_a is_a is
    go Migrated is = not_so b _ not_b is_b is

-- of a success that two things are known of
pub of_success : {X E : Type 0} (r : Result X E) (P Q R : X → Type 0) → ((x : X) → P x → Q x → R x) → IfOk r P
    → IfOk r Q → IfOk r R
of_success (Ok x) P Q R so p q = so x p q
of_success (Err e) P Q R so p q = tt

-- of a fault that two things are known of
pub of_both : {X E : Type 0} (r : Result X E) (P Q R : E → Type 0) → ((e : E) → P e → Q e → R e) → IfErr r P → IfErr r Q
    → IfErr r R
of_both (Ok x) P Q R so p q = tt
of_both (Err e) P Q R so p q = so e p q
