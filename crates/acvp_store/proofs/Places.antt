-- Where the tables lie that don't lie alike in every store.
use Rattle.std.proofs.Common.{◌≡◌, ◌≢◌, ℕ, [], Some, false, refl, slice_get, ◌∙◌}
use Rattle.std.specs.Prelude.{◌==◌}
use Rattle.sqlite_trees.specs.Tree.{Trees}
use Rattle.acvp_store.proofs.Words.{AllByRecursion, Created, HasNoOldSets, Layout, Migrated, overlay, reviewer_table}
use Rattle.acvp_store.proofs.Words.{reviewer_tree, schema_of, set_table, set_tree, SparesOthers, Table, ⊤}
use Rattle.acvp_store.proofs.Parts.{apart}
use Rattle.acvp_store.proofs.Writings.{reviewer_place, set_place}

pub sets_at : (layout : Layout)
    → slice_get (schema_of layout).tables (set_place layout) ≡ Some (set_table (set_tree layout))
sets_at Created = refl
sets_at Migrated = refl

pub reviewers_at : (layout : Layout) → slice_get (schema_of layout).tables (reviewer_place layout)
    ≡ Some (reviewer_table (reviewer_tree layout))
reviewers_at Created = refl
reviewers_at Migrated = refl

-- a query without tables of its own sees their rows

pub sets_seen : (layout : Layout) (trees : Trees) → overlay trees [] (set_tree layout) ≡ trees (set_tree layout)
sets_seen Created trees = refl
sets_seen Migrated trees = refl

pub reviewers_seen : (layout : Layout) (trees : Trees)
    → overlay trees [] (reviewer_tree layout) ≡ trees (reviewer_tree layout)
reviewers_seen Created trees = refl
reviewers_seen Migrated trees = refl

-- what is so of all tables is so of these

pub of_sets : (layout : Layout) (P : Table → Type 0) → AllByRecursion P (schema_of layout).tables
    → P (set_table (set_tree layout))
of_sets Created P all = all.1.1.1.0
of_sets Migrated P all = all.1.1.1.1.1.1.0

pub of_reviewers : (layout : Layout) (P : Table → Type 0) → AllByRecursion P (schema_of layout).tables
    → P (reviewer_table (reviewer_tree layout))
of_reviewers Created P all = all.1.1.1.1.1.1.0
of_reviewers Migrated P all = all.1.1.1.1.1.1.1.0

-- the table of sets lies in none of the trees of other tables

pub set_apart : (layout : Layout) (tree : ℕ) → (4 == tree) ≡ false → (8 == tree) ≡ false → set_tree layout ≢ tree
set_apart Created tree created migrated = apart 4 tree created
set_apart Migrated tree created migrated = apart 8 tree migrated

pub reviewer_apart : (layout : Layout) (tree : ℕ) → (8 == tree) ≡ false → (9 == tree) ≡ false
    → reviewer_tree layout ≢ tree
reviewer_apart Created tree created migrated = apart 8 tree created
reviewer_apart Migrated tree created migrated = apart 9 tree migrated

pub set_is_no_reviewer : (layout : Layout) → set_tree layout ≢ reviewer_tree layout
set_is_no_reviewer Created = apart 4 8 refl
set_is_no_reviewer Migrated = apart 8 9 refl

-- a change of another table spares them

pub sets_spared : (layout : Layout) (tree : ℕ) (old new : Trees) → set_tree layout ≢ tree
    → SparesOthers layout tree old new → new (set_tree layout) ≡ old (set_tree layout)
sets_spared layout tree old new other spared =
    of_sets layout (λ t. t.tree ≢ tree → new t.tree ≡ old t.tree) spared other

pub reviewers_spared : (layout : Layout) (tree : ℕ) (old new : Trees) → reviewer_tree layout ≢ tree
    → SparesOthers layout tree old new → new (reviewer_tree layout) ≡ old (reviewer_tree layout)
reviewers_spared layout tree old new other spared =
    of_reviewers layout (λ t. t.tree ≢ tree → new t.tree ≡ old t.tree) spared other

-- the earlier table of sets lies in the tree 4

abbrev pub OldApart : Layout → ℕ → Type 0
OldApart Created tree = ⊤
OldApart Migrated tree = 4 ≢ tree

pub old_apart : (layout : Layout) (tree : ℕ) → (4 == tree) ≡ false → OldApart layout tree
old_apart Created tree other = tt
old_apart Migrated tree other = apart 4 tree other

pub old_is_no_set : (layout : Layout) → OldApart layout (set_tree layout)
old_is_no_set Created = tt
old_is_no_set Migrated = apart 4 8 refl

pub old_is_no_reviewer : (layout : Layout) → OldApart layout (reviewer_tree layout)
old_is_no_reviewer Created = tt
old_is_no_reviewer Migrated = apart 4 9 refl

pub old_spared : (layout : Layout) (tree : ℕ) (old new : Trees) → OldApart layout tree
    → SparesOthers layout tree old new → HasNoOldSets layout old → HasNoOldSets layout new
old_spared Created tree old new other spared none = tt
old_spared Migrated tree old new other spared none = spared.1.1.1.0 other ∙ none
