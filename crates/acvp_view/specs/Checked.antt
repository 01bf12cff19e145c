-- What the line of a check says of the rows.
use Rattle.std.specs.Prelude.{◌≡◌, ℕ, Bool, List}
use Rattle.sqlite_trees.specs.Tree.{Trees}
use Rattle.acvp_store.specs.Schema.{Layout}
use Rattle.acvp_audit.specs.Checked.{IsFirst, IsRefuted, IsWholeAs}
use Rattle.acvp_audit.specs.Read.{AreInTrees}
use Rattle.acvp_audit.specs.declared.damage.Damage.{Damage}
use Rattle.acvp_audit.specs.declared.damage.Totals.{Totals}
use Rattle.acvp_view.specs.Damaged.{damage_text, whole_text}
use Rattle.acvp_view.specs.declared.form.Form.{Form}

-- it is that of so many rows, which are whole
pub record IsWholeLine (form : Form) (grades : Bool) (seeds : List (List ℕ)) (layout : Layout) (trees : Trees)
    (line : List ℕ) : Type 0 where
  pub totals : Totals
  pub told : line ≡ whole_text form totals
  pub whole : IsWholeAs grades seeds layout trees totals

-- it is that of what is wrong, and is wrong first
pub record IsWrongLine (form : Form) (grades : Bool) (seeds : List (List ℕ)) (layout : Layout) (trees : Trees)
    (line : List ℕ) : Type 0 where
  pub found : Damage
  pub told : line ≡ damage_text form found
  pub refuted : IsRefuted grades seeds layout trees found
  pub first : AreInTrees layout trees → IsFirst grades seeds layout trees found
