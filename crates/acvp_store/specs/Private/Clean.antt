-- An open store is clean, by the law of each store; and a store is open or shut.
use Rattle.std.specs.Prelude.{◌≡◌, ◌⊎◌, Bool, true, false, IsTrue, ⊤}
use Rattle.std.proofs.Common.{◌∙◌, inl, inr, refl, sym, subst}
use Rattle.sqlite_trees.specs.View.{doubt}
use Rattle.sqlite_trees.proofs.Doubt.{no_doubt}

abbrev Holds : Bool → Type 0
Holds true = ⊤
Holds false = ⊥

pub open_is_clean : {is_clean is_open : Bool} → (is_clean ≡ false → is_open ≡ false) → IsTrue is_open
    → doubt is_clean ≡ 0
open_is_clean {is_clean = true} law h = no_doubt true refl
open_is_clean {is_clean = false} law h = absurd (subst Holds (sym h ∙ law refl) tt)

pub open_or_shut : (is_open : Bool) → IsTrue is_open ⊎ (IsTrue is_open → ⊥)
open_or_shut true = inl refl
open_or_shut false = inr (λ h. subst Holds (sym h) tt)
