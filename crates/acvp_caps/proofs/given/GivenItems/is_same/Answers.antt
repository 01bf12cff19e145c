use Rattle.std.proofs.Common.{◌≡◌, ◌∙◌, sym, arith}
use Rattle.std.specs.Bool.{Decides}
use Rattle.std.proofs.lemmas.Slice.Eq.{slice_eq-Decides}
use Rattle.std.proofs.lemmas.Grind.{common_steps}
use Rattle.acvp_caps.specs.declared.item.Item.{Item}
use Rattle.acvp_caps.specs.declared.item.Item.TheVariants.{Single, Range}
use Rattle.acvp_caps.specs.contracts.item.ItemPartialEq.TheImpl.{eq-value}
use Rattle.acvp_caps.proofs.given.GivenItems.is_same.Goals as goal

-- the code's comparison of items decides whether they are the same
decides : (a b : Item) → Decides (eq-value.it a b) (a ≡ b)
decides (Single m) (Single n) = (λ h. grind (arith, common_steps), λ h. grind (arith, common_steps))
decides (Single m) (Range a b c) = (λ h. cc, λ h. cc)
decides (Range a b c) (Single m) = (λ h. cc, λ h. cc)
decides (Range a b c) (Range d e f) = (λ h. grind (arith, common_steps), λ h. grind (arith, common_steps))

pub returns : goal.returns
returns c =
    let list = c.self.inside.list.items in
    let other = c.other.inside.list.items in
    let exact = slice_eq-Decides decides list other c.eq.result c.eq.ensures in (
      λ yes. sym c.self.view_is ∙ exact.0 yes ∙ c.other.view_is,
      λ same. exact.1 (c.self.view_is ∙ same ∙ sym c.other.view_is),
    )
