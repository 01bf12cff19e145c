-- What is handed on as the items of an array is the array's lines.
use Rattle.std.proofs.Common.{◌≡◌, ℕ, List, [], ◌∷◌, ◌++◌, false, true, refl, subst}
use Rattle.acvp_view.specs.Items.{array_lines, end_of, item_lines, mark_of}
use Rattle.acvp_view.specs.Lines.{TakesAll}
use Rattle.acvp_view.specs.declared.items.Items.{Items}

module _ {L : Type 0} (takes : L → List ℕ → L → Type 0) where
  abbrev pub TakesItem : Items L → List ℕ → Items L → Type 0
  TakesItem before item after =
      takes before.lines (mark_of before.is_first ++ item) after.lines × (after.is_first ≡ false)

  pub array_taken : (items : List (List ℕ)) (before after : Items L) (last : L) → TakesAll TakesItem items before after
      → takes after.lines (end_of after.is_first) last
      → TakesAll takes (item_lines before.is_first items) before.lines last
  unfolding item_lines
  array_taken [] before after last same end =
      (last, subst (λ (it : Items L). takes it.lines (end_of it.is_first) last) same end, refl)
  array_taken (item ∷ items) before after last (between, (taken, first), rest) end = (
    between.lines,
    taken,
    subst (λ is_first. TakesAll takes (item_lines is_first items) between.lines last) first
        (array_taken items between after last rest end),
  )

  -- all of them, from the first on
  pub array_whole : (items : List (List ℕ)) (before after : Items L) (lines last : L) → before.lines ≡ lines
      → before.is_first ≡ true → TakesAll TakesItem items before after → takes after.lines (end_of after.is_first) last
      → TakesAll takes (array_lines items) lines last
  array_whole items before after lines last is first taken end =
      subst (λ is_first. TakesAll takes (item_lines is_first items) lines last) first
      (subst (λ from. TakesAll takes (item_lines before.is_first items) from last) is
      (array_taken items before after last taken end))
