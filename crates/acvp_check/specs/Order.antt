-- The order of rows: a file gives them in the order of its tables' keys, and a content's lists may have any.
use Rattle.std.specs.Prelude.{◌≡◌, ℕ, List, [], ◌∷◌, Bool, true, ◌&&◌, nat_lt}
use Rattle.std.specs.List.{list_all}
use Rattle.std.specs.List.Sorted.{IsPermutation}
use Rattle.acvp_registry.specs.declared.kind.Kind.{Kind}
use Rattle.acvp_tables.specs.Content.{Content}
use Rattle.acvp_tables.specs.State.{objects_in}

-- the same rows in any order
pub record HaveSameRows (c d : Content) : Type 0 where
  pub accounts : IsPermutation c.accounts d.accounts
  pub sessions : IsPermutation c.sessions d.sessions
  pub sets : IsPermutation c.sets d.sets
  pub objects : IsPermutation c.objects d.objects
  pub requests : IsPermutation c.requests d.requests
  pub reviewers : IsPermutation c.reviewers d.reviewers

-- each row has a greater number than all before it
abbrev pub rises : {Row : Type 0} → (Row → ℕ) → List Row → Bool
rises number [] = true
rises number (row ∷ rows) = list_all (λ later. nat_lt (number row) (number later)) rows && rises number rows

-- numbers rise: of sessions, of vector sets, of requests and of the objects of each kind
pub record AreInOrder (c : Content) : Type 0 where
  pub sessions : rises (λ row. row.number) c.sessions ≡ true
  pub sets : rises (λ row. row.number) c.sets ≡ true
  pub objects : (kind : Kind) → rises (λ row. row.number) (objects_in kind c.objects) ≡ true
  pub requests : rises (λ row. row.number) c.requests ≡ true
