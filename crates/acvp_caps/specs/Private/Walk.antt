-- Steps upwards through the numbers of several items, for private clauses.
use Rattle.std.specs.Prelude.{◌≡◌, ◌⊎◌, ℕ, ◌≤◌, List, [], min, Bool, true, false, Option, None, Some, MatchOption, All}
use Rattle.acvp_caps.specs.declared.item.Item.{Item}
use Rattle.acvp_caps.specs.Items.{last, is_formed}
use Rattle.acvp_caps.specs.Members.{is_member}

-- n is the least number from `start` on that passes a test
pub record IsLeastFrom (p : ℕ → Bool) (start n : ℕ) : Type 0 where
  pub from_start : start ≤ n
  pub passes : p n ≡ true
  pub below : (m : ℕ) → start ≤ m → p m ≡ true → n ≤ m

-- the least number from `start` on that passes a test, if there is one
abbrev pub IsNextMember : (ℕ → Bool) → ℕ → Option ℕ → Type 0
IsNextMember p start o = MatchOption o ((m : ℕ) → start ≤ m → p m ≡ false) (IsLeastFrom p start)

-- the lesser of two numbers, of those that are there
abbrev pub earlier : Option ℕ → Option ℕ → Option ℕ
earlier None b = b
earlier (Some m) None = Some m
earlier (Some m) (Some n) = Some (min m n)

-- n is the greatest number of the items, or 0 where there is no item
pub record IsGreatest (items : List Item) (n : ℕ) : Type 0 where
  pub above : (m : ℕ) → is_member items m ≡ true → m ≤ n
  pub here : (is_member items n ≡ true) ⊎ ((items ≡ []) × (n ≡ 0))

-- each item has the form
abbrev pub AllFormed : List Item → Type 0
AllFormed items = All (λ i. is_formed i ≡ true) items

-- no item goes past the longest length that any parameter takes
abbrev pub AllBounded : List Item → Type 0
AllBounded items = All (λ i. last i ≤ 524288) items
