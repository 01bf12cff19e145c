-- Whose rows a change is of.
use Rattle.std.specs.Prelude.{◌≡◌, ℕ, ◌/◌, ⊤}
use Rattle.acvp_tables.specs.State.{owner_of}
use Rattle.acvp_tables.specs.declared.change.Change.{Change}
use Rattle.acvp_tables.specs.declared.change.Change.TheVariants as change
use Rattle.acvp_tables.specs.declared.change.OrderChange.{OrderChange}
use Rattle.acvp_tables.specs.declared.change.OrderChange.TheVariants as order

-- the account whose rows an accepted action changes
abbrev pub account_of_change : Change → ℕ
account_of_change (change.UseStep u) = u.account
account_of_change (change.NewSession s) = s.account
account_of_change (change.KeepAnswers k) = owner_of k.session
account_of_change (change.CancelSession n) = owner_of n
account_of_change (change.CancelSet x) = owner_of x.session
account_of_change (change.NewRequest r) = r.account
account_of_change (change.Certify c) = owner_of c.certification.session
account_of_change (change.AddReviewer r) = owner_of r.session
account_of_change (change.RemoveReviewer r) = owner_of r.session

-- the account whose rows an order changes
abbrev pub account_of_order : OrderChange → ℕ
account_of_order (order.AddAccount a) = a.account
account_of_order (order.DisableAccount n) = n
account_of_order (order.Approve a) = owner_of a.request
account_of_order (order.Reject n) = owner_of n

-- the numbers in a change are of one account, and a set's is of its session
abbrev pub Fits : Change → Type 0
Fits (change.NewSession s) = owner_of s.number ≡ s.account
Fits (change.KeepAnswers k) = (k.set / 100) ≡ k.session
Fits (change.CancelSet x) = (x.set / 100) ≡ x.session
Fits (change.NewRequest r) = owner_of r.number ≡ r.account
Fits (change.Certify c) = (c.account ≡ owner_of c.certification.session) × (owner_of c.number ≡ c.account)
Fits _ = ⊤
