-- What the conditions on the rows with each account's numbers tell of all rows.
use Rattle.std.proofs.Common.{◌≡◌, ℕ, ◌/◌, Bool, true, List, None, Some, refl, sym, subst, inl, inr}
use Rattle.std.specs.Prelude.{filter, ◌==◌}
use Rattle.std.specs.List.{list_all}
use Rattle.std.proofs.lemmas.Bool.{cases_Bool}
use Rattle.acvp_desk.specs.Certifications.{IsLeft}
use Rattle.acvp_desk.specs.Kept.{IsKept}
use Rattle.acvp_mac.specs.Conditions.{first_broken}
use Rattle.acvp_tables.specs.Content.{Content}
use Rattle.acvp_tables.specs.State.{is_account_number, owner_of}
use Rattle.acvp_tables.specs.declared.rows.AccountRow.{AccountRow}
use Rattle.acvp_tables.specs.declared.rows.SessionRow.{SessionRow}
use Rattle.acvp_tables.specs.declared.rows.SetRow.{SetRow}
use Rattle.acvp_tables.specs.declared.rows.ObjectRow.{ObjectRow}
use Rattle.acvp_tables.specs.declared.rows.RequestRow.{RequestRow}
use Rattle.acvp_tables.specs.declared.rows.ReviewerRow.{ReviewerRow}
use Rattle.acvp_tables.proofs.KeptLemmas.{list_all-filter}
use Rattle.acvp_tables.proofs.Numbers.{by_class, eqb_same}
use Rattle.acvp_check.specs.Conditions.{all_conditions, is_beyond_kept}
use Rattle.acvp_check.specs.declared.finding.Finding.{Finding}
use Rattle.acvp_check.specs.Owners.{is_of, is_in, owner_conditions}
use Rattle.acvp_check.specs.Rows.{AreNumbered, rows_numbered}
use Rattle.acvp_check.specs.Whole.{IsWhole}
use Rattle.acvp_check.proofs.Holds.{all_held, none_broken, none_without}
use Rattle.acvp_check.proofs.WholeLemmas.{Owned, kept_owned, not_at, numbers_select, owned, owners_hold}
use Rattle.acvp_check.proofs.WholeLemmas.{kept_tells, owners_unbroken, unbroken}

-- what holds of the rows of each account holds of all, where each is of one
of_accounts : {R : Type 0} (class : R → ℕ) (p : R → Bool) (rows : List R)
    → list_all (λ r. is_account_number (class r)) rows ≡ true
    → ((u : ℕ) → is_account_number u ≡ true → list_all p (filter (λ r. class r == u) rows) ≡ true)
    → list_all p rows ≡ true
of_accounts class p rows numbered parts =
    by_class (λ a b. a == b) class (λ u r. p r) eqb_same rows (λ u. elim (cases_Bool (is_account_number u)) [
      | inl on ↦ parts u on
      | inr off ↦
          let none = none_without (λ r. is_account_number (class r)) (λ r. class r == u)
          (λ r e. not_at (class r) u e off) rows numbered in
          subst (λ found. list_all p found ≡ true) (sym none) refl
    ])

module _ (c : Content) (numbered : AreNumbered c)
    (none : (u : ℕ) → is_account_number u ≡ true → first_broken (owner_conditions (rows_numbered u c)) ≡ None) where
  own : (u : ℕ) → is_account_number u ≡ true → Owned (rows_numbered u c)
  own u on = owned (rows_numbered u c) (none_broken (owner_conditions (rows_numbered u c)) (none u on))

  all_owned : Owned c
  unfolding rows_numbered
  all_owned = record {
    accounts = numbered.accounts;
    sessions = of_accounts (λ (row : SessionRow). owner_of row.number)
        (λ row. is_of row.account row.number) c.sessions numbered.sessions (λ u on. (own u on).sessions);
    sets = of_accounts (λ (row : SetRow). owner_of (row.number / 100))
        (λ row. is_in row.session row.number) c.sets numbered.sets (λ u on. (own u on).sets);
    objects = of_accounts (λ (row : ObjectRow). owner_of row.number)
        (λ row. is_of row.account row.number) c.objects numbered.objects (λ u on. (own u on).objects);
    requests = of_accounts (λ (row : RequestRow). owner_of row.number)
        (λ row. is_of row.account row.number) c.requests numbered.requests (λ u on. (own u on).requests);
    reviewers = numbered.reviewers;
  }

  pub numbered_whole : (grades : Bool) (seeds : List (List ℕ))
      → ((u : ℕ) → is_account_number u ≡ true → first_broken (all_conditions grades seeds u (rows_numbered u c)) ≡ None)
      → IsWhole grades seeds c
  numbered_whole grades seeds judged =
      let owners = all_held (owner_conditions c) (owners_hold c all_owned) in record {
        owners = owners;
        accounts = λ u on. subst (λ mine. first_broken (all_conditions grades seeds u mine) ≡ None)
            (numbers_select u c owners) (judged u on);
      }

module _ (seeds : List (List ℕ)) (c : Content) (is : IsKept seeds c) where
  kept_part : (u : ℕ) → Owned (rows_numbered u c)
  unfolding rows_numbered
  kept_part u =
      let all = kept_owned seeds c is in record {
        accounts = list_all-filter (λ (row : AccountRow). is_account_number row.number)
            (λ row. row.number == u) c.accounts all.accounts;
        sessions = list_all-filter (λ (row : SessionRow). is_of row.account row.number)
            (λ row. owner_of row.number == u) c.sessions all.sessions;
        sets = list_all-filter (λ (row : SetRow). is_in row.session row.number)
            (λ row. owner_of (row.number / 100) == u) c.sets all.sets;
        objects = list_all-filter (λ (row : ObjectRow). is_of row.account row.number)
            (λ row. owner_of row.number == u) c.objects all.objects;
        requests = list_all-filter (λ (row : RequestRow). is_of row.account row.number)
            (λ row. owner_of row.number == u) c.requests all.requests;
        reviewers = list_all-filter (λ (row : ReviewerRow). is_account_number (owner_of row.session))
            (λ row. owner_of row.session == u) c.reviewers all.reviewers;
      }

  pub part_unbroken : (u : ℕ) → first_broken (owner_conditions (rows_numbered u c)) ≡ None
  part_unbroken u = all_held (owner_conditions (rows_numbered u c)) (owners_hold (rows_numbered u c) (kept_part u))

pub part_tells : (seeds : List (List ℕ)) (c : Content) → IsKept seeds c → (grades : Bool) (u : ℕ) (found : Finding)
    → first_broken (all_conditions grades seeds u (rows_numbered u c)) ≡ Some found
    → is_beyond_kept found.wrong ≡ true
part_tells seeds c is grades u found broken = kept_tells seeds c is grades u found
    (subst (λ mine. first_broken (all_conditions grades seeds u mine) ≡ Some found)
    (numbers_select u c (owners_unbroken seeds c is)) broken)

pub account_unbroken : (seeds : List (List ℕ)) (c : Content) → IsLeft seeds c → (grades : Bool) (u : ℕ)
    → first_broken (all_conditions grades seeds u (rows_numbered u c)) ≡ None
account_unbroken seeds c is grades u =
    subst (λ mine. first_broken (all_conditions grades seeds u mine) ≡ None)
    (sym (numbers_select u c (owners_unbroken seeds c is.kept))) (unbroken seeds c is grades u)
