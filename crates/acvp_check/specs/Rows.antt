-- The rows of one account.
use Rattle.std.specs.Prelude.{◌≡◌, ℕ, ◌/◌, filter, ◌==◌, true}
use Rattle.std.specs.List.{list_all}
use Rattle.acvp_tables.specs.Content.{Content}
use Rattle.acvp_tables.specs.State.{is_account_number, owner_of}

-- what an account owns of a content
unfoldable pub rows_of : ℕ → Content → Content
rows_of u c = record {
  accounts = filter (λ row. row.number == u) c.accounts;
  sessions = filter (λ row. row.account == u) c.sessions;
  sets = filter (λ row. owner_of row.session == u) c.sets;
  objects = filter (λ row. row.account == u) c.objects;
  requests = filter (λ row. row.account == u) c.requests;
  reviewers = filter (λ row. owner_of row.session == u) c.reviewers;
}

-- the rows that are an account's by their numbers, which lie beside one another in the order of the tables' keys
unfoldable pub rows_numbered : ℕ → Content → Content
rows_numbered u c = record {
  accounts = filter (λ row. row.number == u) c.accounts;
  sessions = filter (λ row. owner_of row.number == u) c.sessions;
  sets = filter (λ row. owner_of (row.number / 100) == u) c.sets;
  objects = filter (λ row. owner_of row.number == u) c.objects;
  requests = filter (λ row. owner_of row.number == u) c.requests;
  reviewers = filter (λ row. owner_of row.session == u) c.reviewers;
}

-- each row has a number that begins with an account's, 1 to 9999, and a reviewer's session has
pub record AreNumbered (c : Content) : Type 0 where
  pub accounts : list_all (λ row. is_account_number row.number) c.accounts ≡ true
  pub sessions : list_all (λ row. is_account_number (owner_of row.number)) c.sessions ≡ true
  pub sets : list_all (λ row. is_account_number (owner_of (row.number / 100))) c.sets ≡ true
  pub objects : list_all (λ row. is_account_number (owner_of row.number)) c.objects ≡ true
  pub requests : list_all (λ row. is_account_number (owner_of row.number)) c.requests ≡ true
  pub reviewers : list_all (λ row. is_account_number (owner_of row.session)) c.reviewers ≡ true
