-- The reviewers of a test session: who is named, whether there is room, and the list after it.
use Rattle.std.specs.Prelude.{ℕ, List, ◌∷◌, ◌++◌, length, filter, Bool, true, ◌||◌, ◌==◌, not, nat_lt, Option}
use Rattle.std.specs.Prelude.{Some, None, option_and_then}
use Rattle.std.specs.List.{list_any}
use Rattle.acvp_json.specs.Envelope.{object_of}
use Rattle.acvp_json.specs.ReviewerBody.{reviewer_body_of}

-- the account that the bytes of a body name
abbrev pub reviewer_at : List ℕ → Option ℕ
reviewer_at body = option_and_then reviewer_body_of (object_of body)

-- the account that is named reviews the session already, or fewer than 16 do
abbrev pub has_room : List ℕ → Option ℕ → Bool
has_room accounts (Some a) = list_any (λ b. b == a) accounts || nat_lt (length accounts) 16
has_room accounts None = true

-- ascending accounts with one more among them: those below it, it, and those above it
abbrev pub with_account : ℕ → List ℕ → List ℕ
with_account a accounts = filter (λ b. nat_lt b a) accounts ++ a ∷ filter (λ b. nat_lt a b) accounts

-- accounts without one
abbrev pub without_account : ℕ → List ℕ → List ℕ
without_account a accounts = filter (λ b. not (b == a)) accounts
