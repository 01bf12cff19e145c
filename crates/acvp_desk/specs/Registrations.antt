-- What every run keeps of registrations, whatever is asked and ordered.
use Rattle.std.specs.Prelude.{◌≡◌, ℕ, List, find, Bool, true, ◌==◌, ◌&&◌}
use Rattle.std.specs.Str.{bytes_eq}
use Rattle.acvp_policy.specs.Conditions.{is_some_and}
use Rattle.acvp_registry.specs.Object.{KeptObject, object_text}
use Rattle.acvp_registry.specs.declared.kind.Kind.{Kind}
use Rattle.acvp_tables.specs.Content.{Content, object_at, request_at}
use Rattle.acvp_tables.specs.State.{given_number, is_approved_as, is_registration_of, of_all}
use Rattle.acvp_tables.specs.declared.rows.ObjectRow.{ObjectRow}
use Rattle.acvp_tables.specs.declared.rows.RequestBody.{RequestBody}
use Rattle.acvp_tables.specs.declared.rows.RequestBody.TheVariants as body
use Rattle.acvp_tables.specs.declared.rows.RequestRow.{RequestRow}

-- the object's row is of the account, and has the text of the object that was asked for
abbrev pub is_object_of : ℕ → KeptObject → ObjectRow → Bool
is_object_of account asked row = (row.account == account) && bytes_eq (object_text row.object) (object_text asked)

-- what an approval registered under a number is there, as it was asked for; a certification registers nothing
abbrev pub is_there_as_asked : List ObjectRow → ℕ → RequestBody → ℕ → Bool
is_there_as_asked objects account (body.Registration asked) n =
    is_some_and (object_at asked.kind n objects) (is_object_of account asked)
is_there_as_asked objects account (body.Certification c) n = true

-- where a registration is approved, its object is there, as the request asks for it
abbrev pub is_as_asked : List ObjectRow → RequestRow → Bool
is_as_asked objects row = of_all (is_there_as_asked objects row.account row.body) (given_number row.status)

-- a registration of an object of a kind, approved with a number
abbrev pub is_given : Kind → ℕ → RequestRow → Bool
is_given kind n row = is_registration_of kind row.body && is_approved_as n row.status

-- the first registration of the kind that is approved with the number is the request of this number
abbrev pub is_first_given : List RequestRow → ℕ → RequestBody → ℕ → Bool
is_first_given requests number (body.Registration asked) n =
    is_some_and (find (is_given asked.kind n) requests) (λ row. row.number == number)
is_first_given requests number (body.Certification c) n = true

-- where a registration is approved, no other one gave the object's number
abbrev pub is_given_once : List RequestRow → RequestRow → Bool
is_given_once requests row = of_all (is_first_given requests row.number row.body) (given_number row.status)

pub record AreRegistered (c : Content) : Type 0 where
  pub asked : (n : ℕ) → of_all (is_as_asked c.objects) (request_at n c.requests) ≡ true
  pub once : (n : ℕ) → of_all (is_given_once c.requests) (request_at n c.requests) ≡ true
