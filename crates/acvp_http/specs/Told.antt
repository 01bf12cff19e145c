-- What is told of a request that was answered: what it asks, who asked, and by which rule it was refused.
use Rattle.std.specs.Prelude.{◌≡◌, ◌⊎◌, ℕ, List, [], Bool, Option, Some, None, Result, Ok, Err}
use Rattle.std.specs.Prelude.{⊤}
use Rattle.acvp_policy.specs.declared.rule.Rule.{Rule}
use Rattle.acvp_policy.specs.declared.rule.Rule.TheVariants.{NoMethod, Unavailable}
use Rattle.acvp_tables.specs.Meaning.{Meaning}
use Rattle.acvp_desk.specs.Named.{IsNamed}
use Rattle.acvp_desk.specs.Request.{RequestValue}
use Rattle.acvp_desk.specs.declared.keys.Keys.{Keys}
use Rattle.acvp_http.specs.Connection.{AnswersInput, unavailable_reply}
use Rattle.acvp_http.specs.Reply.{framed, method_refusal, refusal}
use Rattle.acvp_http.specs.Serve.{AsksTheDesk, RefusesAtOnce}
use Rattle.acvp_http.specs.Source.{Gets, GetsFront, Gives, InputStream, OutputStream}
use Rattle.acvp_http.specs.declared.connection.ServeFault.{ServeFault}
use Rattle.acvp_http.specs.declared.connection.ServeFault.TheVariants.{Read, Turns, Write}
use Rattle.acvp_http.specs.declared.path.Path.{Path}
use Rattle.acvp_http.specs.declared.told.Told.{Told}

-- the reply is that of the rule; without one its status is 200
abbrev pub ShowsRule : Option Rule → List ℕ → Type 0
ShowsRule None reply = (date : List ℕ) × (body : List ℕ) × (reply ≡ framed 200 (Some date) [] body)
ShowsRule (Some rule) reply =
    ((date : Option (List ℕ)) × (reply ≡ refusal date rule))
    ⊎ ((rule ≡ NoMethod) × (date : List ℕ) × (path : Path) × (reply ≡ method_refusal date path))

abbrev pub result_by : Option Rule → Result ⊤ Rule
result_by None = Ok tt
result_by (Some rule) = Err rule

-- It is told which rule the reply is of. Of bytes that are a request of the desk it is told what that asks, and the
-- account that asked as far as the desk knows it; of bytes that are refused before they reach it, neither.
pub record Tells {T : Type 0} (keys : Keys) (moment : ℕ) (bytes reply : List ℕ) (old new : T) (told : Told)
    : Type 0 where
  pub shows : ShowsRule told.refused reply
  pub names : (RefusesAtOnce moment bytes reply × (told.asked ≡ None) × (told.account ≡ None))
      ⊎ ((r : RequestValue) × AsksTheDesk moment bytes r × (told.asked ≡ Some r.ask)
      × IsNamed (result_by told.refused) old new keys moment r told.account)

-- And so of what was taken of an input; or memory for it was refused, the tables are left alone, and nothing else is
-- told.
abbrev pub TellsInput : {T : Type 0} → Keys → ℕ → InputStream → InputStream → List ℕ → T → T → Told → Type 0
TellsInput keys moment input left reply old new told =
    ((bytes : List ℕ) × Gives input left bytes × Tells keys moment bytes reply old new told)
    ⊎ ((reply ≡ unavailable_reply) × (new ≡ old)
    × (told ≡ record { asked = None; account = None; refused = Some Unavailable }))

module _ {T : Type 0} (meaning : Meaning T) where
  -- It is told of the request that was answered so, whose reply went out, or a front of it; of none that wasn't
  -- handled.
  abbrev pub TellsOne : Keys → ℕ → InputStream → InputStream → OutputStream → OutputStream → T → T
      → Result Bool ServeFault → Option Told → Type 0
  TellsOne keys moment input left written out old new (Ok unavailable) told =
      (reply : List ℕ) × (it : Told) × (told ≡ Some it) × Gets written out reply
      × AnswersInput meaning keys moment input left reply old new × TellsInput keys moment input left reply old new it
  TellsOne keys moment input left written out old new (Err Write) told =
      (reply : List ℕ) × (it : Told) × (told ≡ Some it) × GetsFront written out reply
      × AnswersInput meaning keys moment input left reply old new × TellsInput keys moment input left reply old new it
  TellsOne keys moment input left written out old new (Err Read) told = told ≡ None
  TellsOne keys moment input left written out old new (Err Turns) told = told ≡ None
