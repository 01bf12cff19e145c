-- The text columns of a vector set, and what they tell.
use Rattle.std.specs.Prelude.{◌≡◌, ℕ, List, [], ◌∷◌, Option, Some, None, Ok}
use Rattle.sqlite.specs.Values.{or_null}
use Rattle.sqlite_value.specs.declared.value.Value.TheVariants.{Text}
use Rattle.sqlite_value.specs.Order.{Row}
use Rattle.acvp_answers.specs.VerdictText.{verdicts_text}
use Rattle.acvp_answers.specs.declared.verdict.Verdict.{Verdict}
use Rattle.acvp_caps.specs.Capability.{CapabilityValue}
use Rattle.acvp_caps.specs.Registered.{registered_text}

abbrev pub text_shown : Option (List ℕ) → Row
text_shown column = or_null Text column ∷ []

-- the text reads as the capability
abbrev pub IsCapabilityOf : Option (List ℕ) → CapabilityValue → Type 0
IsCapabilityOf None told = ⊥
IsCapabilityOf (Some text) told = registered_text text ≡ Ok (Some told)

-- of the column that is found, where one is
abbrev pub TellsCapability : Option (Option (List ℕ)) → Option CapabilityValue → Type 0
TellsCapability None told = told ≡ None
TellsCapability (Some column) None = ⊥
TellsCapability (Some column) (Some told) = IsCapabilityOf column told

-- a text of verdicts reads as they; NULL is none
abbrev pub AreVerdictsOf : Option (List ℕ) → Option (List Verdict) → Type 0
AreVerdictsOf None told = told ≡ None
AreVerdictsOf (Some text) told = (verdicts : List Verdict) → text ≡ verdicts_text verdicts → told ≡ Some verdicts

abbrev pub TellsVerdicts : Option (Option (List ℕ)) → Option (List Verdict) → Type 0
TellsVerdicts None told = told ≡ None
TellsVerdicts (Some column) told = AreVerdictsOf column told

-- the column has the text of a capability
abbrev pub IsOfCapability : Option (List ℕ) → Type 0
IsOfCapability column = (told : CapabilityValue) × IsCapabilityOf column told
