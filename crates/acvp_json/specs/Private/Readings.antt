-- What a reader of a part answers.
use Rattle.std.specs.Prelude.{◌≡◌, ◌⊎◌, Option, Some, None, Result, Ok, Err}
use Rattle.acvp_json.specs.declared.fault.BodyFault.{BodyFault}
use Rattle.acvp_json.specs.declared.fault.BodyFault.TheVariants.{BodyField, Memory}

-- what was read, or BodyField where there is nothing to read; or memory was refused
abbrev pub IsRead : {T X : Type 0} → Result T BodyFault → (T → X) → Option X → Type 0
IsRead (Ok value) shown read = read ≡ Some (shown value)
IsRead (Err fault) shown read = (fault ≡ Memory) ⊎ ((fault ≡ BodyField) × (read ≡ None))
