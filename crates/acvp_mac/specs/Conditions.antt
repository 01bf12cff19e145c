-- Conditions in their order, each with the fault that says it doesn't hold: the answer is the fault of the first broken
-- one.
use Rattle.std.specs.Prelude.{◌≡◌, ◌⊎◌, List, Bool, not, find, Option, Some, None, option_map, Result, Ok, Err}

-- a condition that must hold, and the fault where it doesn't
abbrev pub Condition : Type 0 → Type 0
Condition F = Bool × F

-- the fault of the first condition that doesn't hold, if any
abbrev pub first_broken : {F : Type 0} → List (Condition F) → Option F
first_broken conditions = option_map (λ c. c.1) (find (λ c. not c.0) conditions)

-- the value, unless there is a fault
abbrev pub unless : {F X : Type 0} → Option F → X → Result X F
unless None value = Ok value
unless (Some fault) value = Err fault

-- the value where all conditions hold, else the fault of the first that doesn't
abbrev pub judged : {F X : Type 0} → List (Condition F) → X → Result X F
judged conditions value = unless (first_broken conditions) value

-- what is judged, with each fault told as another
abbrev pub with_fault : {F G : Type 0} → (F → G) → Condition F → Condition G
with_fault f c = (c.0, f c.1)

-- A call's result is what is expected, where a value of the result is shown as a value of the definitions; or it is
-- the fault that says that memory was refused.
abbrev pub IsJudged : {F T X : Type 0} → F → (T → X) → Result X F → Result T F → Type 0
IsJudged memory shown expected (Ok value) = expected ≡ Ok (shown value)
IsJudged memory shown expected (Err fault) = (fault ≡ memory) ⊎ (expected ≡ Err fault)
