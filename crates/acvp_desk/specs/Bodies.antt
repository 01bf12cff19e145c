-- The conditions on the body of a request, each with the rule that says that it doesn't hold.
use Rattle.std.specs.Prelude.{ℕ, List, [], map, ◌++◌, Option, Some, None}
use Rattle.acvp_json.specs.Data.{Data}
use Rattle.acvp_caps.specs.declared.CapFault.{CapFault}
use Rattle.acvp_caps.specs.declared.CapFault.TheVariants as cap
use Rattle.acvp_mac.specs.Conditions.{Condition, with_fault}
use Rattle.acvp_json.specs.Envelope.{envelope_conditions, object_of}
use Rattle.acvp_json.specs.declared.fault.BodyFault.{BodyFault}
use Rattle.acvp_json.specs.declared.fault.BodyFault.TheVariants as fault
use Rattle.acvp_policy.specs.declared.rule.Rule.{Rule}
use Rattle.acvp_policy.specs.declared.rule.Rule.TheVariants as rule
use Rattle.acvp_registry.specs.declared.fault.RegFault.{RegFault}
use Rattle.acvp_registry.specs.declared.fault.RegFault.TheVariants as reg

-- the rule of a body's fault
abbrev pub rule_of : BodyFault → Rule
rule_of fault.BodyNotJson = rule.BodyNotJson
rule_of fault.BodyEnvelope = rule.BodyEnvelope
rule_of fault.BodyField = rule.BodyField
rule_of fault.UnknownTest = rule.UnknownTest
rule_of fault.DuplicateTest = rule.DuplicateTest
rule_of fault.SetMismatch = rule.SetMismatch
rule_of fault.NoReference = rule.NoReference
rule_of fault.Memory = rule.Unavailable

-- the rule of a registration's fault
abbrev pub registration_rule : CapFault → Rule
registration_rule cap.Field = rule.BodyField
registration_rule cap.NotByteOriented = rule.NotByteOriented
registration_rule cap.OutOfRange = rule.LengthOutOfRange
registration_rule cap.Unsupported = rule.Unsupported
registration_rule cap.Memory = rule.Unavailable

-- the rule of the fault of an object that is to be registered
abbrev pub object_rule : RegFault → Rule
object_rule reg.Field = rule.BodyField
object_rule reg.NoReference = rule.NoReference
object_rule reg.Memory = rule.Unavailable

-- what is asked of the object of a body, where there is one
abbrev pub object_conditions : {F : Type 0} → (Data → List (Condition F)) → Option Data → List (Condition F)
object_conditions conditions None = []
object_conditions conditions (Some d) = conditions d

-- what is asked of a body: its envelope, and then its object, whose faults are told as rules
abbrev pub body_conditions : {F : Type 0} → (F → Rule) → (Data → List (Condition F)) → List ℕ → List (Condition Rule)
body_conditions told conditions body =
    map (with_fault rule_of) (envelope_conditions body)
    ++ map (with_fault told) (object_conditions conditions (object_of body))
