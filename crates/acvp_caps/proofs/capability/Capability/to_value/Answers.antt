use Rattle.std.proofs.Common.{◌≡◌, subst}
use Rattle.std.proofs.lemmas.Result.{IfOk-weaker}
use Rattle.serde_json.specs.View.{view}
use Rattle.serde_json.specs.declared.value.Value.{Value}
use Rattle.acvp_caps.specs.Capability.{CapabilityValue}
use Rattle.acvp_caps.specs.Private.Written.{IsCapabilityData, domain_data, hash_data, hmac_data}
use Rattle.acvp_caps.proofs.CapabilityTextLemmas.{hash-written, hmac-written}
use Rattle.acvp_caps.proofs.capability.Capability.to_value.Goals as goal

pub returns-in-MessageItems : goal.returns-in-MessageItems
returns-in-MessageItems c =
    IfOk-weaker c.hash_value.result
    (λ (v : Value). view v ≡ hash_data c.name-name.result.now (domain_data c.in-MessageItems.message))
    (λ (v : Value). IsCapabilityData c.args.self.now (view v))
    (λ v w. subst (λ (x : CapabilityValue). IsCapabilityData x (view v)) c.self.view_is
    (hash-written c.self.inside.algorithm c.self.inside.domains c.self.inside.given c.name-name.result.now
    c.in-MessageItems.message (view v) c.in-MessageItems.is c.name-name.ensures c.self.invariant w))
    c.hash_value.ensures

pub returns-in-KeyAndMacItems : goal.returns-in-KeyAndMacItems
returns-in-KeyAndMacItems c =
    IfOk-weaker c.hmac_value.result
    (λ (v : Value). view v
    ≡ hmac_data c.name-name.result.now (domain_data c.in-KeyAndMacItems.key) (domain_data c.in-KeyAndMacItems.mac))
    (λ (v : Value). IsCapabilityData c.args.self.now (view v))
    (λ v w. subst (λ (x : CapabilityValue). IsCapabilityData x (view v)) c.self.view_is
    (hmac-written c.self.inside.algorithm c.self.inside.domains c.self.inside.given c.name-name.result.now
    c.in-KeyAndMacItems.key c.in-KeyAndMacItems.mac (view v) c.in-KeyAndMacItems.is c.name-name.ensures
    c.self.invariant w))
    c.hmac_value.ensures
