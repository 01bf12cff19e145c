use Rattle.std.specs.Prelude.{All}
use Rattle.acvp_caps.specs.Capability.{AreDomainsOf}
use Rattle.acvp_gen.proofs.ChoiceLemmas.{IsShapeOf, fit_shapes}
use Rattle.acvp_gen.proofs.GroupLemmas.{are_groups}
use Rattle.acvp_gen.proofs.generation.prompts.Goals as goal

-- what holds of the groups follows from their definition
pub invariant_of-result : goal.invariant_of-result
invariant_of-result c =
    let fit : AreDomainsOf c.algorithm-algorithm.result c.domains-domains.result.now =
    rw (c.algorithm-algorithm.ensures, c.domains-domains.ensures.value) c.domains-domains.ensures.fit in
    let shapes : All (IsShapeOf c.algorithm-algorithm.result) c.deref.result.now =
    rw (c.deref.ensures.value, c.in_ok-shapes.ensures.value)
    (fit_shapes _ _ c.algorithm-algorithm.result c.domains-domains.result.now fit) in
    rw c.in_ok-groups.ensures
    (are_groups c.algorithm-algorithm.result _ _ _ c.deref.result.now shapes)
