use Rattle.std.proofs.Common.{sym, ◌∙◌}
use Rattle.acvp_caps.specs.Members.{members}
use Rattle.acvp_caps.proofs.MembersLemmas.{members-list}
use Rattle.acvp_caps.proofs.DomainLemmas.{contains-from, contains-to}
use Rattle.acvp_caps.proofs.domain.members_are_exact.Goals as goal

pub returns-clause-ascending : goal.returns-clause-ascending
returns-clause-ascending c = λ items. (members-list items).ascending

pub returns-clause-exact : goal.returns-clause-exact
returns-clause-exact c = λ items n.
    let exact = (members-list items).exact n in
    (λ there. sym exact ∙ contains-to (members items) n there, λ has. contains-from (members items) n (exact ∙ has))
