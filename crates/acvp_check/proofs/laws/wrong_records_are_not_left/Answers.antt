use Rattle.acvp_check.proofs.Joins.{apart}
use Rattle.std.proofs.Common.{◌≡◌, true, false, sym, ◌∙◌}
use Rattle.acvp_check.proofs.WholeLemmas.{kept_tells, owners_unbroken, unbroken}
use Rattle.acvp_check.proofs.laws.wrong_records_are_not_left.Goals as goal

pub returns-clause-owner : goal.returns-clause-owner
returns-clause-owner c = λ seeds content found broken is. apart _ found broken (owners_unbroken seeds content is)

pub returns-clause-account : goal.returns-clause-account
returns-clause-account c = λ grades seeds u content found broken is.
    apart _ found broken (unbroken seeds content is grades u)

pub returns-clause-kept : goal.returns-clause-kept
returns-clause-kept c = λ grades seeds u content found broken no is.
    let both_ways : true ≡ false = sym (kept_tells seeds content is grades u found broken) ∙ no in
    absurd (cc (both_ways))
