use Rattle.std.proofs.Common.{◌≡◌, true, false, sym, ◌∙◌}
use Rattle.acvp_check.proofs.Joins.{apart}
use Rattle.acvp_check.proofs.NumberedRows.{account_unbroken, numbered_whole, part_tells, part_unbroken}
use Rattle.acvp_check.proofs.laws.numbered_rows_tell.Goals as goal

pub returns-clause-whole : goal.returns-clause-whole
returns-clause-whole c = λ grades seeds content numbered owners judged.
    numbered_whole content numbered owners grades seeds judged

pub returns-clause-owner : goal.returns-clause-owner
returns-clause-owner c = λ seeds u content found broken is. apart _ found broken (part_unbroken seeds content is u)

pub returns-clause-account : goal.returns-clause-account
returns-clause-account c = λ grades seeds u content found broken is.
    apart _ found broken (account_unbroken seeds content is grades u)

pub returns-clause-kept : goal.returns-clause-kept
returns-clause-kept c = λ grades seeds u content found broken no is.
    let both_ways : true ≡ false = sym (part_tells seeds content is grades u found broken) ∙ no in
    absurd (cc (both_ways))
