use Rattle.acvp_audit.proofs.laws.whole_files_begin.Goals as goal

pub returns : goal.returns
returns g c = λ seeds tables totals ours serves whole.
    (whole.records, (ours.layout, ours.schema, whole.stand, serves), whole.left)
