use Rattle.std.proofs.Common.{◌≡◌}
use Rattle.acvp_view.proofs.decision.show_certified.Goals as goal

pub returns-in-Certification-clause-whole : goal.returns-in-Certification-clause-whole
returns-in-Certification-clause-whole g c = λ it is.
    let same : it ≡ c.in-Certification.certification = cc in rw same c.show_certification.ensures.whole
