use Rattle.acvp_desk.proofs.own_rows.has_own_vendor.Goals as goal

pub returns-in-Some-clause-found : goal.returns-in-Some-clause-found
returns-in-Some-clause-found g c = rw (← c.vendor.ensures, c.in-Some.is) c.has_object.ensures.found
