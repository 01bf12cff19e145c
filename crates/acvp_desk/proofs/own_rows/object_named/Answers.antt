use Rattle.acvp_desk.proofs.own_rows.object_named.Goals as goal

pub returns-in-Ok-clause-found : goal.returns-in-Ok-clause-found
returns-in-Ok-clause-found g c = rw (c.in-Ok.is) c.has_own_vendor.ensures.found
