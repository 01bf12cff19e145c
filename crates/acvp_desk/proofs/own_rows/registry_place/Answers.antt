use Rattle.std.proofs.Common.{ap}
use Rattle.acvp_tables.specs.State.{state_of}
use Rattle.acvp_desk.specs.declared.found.RegistryPlace.TheVariants.{Object, New, Objects, Request, Requests}
use Rattle.acvp_desk.proofs.NextRequest.{is_of_its_kind}
use Rattle.acvp_desk.proofs.own_rows.registry_place.Goals as goal

pub returns-in_ok-row-in-Read-clause-found : goal.returns-in_ok-row-in-Read-clause-found
unfolding state_of
returns-in_ok-row-in-Read-clause-found g c =
    λ live seeds content kept h.
    rw (c.in-Read.is, ← c.kind.ensures)
    (ap (Object c.in-Read.registry c.in-Read.number) (c.in_ok-row-in-Read.ensures.found live content kept.sound h))

pub returns-in_ok-grounds-in-New-clause-found : goal.returns-in_ok-grounds-in-New-clause-found
returns-in_ok-grounds-in-New-clause-found g c =
    λ live seeds content kept h. rw (c.in-New.is, ← c.kind-in-New.ensures, ← c.in_ok-object-in-New.ensures)
    (ap (New c.in-New.registry c.in_ok-object-in-New.object)
    (c.in_ok-grounds-in-New.ensures.found live seeds content kept h))

pub returns-in_ok-grounds-in-New-clause-within : goal.returns-in_ok-grounds-in-New-clause-within
returns-in_ok-grounds-in-New-clause-within g c =
    is_of_its_kind c.in-New.registry c.args.body.now c.in_ok-object-in-New.object c.in_ok-grounds-in-New.grounds
    (rw (c.kind-in-New.ensures) at c.in_ok-object-in-New.ensures)

pub returns-in_ok-found-in-List-clause-found : goal.returns-in_ok-found-in-List-clause-found
unfolding state_of
returns-in_ok-found-in-List-clause-found g c =
    λ live seeds content kept h.
    rw (c.in-List.is) (ap (Objects c.in-List.registry)
    (c.in_ok-found-in-List.ensures.found live seeds content kept h))

pub returns-in_ok-row-in-ReadRequest-clause-found : goal.returns-in_ok-row-in-ReadRequest-clause-found
unfolding state_of
returns-in_ok-row-in-ReadRequest-clause-found g c =
    λ live seeds content kept h.
    rw (c.in-ReadRequest.is) (ap (Request c.in-ReadRequest.number)
    (c.in_ok-row-in-ReadRequest.ensures.found live seeds content kept h))

pub returns-in_ok-requests_page-in-ListRequests-clause-found : goal.returns-in_ok-requests_page-in-ListRequests-clause-found
unfolding state_of
returns-in_ok-requests_page-in-ListRequests-clause-found g c =
    λ live seeds content kept h.
    rw (c.in-ListRequests.is)
    (ap Requests (c.in_ok-requests_page-in-ListRequests.ensures.found live seeds content kept h))
