use Rattle.std.proofs.Common.{◌∙◌, None, Some, refl, sym, arith}
use Rattle.acvp_http.proofs.RequestLemmas.{asks_named, asks_short}
use Rattle.acvp_http.proofs.request.asked_by.Goals as goal

pub returns-then-head-rest : goal.returns-then-head-rest
returns-then-head-rest c = asks_short c.args.block.now c.args.rest.now c.args.head.now c.requires (omega arith)

pub returns-in_default : goal.returns-in_default
returns-in_default c =
    asks_named c.args.block.now c.args.rest.now c.path_and_query.result.0.now c.args.head.now None _ c.requires
    (omega arith)
    (rw c.of.ensures at c.path_and_query.ensures.path) c.in_default.ensures refl

pub returns-in_default-asked : goal.returns-in_default-asked
returns-in_default-asked c =
    let none = rw (
      c.of-2.ensures,
      c.requires.at.parts.method,
      c.path_and_query.ensures.query,
      c.of.ensures,
      c.requires.at.parts.path,
    )
    at (sym c.asked.ensures ∙ c.in_default-asked.is) in
    asks_named c.args.block.now c.args.rest.now c.path_and_query.result.0.now c.args.head.now
    (Some c.in-Some.path) _ c.requires (omega arith)
    (rw c.of.ensures at c.path_and_query.ensures.path) c.in-Some.ensures (rw none refl)

pub returns : goal.returns
returns c =
    let some = rw (
      c.of-2.ensures,
      c.requires.at.parts.method,
      c.path_and_query.ensures.query,
      c.of.ensures,
      c.requires.at.parts.path,
    )
    at (sym c.asked.ensures ∙ c.in-Some-asked.is) in
    let token = rw c.requires.at.parts.fields at c.token_of.ensures in
    asks_named c.args.block.now c.args.rest.now c.path_and_query.result.0.now c.args.head.now
    (Some c.in-Some.path) _ c.requires (omega arith)
    (rw c.of.ensures at c.path_and_query.ensures.path) c.in-Some.ensures (rw (some, token) refl)
