use Rattle.std.proofs.Common.{None, Some}
use Rattle.std.proofs.lemmas.Bool.Decides.{Decides-eqb}
use Rattle.std.proofs.lemmas.Slice.Eq.{strip_prefix_is}
use Rattle.acvp_http.proofs.NumberLemmas.{both-other, both-unled, both-none, both-some}
use Rattle.acvp_http.proofs.routes.both_last.Goals as goal

pub returns-in_err-behind : goal.returns-in_err-behind
returns-in_err-behind c =
    rw c.from_residual.ensures
    (both-other c.args.text.now c.args.front.now c.args.middle.now
    (strip_prefix_is Decides-eqb c.args.text.now c.args.front.now None c.in_err-behind.ensures.cases))

pub returns-in_err-first : goal.returns-in_err-first
returns-in_err-first c =
    let same = strip_prefix_is Decides-eqb c.args.text.now c.args.front.now
    (Some c.in_ok-behind.behind) c.in_ok-behind.ensures.cases in
    rw c.from_residual-in_err-first.ensures
    (both-unled c.args.text.now c.args.front.now c.args.middle.now c.in_ok-behind.behind.now same c.requires
    c.in_err-first.ensures)

pub returns-in_err-second : goal.returns-in_err-second
returns-in_err-second c =
    let same = strip_prefix_is Decides-eqb c.args.text.now c.args.front.now
    (Some c.in_ok-behind.behind) c.in_ok-behind.ensures.cases in
    rw c.from_residual-in_err-second.ensures
    (both-none c.args.text.now c.args.front.now c.args.middle.now c.in_ok-behind.behind.now c.in_ok-first.rest.now
    c.in_ok-first.first same c.requires c.in_ok-first.ensures c.in_err-second.ensures)

pub returns : goal.returns
returns c =
    let same = strip_prefix_is Decides-eqb c.args.text.now c.args.front.now
    (Some c.in_ok-behind.behind) c.in_ok-behind.ensures.cases in
    both-some c.args.text.now c.args.front.now c.args.middle.now c.in_ok-behind.behind.now c.in_ok-first.rest.now
    c.in_ok-first.first c.in_ok-second.second same c.in_ok-first.ensures c.in_ok-second.ensures
