use Rattle.std.proofs.Common.{◌≡◌, true, false, refl, sym, ◌∙◌, inr}
use Rattle.std.specs.List.{list_all}
use Rattle.acvp_caps.specs.Items.{is_byte_oriented, item_within}
use Rattle.acvp_caps.proofs.DomainItemLemmas.{lengths-outcome, are-lengths}
use Rattle.acvp_caps.proofs.domain.judged_domain.Goals as goal

pub returns-then-not-are_within-clause-read : goal.returns-then-not-are_within-clause-read
returns-then-not-are_within-clause-read c =
    let whole : true ≡ list_all is_byte_oriented c.args.items.items = sym c.if-not-are_byte_oriented.false
    ∙ (rw c.deref.ensures.value at c.are_byte_oriented.ensures) in
    let inside : false ≡ list_all (item_within c.args.low c.args.high) c.args.items.items =
    sym c.if-not-are_within.true ∙ (rw c.deref-2.ensures.value at c.are_within.ensures) in
    inr (lengths-outcome c.args.low c.args.high c.args.items.items true false c.requires.formed whole inside)

pub returns-clause-read : goal.returns-clause-read
returns-clause-read c =
    let whole : true ≡ list_all is_byte_oriented c.args.items.items = sym c.if-not-are_byte_oriented.false
    ∙ (rw c.deref.ensures.value at c.are_byte_oriented.ensures) in
    let inside : true ≡ list_all (item_within c.args.low c.args.high) c.args.items.items =
    sym c.if-not-are_within.false ∙ (rw c.deref-2.ensures.value at c.are_within.ensures) in (
      lengths-outcome c.args.low c.args.high c.args.items.items true true c.requires.formed whole inside,
      rw c.in_ok-given.ensures refl,
    )

pub returns-clause-fit : goal.returns-clause-fit
returns-clause-fit c =
    let whole : true ≡ list_all is_byte_oriented c.args.items.items = sym c.if-not-are_byte_oriented.false
    ∙ (rw c.deref.ensures.value at c.are_byte_oriented.ensures) in
    let inside : true ≡ list_all (item_within c.args.low c.args.high) c.args.items.items =
    sym c.if-not-are_within.false ∙ (rw c.deref-2.ensures.value at c.are_within.ensures) in
    are-lengths c.args.low c.args.high c.args.items.items c.requires.formed c.requires.some (sym whole) (sym inside)
