use Rattle.std.proofs.Common.{ap, sym, ◌∙◌}
use Rattle.std.specs.Prelude.{option_and_then, option_map}
use Rattle.acvp_tables.specs.State.{state_of}
use Rattle.acvp_desk.specs.Sets.{source_of, verdicts_on_set}
use Rattle.acvp_desk.specs.declared.find.SetRows.{SetRows}
use Rattle.acvp_desk.specs.declared.found.ByPrompts.TheVariants.{Prompts, Expected, Results}
use Rattle.acvp_desk.specs.declared.found.SetPlace.TheVariants.{Made}
use Rattle.acvp_desk.proofs.Elsewhere.{set_in}
use Rattle.acvp_desk.proofs.SetLemmas.{source_found}
use Rattle.acvp_desk.proofs.find.set_place.Goals as goal

pub returns-in_ok-source-in-Read-clause-found : goal.returns-in_ok-source-in-Read-clause-found
returns-in_ok-source-in-Read-clause-found g c =
    λ live seeds content kept h.
    let of = set_in c.numbers_name.ensures.set c.args.session c.args.number (state_of content) kept.sound c.requires in
    let read = source_found c.selections_follow.ensures.set content c.args.number c.args.rows.now.set
    (ap (λ (rows : SetRows). rows.set) h.1) in
    rw (c.in-Read.is) (ap (Made Prompts) (c.in_ok-source-in-Read.ensures.found live seeds content kept h.0 ∙ read
    ∙ sym (ap (option_map source_of) of)))

pub returns-in_ok-source-in-Expected-clause-found : goal.returns-in_ok-source-in-Expected-clause-found
returns-in_ok-source-in-Expected-clause-found g c =
    λ live seeds content kept h.
    let of = set_in c.numbers_name.ensures.set c.args.session c.args.number (state_of content) kept.sound c.requires in
    let read = source_found c.selections_follow.ensures.set content c.args.number c.args.rows.now.set
    (ap (λ (rows : SetRows). rows.set) h.1) in
    rw (c.in-Expected.is) (ap (Made Expected) (c.in_ok-source-in-Expected.ensures.found live seeds content kept h.0
    ∙ read ∙ sym (ap (option_map source_of) of)))

pub returns-in_ok-source-in-None-clause-found : goal.returns-in_ok-source-in-None-clause-found
returns-in_ok-source-in-None-clause-found g c =
    λ live seeds content kept h. let up = c.in_ok-source-in-None.ensures.looks.was_open live in
    let of = set_in c.numbers_name.ensures.set c.args.session c.args.number (state_of content) kept.sound c.requires in
    let none = ap (option_and_then (verdicts_on_set seeds)) of
    ∙ sym (c.in_ok-verdicts-in-Results.ensures.found up seeds content kept h.0) ∙ c.in-None.is in
    let read = source_found c.selections_follow.ensures.set content c.args.number c.args.rows.now.set
    (ap (λ (rows : SetRows). rows.set) h.1) in
    let source = c.in_ok-source-in-None.ensures.found live seeds content kept
    (c.in_ok-verdicts-in-Results.ensures.looks.same up content h.0) in
    rw (c.in-Results.is, none) (ap (Made Results) (source ∙ read ∙ sym (ap (option_map source_of) of)))
