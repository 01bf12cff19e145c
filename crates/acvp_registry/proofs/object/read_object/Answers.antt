use Rattle.std.proofs.Common.{◌≡◌, true, inr, sym, ◌∙◌, ap}
use Rattle.serde_json.specs.View.{view}
use Rattle.serde_json.specs.Data.{Data}
use Rattle.acvp_registry.specs.Object.{KeptObject, has_fields, is_readable}
use Rattle.acvp_registry.proofs.ObjectLemmas.{unfit_fields, unfit_readable, unfit_short, unfit_vendor, fit, kept}
use Rattle.acvp_registry.proofs.ObjectLemmas.{is_long, is_few}
use Rattle.acvp_registry.proofs.object.read_object.Goals.{then-not-has_fields-via-then-not-has_fields}
use Rattle.acvp_registry.proofs.object.read_object.Goals.{then-not-has_fields-via-else-not-has_fields+then-not-is_readable}
use Rattle.acvp_registry.proofs.object.read_object.Goals as goal

pub returns-then-not-has_fields : goal.returns-then-not-has_fields
returns-then-not-has_fields c =
    elim c.then-not-has_fields.branch [
      | then-not-has_fields-via-then-not-has_fields w ↦
          inr (unfit_fields c.args.kind (view c.args.value.now) (sym c.has_fields.ensures ∙ w.if-not-has_fields.true))
      | then-not-has_fields-via-else-not-has_fields+then-not-is_readable w ↦
          inr (unfit_readable c.args.kind (view c.args.value.now) (sym c.has_fields.ensures
          ∙ w.if-not-has_fields.false) (sym w.is_readable.ensures ∙ w.if-not-is_readable.true))
    ]

pub returns-then-len-gt-TEXT_LIMIT : goal.returns-then-len-gt-TEXT_LIMIT
returns-then-len-gt-TEXT_LIMIT c =
    let d = view c.args.value.now in
    let fields : has_fields c.args.kind d ≡ true = sym c.has_fields.ensures ∙ c.if-not-has_fields.false in
    let readable : is_readable d ≡ true = sym c.is_readable.ensures ∙ c.if-not-is_readable.false in
    inr (unfit_short c.args.kind d fields readable
    (is_long d c.in_ok-text.text readable c.in_ok-text.ensures.text (rw c.len.ensures at c.if-len-gt-TEXT_LIMIT.true)))

pub returns-then-not-names_vendor : goal.returns-then-not-names_vendor
returns-then-not-names_vendor c =
    let d = view c.args.value.now in
    let fields : has_fields c.args.kind d ≡ true = sym c.has_fields.ensures ∙ c.if-not-has_fields.false in
    let readable : is_readable d ≡ true = sym c.is_readable.ensures ∙ c.if-not-is_readable.false in
    inr (unfit_vendor c.args.kind d fields readable
    (is_few d c.in_ok-text.text readable c.in_ok-text.ensures.text (rw c.len.ensures at c.if-len-gt-TEXT_LIMIT.false))
    (sym c.names_vendor.ensures ∙ c.if-not-names_vendor.true))

pub invariant_of-result : goal.invariant_of-result
invariant_of-result c =
    let d = view c.args.value.now in
    let fields : has_fields c.args.kind d ≡ true = sym c.has_fields.ensures ∙ c.if-not-has_fields.false in
    let readable : is_readable d ≡ true = sym c.is_readable.ensures ∙ c.if-not-is_readable.false in
    kept c.args.kind d (view c.in_ok-value.value) c.in_ok-text.text c.in_ok-value.ensures.cases
    (fit c.args.kind d fields readable
    (is_few d c.in_ok-text.text readable c.in_ok-text.ensures.text (rw c.len.ensures at c.if-len-gt-TEXT_LIMIT.false))
    (sym c.names_vendor.ensures ∙ c.if-not-names_vendor.false))
    readable c.in_ok-text.ensures.text c.in_ok-text.ensures.reads_back

pub returns : goal.returns
returns c =
    let d = view c.args.value.now in
    let fields : has_fields c.args.kind d ≡ true = sym c.has_fields.ensures ∙ c.if-not-has_fields.false in
    let readable : is_readable d ≡ true = sym c.is_readable.ensures ∙ c.if-not-is_readable.false in (
      fit c.args.kind d fields readable
          (is_few d c.in_ok-text.text readable c.in_ok-text.ensures.text
          (rw c.len.ensures at c.if-len-gt-TEXT_LIMIT.false))
          (sym c.names_vendor.ensures ∙ c.if-not-names_vendor.false),
      ap (λ (e : Data). let o : KeptObject = record { kind = c.args.kind; value = e } in o) c.in_ok-value.ensures.cases,
    )
