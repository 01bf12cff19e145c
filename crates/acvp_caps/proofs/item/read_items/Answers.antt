use Rattle.std.proofs.Common.{refl, sym, ◌∙◌, ap, inr, take, rules}
use Rattle.std.specs.Prelude.{is_some, map}
use Rattle.serde_json.specs.View.{view}
use Rattle.acvp_caps.specs.Registered.{is_item, item_of}
use Rattle.acvp_caps.proofs.DomainItemLemmas.{list_all-fails, kept-more, all-more, formed-items}
use Rattle.acvp_caps.proofs.item.read_items.Goals as goal

pub returns-in_default-clause-err : goal.returns-in_default-clause-err
returns-in_default-clause-err c =
    inr (
      refl,
      list_all-fails is_item view c.args.values.now c.loop-value.value-index c.value-item.result c.loop-value-test.true
          c.value-item.is
          (ap is_some (sym c.read_item.ensures ∙ c.in_default.is)),
    )

pub loop-value-preserved : goal.loop-value-preserved
loop-value-preserved c =
    let read = sym c.read_item.ensures ∙ c.in-Some.is in
    record {
      read = kept-more item_of view c.args.values.now c.loop-value.value-index c.value-item.result
          c.loop-value.items.items c.push.new.self.items c.in-Some.item
          c.loop-value-test.true c.value-item.is c.loop-value.invariant.read read c.in_ok-push.ensures.items;
      count = search rules;
      all = all-more c.args.values.now c.loop-value.value-index c.value-item.result c.in-Some.item
          c.loop-value-test.true c.value-item.is c.loop-value.invariant.all read;
    }

pub returns-clause-formed : goal.returns-clause-formed
returns-clause-formed c =
    rw c.loop-value.invariant.read (formed-items (map view (take c.loop-value.value-index c.args.values.now)))
