use Rattle.std.proofs.Common.{sym, ◌∙◌}
use Rattle.serde_json.proofs.Views.{view-Array}
use Rattle.acvp_json.proofs.EnvelopeLemmas.{envelope_items-other, envelope_items-not}
use Rattle.acvp_json.proofs.envelope.object_in.Goals as goal

pub returns-then-len-ne2 : goal.returns-then-len-ne2
returns-then-len-ne2 c =
    rw (c.in-Array.is, view-Array c.in-Array.items)
    (sym (envelope_items-other c.in-Array.items.items (λ two. c.if-len-ne2.true (c.len.ensures
    ∙ (c.in-Array.items.ok.0 ∙ two)))))

pub returns : goal.returns
returns c =
    rw (c.in-Array.is, view-Array c.in-Array.items)
    (sym (envelope_items-not c.in-Array.items.items c.index.result.now c.index-2.result.now
    (sym c.in-Array.items.ok.0 ∙ (sym c.len.ensures ∙ c.if-len-ne2.false)) c.index.ensures c.index-2.ensures
    (sym c.is_envelope.ensures ∙ c.if-is_envelope.false)))
