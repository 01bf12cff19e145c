use Rattle.std.proofs.Common.{◌-◌, ◌∙◌, refl, drop, arith, Some, []}
use Rattle.std.proofs.lemmas.List.{length-drop}
use Rattle.acvp_http.proofs.ReplyLemmas.{head_put, framed_is}
use Rattle.acvp_http.proofs.reply.Reply.accepted.Goals as goal

pub returns : goal.returns
returns c =
    framed_is 200 200 (Some c.args.date.now) [] c.head-head.result (drop 256 c.args.buffer.items)
    (drop 256 c.args.buffer.items) _ (c.len-size.result - 256)
    refl refl (omega (arith, length-drop 256 c.args.buffer.items, c.len-size.ensures, c.args.buffer.ok.0))
    c.head-head.ensures.value
    (head_put c.args.buffer.items c.deref_mut.result.now c.copy_from_slice.new.self c.head-head.result c.args.buffer.len
    c.len-start.result
    c.deref_mut.ensures.value c.args.buffer.ok.0 c.requires c.len-start.ensures c.head-head.ensures.len
    (c.copy_from_slice.ensures.after ∙ c.as_slice.ensures))
