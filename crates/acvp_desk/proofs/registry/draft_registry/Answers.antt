use Rattle.std.proofs.Common.{Some, subst}
use Rattle.std.specs.Prelude.{IfOk}
use Rattle.acvp_desk.specs.Answer.{IsReply}
use Rattle.acvp_desk.specs.Asked.{waiting_reply}
use Rattle.acvp_desk.proofs.registry.draft_registry.Goals as goal

pub returns-in-New-clause-reply : goal.returns-in-New-clause-reply
returns-in-New-clause-reply c =
    rw (c.in-New.is)
    (subst (λ kind. IfOk c.draft_new_object.result
    (λ draft. IsReply draft.reply.items (Some (waiting_reply kind c.args.account c.in-New.grounds)))) c.kind.ensures
    c.draft_new_object.ensures.reply)
