use Rattle.acvp_json.specs.ReplyData.{reply_data}
use Rattle.acvp_desk.proofs.registry.draft_requests.Goals as goal

pub returns-clause-reply : goal.returns-clause-reply
unfolding reply_data
returns-clause-reply c = rw (c.in-Some.is, ← c.found.view_is)
    (rw (c.deref-2.ensures.value, c.in-Ok.ensures, c.deref.ensures.value) at c.told.ensures.reply)
