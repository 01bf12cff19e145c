use Rattle.acvp_desk.proofs.registration.draft_new_object.Goals as goal

pub returns-clause-reply : goal.returns-clause-reply
returns-clause-reply c = rw (← c.in-Ok-next_request.ensures.ok.1) c.told_waiting.ensures.reply
