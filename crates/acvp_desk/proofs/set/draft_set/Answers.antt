use Rattle.acvp_desk.proofs.set.draft_set.Goals as goal

pub returns-in-Submit-Some-clause-reply : goal.returns-in-Submit-Some-clause-reply
returns-in-Submit-Some-clause-reply c =
    rw (c.in-Submit-Some.is, c.in-Submit-Some.field-0-is) c.draft_answers.ensures.reply

pub returns-in-Resubmit-Some-clause-reply : goal.returns-in-Resubmit-Some-clause-reply
returns-in-Resubmit-Some-clause-reply c =
    rw (c.in-Resubmit-Some.is, c.in-Resubmit-Some.field-0-is) c.draft_answers-in-Resubmit-Some.ensures.reply
