use Rattle.std.proofs.Common.{Some, inr, sym, ◌∙◌}
use Rattle.acvp_tables.specs.declared.change.OrderChange.TheVariants.{Approve}
use Rattle.acvp_desk.specs.Registries.{kind_asked}
use Rattle.acvp_desk.specs.declared.order.Order.TheVariants as order
use Rattle.acvp_desk.specs.declared.order.OrderReply.TheVariants.{Unknown, NotInitial}
use Rattle.acvp_desk.proofs.OrderExits.{not_true, not_false, no_request, decided_before, approved, left_alone}
use Rattle.acvp_desk.proofs.OrderExits.{carried_out, failed, read_further, unavailable_after}
use Rattle.acvp_desk.proofs.ApprovedRequest.{refused, rests}
use Rattle.acvp_desk.proofs.order.approve.Goals as goal

pub returns-in-Ok-None-clause-answered : goal.returns-in-Ok-None-clause-answered
returns-in-Ok-None-clause-answered g c =
    let reads = c.in-Ok-None.ensures.reads in
    let alone = left_alone g.T.Tables.faults g.T.Tables.meaning
    (order.ApproveRequest c.args.number) c.in-Ok-None.field-0 c.args.tables.now c.find_waiting.new.tables Unknown reads
    (λ live content sound h. no_request c.args.number content
    (sym c.in-Ok-None.field-0-is ∙ c.in-Ok-None.ensures.found live content sound h)) in
    record {
      was_open = reads.was_open;
      was_clean = reads.was_clean;
      answered = alone.0;
      settled = alone.1;
      same =
          reads.same;
      stays_open = reads.stays_open;
      kept = reads.kept;
      shut = λ clean off. reads.kept clean;
    }

pub returns-then-not-waiting-clause-answered : goal.returns-then-not-waiting-clause-answered
returns-then-not-waiting-clause-answered g c =
    let reads = c.in-Ok-Some.ensures.reads in
    let alone = left_alone g.T.Tables.faults g.T.Tables.meaning
    (order.ApproveRequest c.args.number) c.in-Ok-Some.field-0 c.args.tables.now c.find_waiting.new.tables NotInitial
    reads
    (λ live content sound h. decided_before c.args.number c.in-Ok-Some.waiting content
    (sym c.in-Ok-Some.field-0-is ∙ c.in-Ok-Some.ensures.found live content sound h)
    (not_true c.in-Ok-Some.waiting.initial c.if-not-waiting.true)) in
    record {
      was_open = reads.was_open;
      was_clean = reads.was_clean;
      answered = alone.0;
      settled = alone.1;
      same =
          reads.same;
      stays_open = reads.stays_open;
      kept = reads.kept;
      shut = λ clean off. reads.kept clean;
    }

pub returns-in_default-clause-answered : goal.returns-in_default-clause-answered
returns-in_default-clause-answered g c =
    unavailable_after g.T.Tables.faults g.T.Tables.meaning (order.ApproveRequest c.args.number) c.in-Ok-Some.field-0
    c.may_be_approved.result c.args.tables.now c.find_waiting.new.tables c.may_be_approved.new.tables
    c.in-Ok-Some.ensures.reads c.may_be_approved.ensures.looks

pub returns-then-not-sound-clause-answered : goal.returns-then-not-sound-clause-answered
returns-then-not-sound-clause-answered g c =
    unavailable_after g.T.Tables.faults g.T.Tables.meaning (order.ApproveRequest c.args.number) c.in-Ok-Some.field-0
    c.may_be_approved.result c.args.tables.now c.find_waiting.new.tables c.may_be_approved.new.tables
    c.in-Ok-Some.ensures.reads c.may_be_approved.ensures.looks

pub returns-then-not-sound-clause-excused : goal.returns-then-not-sound-clause-excused
returns-then-not-sound-clause-excused g c =
    inr (λ live content sound h. let up = c.in-Ok.ensures.looks.was_open live in
    refused c.args.number c.in-Ok-Some.waiting content
    (sym c.in-Ok-Some.field-0-is ∙ c.in-Ok-Some.ensures.found up content sound h)
    (not_false c.in-Ok-Some.waiting.initial c.if-not-waiting.false)
    (sym (c.in-Ok.ensures.found live content sound (c.in-Ok-Some.ensures.reads.same up content h))
    ∙ c.if-not-sound.true))

pub returns-in-Ok-order-clause-answered : goal.returns-in-Ok-order-clause-answered
returns-in-Ok-order-clause-answered g c =
    rw (c.kind_asked.ensures) (carried_out g.T.Tables.faults g.T.Tables.meaning
    (order.ApproveRequest c.args.number) c.in-Ok.sound c.args.tables.now c.may_be_approved.new.tables
    c.order.new.self
    (Approve (record { request = c.args.number; approved = c.in-Ok-Some.waiting.approved }))
    (read_further g.T.Tables.faults g.T.Tables.meaning (order.ApproveRequest c.args.number) c.in-Ok-Some.field-0
    c.in-Ok.sound c.args.tables.now c.find_waiting.new.tables c.may_be_approved.new.tables c.in-Ok-Some.ensures.reads
    c.in-Ok.ensures.looks)
    (Some (kind_asked c.in-Ok-Some.waiting.purpose, c.in-Ok-Some.waiting.approved))
    (λ live content sound h. approved c.args.number c.in-Ok-Some.waiting content
    (sym c.in-Ok-Some.field-0-is
    ∙ c.in-Ok-Some.ensures.found (c.in-Ok.ensures.looks.was_open live) content sound h)
    (not_false c.in-Ok-Some.waiting.initial c.if-not-waiting.false)) _ c.in-Ok-order.ensures)

pub returns-in-Ok-order-clause-sound : goal.returns-in-Ok-order-clause-sound
returns-in-Ok-order-clause-sound g c =
    λ live content sound h. let late = c.in-Ok-order.ensures.was_open live in
    let up = c.in-Ok.ensures.looks.was_open late in
    rests c.args.number c.in-Ok-Some.waiting content
    (sym c.in-Ok-Some.field-0-is ∙ c.in-Ok-Some.ensures.found up content sound h)
    (sym (c.in-Ok.ensures.found late content sound (c.in-Ok-Some.ensures.reads.same up content h))
    ∙ c.if-not-sound.false)

pub returns-in-Err-order-clause-answered : goal.returns-in-Err-order-clause-answered
returns-in-Err-order-clause-answered g c =
    failed g.T.Tables.faults g.T.Tables.meaning
    (order.ApproveRequest c.args.number) c.in-Ok.sound c.args.tables.now c.may_be_approved.new.tables
    c.order.new.self
    (Approve (record { request = c.args.number; approved = c.in-Ok-Some.waiting.approved }))
    (read_further g.T.Tables.faults g.T.Tables.meaning (order.ApproveRequest c.args.number) c.in-Ok-Some.field-0
    c.in-Ok.sound c.args.tables.now c.find_waiting.new.tables c.may_be_approved.new.tables c.in-Ok-Some.ensures.reads
    c.in-Ok.ensures.looks)
    (Some (kind_asked c.in-Ok-Some.waiting.purpose, c.in-Ok-Some.waiting.approved))
    (λ live content sound h. approved c.args.number c.in-Ok-Some.waiting content
    (sym c.in-Ok-Some.field-0-is
    ∙ c.in-Ok-Some.ensures.found (c.in-Ok.ensures.looks.was_open live) content sound h)
    (not_false c.in-Ok-Some.waiting.initial c.if-not-waiting.false)) _ c.in-Err-order.ensures
