use Rattle.std.proofs.Common.{None, true, false, sym, ◌∙◌}
use Rattle.acvp_tables.specs.declared.change.OrderChange.TheVariants.{Reject}
use Rattle.acvp_desk.specs.declared.order.Order.TheVariants as order
use Rattle.acvp_desk.specs.declared.order.OrderReply.TheVariants.{Unknown, NotInitial}
use Rattle.acvp_desk.proofs.OrderExits.{none_rejected, rejected_by, left_alone, carried_out, failed}
use Rattle.acvp_desk.proofs.order.reject.Goals as goal

pub returns-in-Ok-None-clause-answered : goal.returns-in-Ok-None-clause-answered
returns-in-Ok-None-clause-answered g c =
    let reads = c.in-Ok-None.ensures.reads in
    let alone = left_alone g.T.Tables.faults g.T.Tables.meaning
    (order.RejectRequest c.args.number) c.in-Ok-None.field-0 c.args.tables.now c.request.new.self Unknown reads
    (λ live content sound h. none_rejected c.args.number content
    (sym c.in-Ok-None.field-0-is ∙ c.in-Ok-None.ensures.found live content sound h)) in
    record {
      was_open = reads.was_open;
      was_clean = reads.was_clean;
      answered = alone.0;
      settled = alone.1;
      same =
          reads.same;
      stays_open = reads.stays_open;
      kept = reads.kept;
      shut = λ clean off. reads.kept clean;
    }

pub returns-then-not-is_initial-clause-answered : goal.returns-then-not-is_initial-clause-answered
returns-then-not-is_initial-clause-answered g c =
    let reads = c.in-Ok-Some.ensures.reads in
    let alone = left_alone g.T.Tables.faults g.T.Tables.meaning
    (order.RejectRequest c.args.number) c.in-Ok-Some.field-0 c.args.tables.now c.request.new.self NotInitial reads
    (λ live content sound h. rejected_by c.args.number c.in-Ok-Some.request false content
    (sym c.in-Ok-Some.field-0-is ∙ c.in-Ok-Some.ensures.found live content sound h)
    (sym c.if-not-is_initial.ensures)) in
    record {
      was_open = reads.was_open;
      was_clean = reads.was_clean;
      answered = alone.0;
      settled = alone.1;
      same =
          reads.same;
      stays_open = reads.stays_open;
      kept = reads.kept;
      shut = λ clean off. reads.kept clean;
    }

pub returns-in-Ok-clause-answered : goal.returns-in-Ok-clause-answered
returns-in-Ok-clause-answered g c =
    carried_out g.T.Tables.faults g.T.Tables.meaning
    (order.RejectRequest c.args.number) c.in-Ok-Some.field-0 c.args.tables.now c.request.new.self c.order.new.self
    (Reject c.args.number) c.in-Ok-Some.ensures.reads None
    (λ live content sound h. rejected_by c.args.number c.in-Ok-Some.request true content
    (sym c.in-Ok-Some.field-0-is ∙ c.in-Ok-Some.ensures.found live content sound h) (sym c.if-not-is_initial.ensures)) _
    c.in-Ok.ensures

pub returns-in-Err-order-clause-answered : goal.returns-in-Err-order-clause-answered
returns-in-Err-order-clause-answered g c =
    failed g.T.Tables.faults g.T.Tables.meaning
    (order.RejectRequest c.args.number) c.in-Ok-Some.field-0 c.args.tables.now c.request.new.self c.order.new.self
    (Reject c.args.number) c.in-Ok-Some.ensures.reads None
    (λ live content sound h. rejected_by c.args.number c.in-Ok-Some.request true content
    (sym c.in-Ok-Some.field-0-is ∙ c.in-Ok-Some.ensures.found live content sound h) (sym c.if-not-is_initial.ensures)) _
    c.in-Err-order.ensures
