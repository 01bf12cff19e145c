use Rattle.std.proofs.Common.{None, sym, ◌∙◌}
use Rattle.acvp_tables.specs.declared.change.OrderChange.TheVariants.{DisableAccount as disable_account}
use Rattle.acvp_desk.specs.declared.order.Order.TheVariants as order
use Rattle.acvp_desk.specs.declared.order.OrderReply.TheVariants.{Unknown}
use Rattle.acvp_desk.proofs.OrderExits.{unknown, disabled, left_alone, carried_out, failed}
use Rattle.acvp_desk.proofs.order.disable.Goals as goal

pub returns-in-Ok-None-clause-answered : goal.returns-in-Ok-None-clause-answered
returns-in-Ok-None-clause-answered g c =
    let alone = left_alone g.T.Tables.faults g.T.Tables.meaning
    (order.DisableAccount c.args.account) c.in-Ok-None.field-0 c.args.tables.now c.account.new.self Unknown
    c.in-Ok-None.ensures.reads
    (λ live content sound h. unknown c.args.account content
    (sym c.in-Ok-None.field-0-is ∙ c.in-Ok-None.ensures.found live content sound h)) in
    let reads = c.in-Ok-None.ensures.reads in
    record {
      was_open = reads.was_open;
      was_clean = reads.was_clean;
      answered = alone.0;
      settled = alone.1;
      same =
          reads.same;
      stays_open = reads.stays_open;
      kept = reads.kept;
      shut = λ clean off. reads.kept clean;
    }

pub returns-in-Ok-clause-answered : goal.returns-in-Ok-clause-answered
returns-in-Ok-clause-answered g c =
    carried_out g.T.Tables.faults g.T.Tables.meaning
    (order.DisableAccount c.args.account) c.in-Ok-Some.field-0 c.args.tables.now c.account.new.self c.order.new.self
    (disable_account c.args.account) c.in-Ok-Some.ensures.reads None
    (λ live content sound h. disabled c.args.account c.in-Ok-Some.field-0-0 content
    (sym c.in-Ok-Some.field-0-is ∙ c.in-Ok-Some.ensures.found live content sound h)) _ c.in-Ok.ensures

pub returns-in-Err-order-clause-answered : goal.returns-in-Err-order-clause-answered
returns-in-Err-order-clause-answered g c =
    failed g.T.Tables.faults g.T.Tables.meaning
    (order.DisableAccount c.args.account) c.in-Ok-Some.field-0 c.args.tables.now c.account.new.self c.order.new.self
    (disable_account c.args.account) c.in-Ok-Some.ensures.reads None
    (λ live content sound h. disabled c.args.account c.in-Ok-Some.field-0-0 content
    (sym c.in-Ok-Some.field-0-is ∙ c.in-Ok-Some.ensures.found live content sound h)) _ c.in-Err-order.ensures
