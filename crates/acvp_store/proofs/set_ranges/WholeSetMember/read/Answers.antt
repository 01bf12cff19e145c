use Rattle.sqlite_value.specs.Order.{column}
use Rattle.acvp_store.proofs.Words.{IsUtf8-string_bytes, option_map, SetColumns, string_bytes}
use Rattle.acvp_store.proofs.SetRanges.{begins, text_column, number_column}
use Rattle.acvp_store.proofs.set_ranges.WholeSetMember.read.Goals as goal

pub returns-clause-judged : goal.returns-clause-judged
returns-clause-judged c =
    let row = c.args.row.now in
    let s : SetColumns = record {
      number = c.in_ok-number.number;
      session = c.in_ok-session.session;
      capability = string_bytes c.in_ok-capability.capability;
      cancelled = c.in_ok-cancelled.cancelled;
      answers = option_map string_bytes c.in_ok-answers.answers;
      verdicts = option_map string_bytes c.in_ok-verdicts.verdicts;
      disposition = c.in_ok-disposition.disposition;
      epoch = c.in_ok-epoch.epoch;
    } in (
      begins row s c.in_ok-epoch.ensures.within c.in_ok-number.ensures.value c.in_ok-session.ensures.value
          c.in_ok-capability.ensures.value c.in_ok-cancelled.ensures.value
          (text_column string_bytes (column row 4) c.in_ok-answers.answers c.in_ok-answers.ensures.value)
          (text_column string_bytes (column row 5) c.in_ok-verdicts.verdicts c.in_ok-verdicts.ensures.value)
          (number_column (column row 6) c.in_ok-disposition.disposition c.in_ok-disposition.ensures.value)
          c.in_ok-epoch.ensures.value,
      IsUtf8-string_bytes c.in_ok-capability.capability,
    )
