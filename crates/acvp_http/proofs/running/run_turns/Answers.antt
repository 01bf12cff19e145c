use Rattle.std.proofs.Common.{rules, arith, ap, min, ◌+◌, ◌-◌, ◌^◌, inl, refl, ◌∙◌, ◌≤◌, ◌∷◌, [], length, Err}
use Rattle.acvp_http.specs.Private.Reading.{event_of, stopped_by}
use Rattle.acvp_http.specs.declared.script.ScriptFault.TheVariants.{Write}
use Rattle.acvp_http.specs.Run.{most_reads, RunsTurns}
use Rattle.acvp_http.proofs.GrammarLemmas.{no_event_byte, no_event_lacks}
use Rattle.acvp_http.proofs.RunLemmas.{ran_none, ran_more, in_part, ran_writes, shut_more, under, stopped_at_last}
use Rattle.acvp_http.proofs.RunLemmas.{goes_on, can_happen}
use Rattle.acvp_http.proofs.running.run_turns.Goals as goal

pub loop-count-init : goal.loop-count-init
loop-count-init g c = record {
  reader_clear = c.requires.reader_clear;
  writer_clear = c.requires.writer_clear;
  keys = refl;
  was_open = λ live. live;
  was_clean = λ clean. clean;
  shut = λ clean off content other left. left;
  ran = ran_none g.T.Tables.meaning c.args.desk.now.keys c.args.desk.now.tables (g.S.Source.stream c.args.reader.now)
      (g.K.Sink.stream c.args.writer.now);
}

pub returns-in_err-take_turn-clause-run : goal.returns-in_err-take_turn-clause-run
returns-in_err-take_turn-clause-run g c =
    let (clear, (front, written, consumed)) = rw c.in-Some.is at c.in_ok-event.ensures in
    let (unavailable, answer, handled, stopped) = c.in_err-take_turn.ensures.turn in
    let ends : RunsTurns g.T.Tables.meaning c.args.desk.now.keys c.args.desk.now.tables c.take_turn.new.desk.tables
    (g.S.Source.stream c.args.reader.now) (g.S.Source.stream c.next_event.new.reader)
    (g.K.Sink.stream c.args.writer.now) (g.K.Sink.stream c.take_turn.new.writer)
    (Err Write) =
    ran_writes g.T.Tables.meaning c.args.desk.now.keys c.args.desk.now.tables c.loop-count.desk.tables
    c.take_turn.new.desk.tables
    (g.S.Source.stream c.args.reader.now) (g.S.Source.stream c.loop-count.reader)
    (g.S.Source.stream c.next_event.new.reader)
    (g.K.Sink.stream c.args.writer.now) (g.K.Sink.stream c.loop-count.writer) (g.K.Sink.stream c.take_turn.new.writer)
    (record {
      event = event_of c.in-Some.event;
      unavailable = unavailable;
    }) answer front
    c.loop-count.count
    c.loop-count.invariant.ran (omega arith) written consumed
    (under g.T.Tables.meaning c.loop-count.desk.keys c.args.desk.now.keys c.loop-count.desk.tables
    c.take_turn.new.desk.tables _ answer
    c.loop-count.invariant.keys handled) stopped.1 in
    search rules

pub returns-in_err-take_turn-clause-shut : goal.returns-in_err-take_turn-clause-shut
returns-in_err-take_turn-clause-shut g c =
    shut_more g.T.Tables.meaning c.args.desk.now.tables c.loop-count.desk.tables c.take_turn.new.desk.tables
    c.in_err-take_turn.ensures.was_clean
    c.loop-count.invariant.was_open c.loop-count.invariant.shut c.in_err-take_turn.ensures.shut

pub loop-count-preserved : goal.loop-count-preserved
loop-count-preserved g c =
    let (clear, (front, written, consumed)) = rw c.in-Some.is at c.in_ok-event.ensures in
    let (unavailable, answer, handled, done) = c.in_ok-take_turn.ensures.turn in
    record {
      reader_clear = clear;
      writer_clear = done.0;
      keys = c.take_turn.ensures.keys ∙ c.loop-count.invariant.keys;
      was_open = λ live. c.loop-count.invariant.was_open (c.take_turn.ensures.was_open live);
      was_clean = λ clean. c.loop-count.invariant.was_clean (c.take_turn.ensures.was_clean clean);
      shut = shut_more g.T.Tables.meaning c.args.desk.now.tables c.loop-count.desk.tables c.take_turn.new.desk.tables
          c.take_turn.ensures.was_clean
          c.loop-count.invariant.was_open c.loop-count.invariant.shut c.take_turn.ensures.shut;
      ran = ran_more g.T.Tables.meaning c.args.desk.now.keys c.args.desk.now.tables c.loop-count.desk.tables
          c.take_turn.new.desk.tables
          (g.S.Source.stream c.args.reader.now) (g.S.Source.stream c.loop-count.reader)
          (g.S.Source.stream c.next_event.new.reader) (g.K.Sink.stream c.args.writer.now)
          (g.K.Sink.stream c.loop-count.writer) (g.K.Sink.stream c.take_turn.new.writer)
          (record {
            event = event_of c.in-Some.event;
            unavailable = unavailable;
          }) answer front c.loop-count.count c.loop-count.invariant.ran written consumed
          (under g.T.Tables.meaning c.loop-count.desk.keys c.args.desk.now.keys c.loop-count.desk.tables
          c.take_turn.new.desk.tables _ answer
          c.loop-count.invariant.keys handled) done.1;
    }

pub returns-in-Some-2-clause-run : goal.returns-in-Some-2-clause-run
returns-in-Some-2-clause-run g c =
    let (clear, taken, last) = rw c.in-Some-2.is at c.in_ok-read_byte.ensures in
    let ran = c.loop-count.invariant.ran in
    let few : length ran.turns ≤ 100000 = omega (arith, ran.size) in (
      ran.turns,
      ran.answers,
      ran.text,
      ran.runs,
      ran.script,
      (
        in_part (g.S.Source.stream c.args.reader.now) (g.S.Source.stream c.loop-count.reader)
            (g.S.Source.stream c.read_byte.new.reader)
            ran.text ran.consumed (c.in-Some-2.field-0 ∷ [], taken, no_event_byte c.in-Some-2.field-0),
        inl (
          omega (arith, ran.size),
          goes_on (g.S.Source.stream c.args.reader.now).held (g.S.Source.stream c.loop-count.reader).held
              (g.S.Source.stream c.read_byte.new.reader).held ran.text c.in-Some-2.field-0 ran.consumed taken,
        ),
      ),
      ran.appended,
      few,
    )

pub take_turn-requires-clause-event : goal.take_turn-requires-clause-event
take_turn-requires-clause-event g c =
    let (clear, (front, written, consumed)) = rw c.in-Some.is at c.in_ok-event.ensures in
    can_happen (event_of c.in-Some.event) front written

pub returns-in_err-read_byte-clause-run : goal.returns-in_err-read_byte-clause-run
returns-in_err-read_byte-clause-run g c =
    let ran = c.loop-count.invariant.ran in
    let ends : RunsTurns g.T.Tables.meaning c.args.desk.now.keys c.args.desk.now.tables c.loop-count.desk.tables
    (g.S.Source.stream c.args.reader.now) (g.S.Source.stream c.read_byte.new.reader)
    (g.K.Sink.stream c.args.writer.now) (g.K.Sink.stream c.loop-count.writer)
    (Err (stopped_by c.in_err-read_byte.field-0.0)) =
    let stopped = stopped_at_last c.in_err-read_byte.field-0.0 c.saturating_add-limit.result
    (g.S.Source.stream c.args.reader.now) (g.S.Source.stream c.read_byte.new.reader)
    (g.K.Sink.stream c.args.writer.now) (g.K.Sink.stream c.loop-count.writer) ran.turns ran.answers ran.text
    c.in_err-read_byte.ensures.0
    (c.saturating_add-limit.ensures ∙ ap (λ n. min (n + most_reads) (2 ^ 64 - 1)) c.reads.ensures)
    (in_part (g.S.Source.stream c.args.reader.now) (g.S.Source.stream c.loop-count.reader)
    (g.S.Source.stream c.read_byte.new.reader)
    ran.text ran.consumed ([], c.in_err-read_byte.ensures.1, no_event_lacks [] tt)) ran.appended in
    (ran.turns, ran.answers, ran.text, ran.runs, ran.script, stopped.0, stopped.1, omega (arith, ran.size)) in
    search rules
