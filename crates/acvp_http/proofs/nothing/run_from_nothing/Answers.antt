use Rattle.std.proofs.Common.{subst, sym}
use Rattle.acvp_tables.specs.Content.{no_rows}
use Rattle.acvp_desk.specs.declared.keys.Keys.{Keys}
use Rattle.acvp_http.specs.Promise.{IsPromised}
use Rattle.acvp_http.proofs.nothing.run_from_nothing.Goals as goal

pub returns-in-Ok-clause-promised : goal.returns-in-Ok-clause-promised
returns-in-Ok-clause-promised g c =
    let (turns, answers, text, promised, left, through, script, stops, writes, few) = c.run.ensures.run in
    let (next, is, stands, kept) =
    promised tt no_rows (c.records_are_kept.ensures.start c.in-Ok.desk.keys.seed)
    (λ up. c.in-Ok.ensures.looks.same tt no_rows (sym c.new.ensures)) in (
      turns,
      answers,
      text,
      next,
      subst (λ (keys : Keys). IsPromised keys turns answers no_rows next) c.in-Ok.ensures.keys is,
      script,
      stops,
      writes,
      few,
    )
