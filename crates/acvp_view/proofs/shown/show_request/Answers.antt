use Rattle.std.proofs.Common.{true, sym}
use Rattle.acvp_view.specs.Lines.{lines_of}
use Rattle.acvp_view.specs.Listed.{request_line}
use Rattle.acvp_view.specs.Shown.{registration_lines}
use Rattle.acvp_view.proofs.LineLemmas.{handed_whole, takes_both}
use Rattle.acvp_view.proofs.shown.show_request.Goals as goal

pub returns-clause-asked : goal.returns-clause-asked
returns-clause-asked g c = λ live content well h.
    let up = c.in_ok-show_numbered.ensures.looks.was_open live in
    let h1 = c.in_ok-row.ensures.looks.same up content h in
    let line = lines_of (request_line c.args.form true c.args.number content) in
    let object = registration_lines c.args.form c.in_ok-row.row.body in record {
      row = c.in_ok-row.row;
      there = sym (c.in_ok-row.ensures.found up content well h);
      summary = c.of.ensures;
      taken = takes_both g.L.Lines.takes line object c.args.lines.now c.show_numbered.new.lines
          c.show_registration.new.lines
          (handed_whole g.L.Lines.takes c.in_ok-show_numbered.field-0 line c.args.lines.now c.show_numbered.new.lines
          (c.in_ok-show_numbered.ensures.told live content well h1))
          (handed_whole g.L.Lines.takes c.in_ok-show_registration.field-0 object c.show_numbered.new.lines
          c.show_registration.new.lines c.in_ok-show_registration.ensures);
    }
