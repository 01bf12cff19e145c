use Rattle.std.proofs.Common.{◌≡◌, ◌+◌, ◌*◌, length, arith}
use Rattle.std.specs.List.{flat_map, range_with_len}
use Rattle.acvp_tables.specs.Content.{requests_of}
use Rattle.acvp_view.specs.Lines.{lines_of}
use Rattle.acvp_view.specs.Listed.{request_line, request_lines_of}
use Rattle.acvp_view.proofs.LineLemmas.{told_behind}
use Rattle.acvp_view.proofs.RequestLines.{few_requests, request_numbers}
use Rattle.acvp_view.proofs.lists.show_requests_of.Goals as goal

pub returns-clause-told : goal.returns-clause-told
returns-clause-told g c =
    told_behind g.L.Lines.takes g.T.Tables.meaning c.show_range.result c.args.tables.now c.count.new.self
    c.show_range.new.tables c.args.lines.now c.show_range.new.lines
    (λ content. flat_map (λ n. lines_of (request_line c.args.form c.args.all n content))
    (range_with_len (c.from.result * 1000000 + 1) c.min.result))
    (λ content. request_lines_of c.args.form c.args.all content c.args.account)
    (λ live content well h.
    let counted : c.in_ok-count.count ≡ length (requests_of c.args.account content.requests) =
    c.in_ok-count.ensures.found live content well h in
    let few : c.min.result ≡ length (requests_of c.args.account content.requests) =
    omega (
      arith,
      c.min.ensures,
      c.from.ensures,
      counted,
      few_requests content c.args.account well,
      c.ranges.account.fits,
    ) in
    rw c.from.ensures (request_numbers c.args.form c.args.all content c.args.account c.min.result well few))
    c.in_ok-count.ensures.reads.same c.show_range.ensures.looks.was_open c.show_range.ensures.told
