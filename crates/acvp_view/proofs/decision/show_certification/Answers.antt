use Rattle.std.proofs.Common.{◌++◌, refl}
use Rattle.acvp_view.specs.Decision.{account_reads, vendor_of}
use Rattle.acvp_view.proofs.EscapeLemmas.{takes_shown_both}
use Rattle.acvp_view.proofs.LineLemmas.{ok_both}
use Rattle.acvp_view.proofs.decision.show_certification.Goals as goal

pub returns-clause-whole : goal.returns-clause-whole
returns-clause-whole g c =
    ok_both c.show_read.result c.show_read.ensures.open c.show_read.ensures.read (λ after opens read.
    λ clean content kept h.
    let up = opens clean in
    let mid = c.in_ok-vendor.ensures.looks.was_open up in
    let h1 = c.in_ok-show_sets.ensures.looks.same mid content h in
    let h2 = c.in_ok-vendor.ensures.looks.same up content h1 in
    let it = c.args.certification in
    let behind = account_reads c.args.form c.args.keys c.args.moment c.args.account it
    (vendor_of it.«module» content) content in
    let (front, are, taken) = c.in_ok-show_sets.ensures.told mid content kept.sound h in (
      front ++ behind,
      (front, behind, are, refl, refl),
      takes_shown_both c.args.form g.L.Lines.takes front behind c.args.lines.now c.show_sets.new.lines
          c.show_read.new.lines taken
          (rw (c.in_ok-vendor.ensures.found up content kept.sound h1) at (read clean content kept h2)),
    ))
