use Rattle.acvp_desk.specs.declared.wish.Registry.TheVariants.{Environments}
use Rattle.acvp_view.specs.Decision.{object_reads, vendor_reads}
use Rattle.acvp_view.proofs.DecisionLemmas.{read_both}
use Rattle.acvp_view.proofs.reads.show_vendor_and_environment.Goals as goal

pub returns-clause-read : goal.returns-clause-read
returns-clause-read g c =
    let reader = c.args.reader.now in
    let keys = c.args.desk.now.keys in
    let same = c.in_ok-show_vendor.ensures.keys in
    read_both reader.form g.L.Lines.takes g.T.Tables.meaning c.in_ok-show_vendor.field-0 c.show_object.result
    keys.seed c.args.desk.now.tables c.show_vendor.new.desk.tables c.show_object.new.desk.tables c.args.lines.now
    c.show_vendor.new.lines c.show_object.new.lines
    (vendor_reads reader.form keys reader.moment reader.own.now c.args.vendor)
    (object_reads reader.form keys reader.moment reader.own.now Environments c.args.environment)
    c.show_object.ensures.was_clean c.in_ok-show_vendor.ensures.read (rw same at c.show_object.ensures.read)
