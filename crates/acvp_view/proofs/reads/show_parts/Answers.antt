use Rattle.acvp_desk.specs.declared.wish.Registry.TheVariants.{Modules}
use Rattle.acvp_view.specs.Decision.{object_reads, vendor_and_environment_reads}
use Rattle.acvp_view.proofs.DecisionLemmas.{read_both}
use Rattle.acvp_view.proofs.reads.show_parts.Goals as goal

pub returns-clause-read : goal.returns-clause-read
returns-clause-read g c =
    let reader = c.args.reader.now in
    let keys = c.args.desk.now.keys in
    let same = c.in_ok-show_object.ensures.keys in
    let it = c.args.certification in
    read_both reader.form g.L.Lines.takes g.T.Tables.meaning c.in_ok-show_object.field-0
    c.show_vendor_and_environment.result keys.seed c.args.desk.now.tables c.show_object.new.desk.tables
    c.show_vendor_and_environment.new.desk.tables c.args.lines.now c.show_object.new.lines
    c.show_vendor_and_environment.new.lines
    (object_reads reader.form keys reader.moment reader.own.now Modules it.«module»)
    (vendor_and_environment_reads reader.form keys reader.moment reader.own.now c.args.vendor it.environment)
    c.show_vendor_and_environment.ensures.was_clean c.in_ok-show_object.ensures.read
    (rw same at c.show_vendor_and_environment.ensures.read)
