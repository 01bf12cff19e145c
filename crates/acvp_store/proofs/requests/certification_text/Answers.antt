use Rattle.std.proofs.Common.{rules, ◌<◌, ◌^◌}
use Rattle.serde_json.specs.View.{view}
use Rattle.acvp_store.proofs.CertificationTexts.{text_reads}
use Rattle.acvp_store.proofs.requests.certification_text.Goals as goal

pub returns-clause-reads : goal.returns-clause-reads
returns-clause-reads c =
    let fits_module : c.args.asked.«module» < 2 ^ 64 = search rules in
    let fits_environment : c.args.asked.environment < 2 ^ 64 = search rules in
    text_reads c.args.asked (view c.in_ok-certification_value.field-0) c.to_string.result fits_module fits_environment
    c.in_ok-certification_value.ensures c.to_string.ensures.text c.to_string.ensures.reads_back
