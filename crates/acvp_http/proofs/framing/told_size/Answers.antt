use Rattle.std.proofs.Common.{◌∙◌, sym, map}
use Rattle.httparse.specs.Spans.{span_bytes, header_bytes}
use Rattle.acvp_http.proofs.FieldLemmas.{told_is}
use Rattle.acvp_http.proofs.framing.told_size.Goals as goal

pub returns : goal.returns
returns c =
    c.fitting_size.ensures
    ∙ told_is (span_bytes c.args.block.now) c.field_values_of-lengths.result c.field_values_of-hosts.result
    c.args.method.now c.args.minor
    c.in-Some.size c.len.result
    (map (header_bytes c.args.block.now) c.args.headers.now) c.is_told.result c.in_ok-check.field-0
    c.field_values_of-lengths.ensures.value c.field_values_of-hosts.ensures.value c.is_told.ensures
    (sym c.check.ensures ∙ c.in_ok-check.was)
    (rw c.as_slice.ensures at (sym c.agreed_length.ensures ∙ c.in-Some.is)) c.len.ensures
