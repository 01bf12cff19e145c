use Rattle.std.proofs.Common.{◌≡◌, map, drop, Some}
use Rattle.std.specs.List.{list_all}
use Rattle.httparse.specs.Spans.{span_bytes}
use Rattle.acvp_desk.specs.Number.{digits_number_of}
use Rattle.acvp_http.specs.Asks.{same_number}
use Rattle.acvp_http.proofs.framing.all_are.Given as goal

abbrev pub invariant-loop-span : goal.invariant-loop-span
invariant-loop-span l =
    list_all (λ value. same_number (digits_number_of value) (Some l.number))
    (map (span_bytes l.block) (drop l.span-index l.spans))
    ≡ list_all (λ value. same_number (digits_number_of value) (Some l.number)) (map (span_bytes l.block) l.spans)
