use Rattle.std.proofs.Common.{◌≡◌, ◌++◌, ℕ, List, ap, arith, codes, ◌∙◌}
use Rattle.std.proofs.lemmas.Result.{IfOk-at_ok}
use Rattle.std.specs.String.{string_bytes}
use Rattle.hex.specs.Hex.{IsBytes, encode_lower}
use Rattle.acvp_keys.proofs.WritingLemmas.{written}
use Rattle.acvp_keys.proofs.writing.put_line.Goals as goal

pub returns : goal.returns
returns c =
    let text : string_bytes c.in_ok-digits.digits ≡ encode_lower c.args.bytes.now =
    IfOk-at_ok _ c.in_ok-digits.was c.encode.ensures in
    let fits : IsBytes c.args.bytes.now = λ i. let f = c.fits-bytes i in omega arith in
    written c.args.text.now.items c.as_bytes.result.now c.args.bytes.now c.push.new.self.items
    (c.as_bytes.ensures.value ∙ text) (search) fits
    (c.in_ok-push.ensures.items ∙ ap (λ (l : List ℕ). l ++ codes "\n") c.in_ok-extend_from_slice.ensures.items)
