use Rattle.std.proofs.Common.{◌≡◌, decimal, Ok, true, ap, inl, inr, sym, ◌∙◌, arith}
use Rattle.std.proofs.lemmas.Fmt.{parse-decimal}
use Rattle.std.proofs.lemmas.Slice.Eq.{bytes_eq-Decides}
use Rattle.acvp_token.proofs.claims_json.read_account.Goals as goal

pub returns-in_default-clause-err : goal.returns-in_default-clause-err
returns-in_default-clause-err c =
    λ n least greatest e.
    c.in_default.not-Ok n (parse-decimal 16 n c.args.text.now c.parse.result (omega arith) (omega arith)
    e c.parse.ensures.value.0)

pub returns-clause-err : goal.returns-clause-err
returns-clause-err c =
    λ n least greatest e.
    let parsed : c.parse.result ≡ Ok n =
    parse-decimal 16 n c.args.text.now c.parse.result (omega arith) (omega arith) e c.parse.ensures.value.0 in
    let same : c.in-Ok.account ≡ n = cc in
    let written : c.as_str.result.now ≡ c.args.text.now =
    c.as_str.ensures.value ∙ c.in_ok-plain.ensures.ok ∙ ap decimal same ∙ sym e in
    let equal : c.eq.result ≡ true =
    c.eq.ensures ∙ (bytes_eq-Decides c.as_str.result.now c.args.text.now).1 written in
    elim c.else-eq.either [
      | inl large ↦ omega arith
      | inr other ↦ elim other [ inl small ↦ omega arith | inr differs ↦ cc ]
    ]
