use Rattle.std.proofs.Common.{sym}
use Rattle.std.proofs.lemmas.List.{take-append-drop}
use Rattle.acvp_keys.proofs.KeysLemmas.{first_line}
use Rattle.acvp_keys.proofs.reading.read_line.Goals as goal

pub returns-in_err-bytes : goal.returns-in_err-bytes
returns-in_err-bytes c = rw c.from_residual-in_err-bytes.ensures (λ bytes rest h.
    c.in_err-bytes.ensures bytes (rw c.in_ok-line.ensures.cases.1 (first_line c.args.text.now bytes rest h)))

pub returns : goal.returns
returns c = (
  c.in_ok-line.line.now,
  c.in_ok-bytes.ensures,
  rw (c.in_ok-line.ensures.cases.1, c.in_ok-line.ensures.cases.2) (sym (take-append-drop 65 c.args.text.now)),
)
