use Rattle.acvp_keys.proofs.KeysLemmas.{no_token_digits, some_key}
use Rattle.acvp_keys.proofs.reading.read_token_line.Goals as goal

pub returns-in_err-key : goal.returns-in_err-key
returns-in_err-key c = rw c.from_residual-in_err-key.ensures (no_token_digits c.args.text.now
    c.in_ok-digits.digits.now c.in_default.ensures c.in_ok-digits.ensures c.in_err-key.ensures)

pub returns : goal.returns
returns c =
    some_key c.args.text.now c.in_ok-digits.digits.now c.in_ok-key.key c.in_ok-key.rest.now c.in_ok-digits.ensures
    c.in_ok-key.ensures
