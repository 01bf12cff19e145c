use Rattle.std.proofs.Common.{[]}
use Rattle.acvp_keys.proofs.KeysLemmas.{second_line, one_line}
use Rattle.acvp_keys.proofs.reading.read_short.Goals as goal

pub returns-in_err-token : goal.returns-in_err-token
returns-in_err-token c = rw c.from_residual.ensures (λ ring seeds h. c.in_err-token.ensures h.0 h.3 (h.2, h.5, h.4))

pub returns-in_err-seed : goal.returns-in_err-seed
returns-in_err-seed c = rw c.from_residual-in_err-seed.ensures (λ ring seeds h.
    let second = second_line c.args.text.now c.in_ok-token.rest.now c.in_ok-token.token ring seeds
    c.in_ok-token.ensures h in
    c.in_err-seed.ensures second.0 [] (one_line c.in_ok-token.rest.now second.0 second.1))
