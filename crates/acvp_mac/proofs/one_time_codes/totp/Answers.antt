use Rattle.std.proofs.Common.{◌≡◌, ℕ, ◌%◌, ◌^◌, bit_and, get_or, ap, ◌∙◌, refl}
use Rattle.std.proofs.lemmas.Nat.{and_mask}
use Rattle.acvp_mac.specs.Codes.{code_of, step_mac, truncated}
use Rattle.acvp_mac.proofs.CodeLemmas.{from_be_bytes-take-drop}
use Rattle.acvp_mac.proofs.one_time_codes.totp.Goals as goal

pub returns-clause-value : goal.returns-clause-value
unfolding code_of
returns-clause-value c =
    let mac = c.as_slice-bytes.result.now in
    let is_mac : mac ≡ step_mac c.args.secret.now c.args.step =
    rw (c.as_slice-bytes.ensures.value, c.hmac-mac.ensures.value, c.to_be_bytes.ensures) refl in
    let place : bit_and (get_or mac 31 0) 15 ≡ get_or mac 31 0 % 16 = and_mask (get_or mac 31 0) 4 in
    let word : c.from_be_bytes-word.result % 2 ^ 31 ≡ truncated mac =
    rw (c.from_be_bytes-word.ensures, place, from_be_bytes-take-drop mac (get_or mac 31 0 % 16)) refl in
    let masked : bit_and c.from_be_bytes-word.result 2147483647 ≡ c.from_be_bytes-word.result % 2 ^ 31 =
    and_mask c.from_be_bytes-word.result 31 in
    ap (λ (n : ℕ). n % 100000000) (masked ∙ word) ∙ ap (λ (m : _). truncated m % 100000000) is_mac
