-- What a contract sees of a digest: its bytes as a list, without the zeros that fill its array.
use Rattle.std.specs.Prelude.{◌≡◌, ℕ, ◌-◌, ◌≤◌, List, ◌++◌, length, take, drop, replicate}
use Rattle.std.proofs.Common.{ap, ◌∙◌, arith}
use Rattle.std.proofs.lemmas.List.{length-take-le, take-append-drop}
use Rattle.acvp_mac.specs.declared.digest_bytes.Digest.TheInside.{Inside}

-- the bytes of the digest
abbrev pub shown_bytes : Inside → List ℕ
shown_bytes d = take d.len d.bytes

-- the array has 64 bytes, which are zero past the digest's
pub record IsZeroFilled (d : Inside) : Type 0 where
  pub room : length d.bytes ≡ 64
  pub fits : d.len ≤ 64
  pub filled : drop d.len d.bytes ≡ replicate (64 - d.len) 0

-- the digest of these bytes
abbrev pub from_shown : List ℕ → Inside
from_shown bytes = record { bytes = bytes ++ replicate (64 - length bytes) 0; len = length bytes }

-- a digest is given back by its bytes
pub from_shown-shown_bytes : (d : Inside) → IsZeroFilled d → from_shown (shown_bytes d) ≡ d
from_shown-shown_bytes d h =
    let len : length (take d.len d.bytes) ≡ d.len = length-take-le d.len d.bytes (omega (arith, h.room, h.fits)) in
    let made : List ℕ → ℕ → Inside = λ bytes n. record { bytes = bytes; len = n } in
    let whole : take d.len d.bytes ++ replicate (64 - d.len) 0 ≡ d.bytes =
    rw (← h.filled) (take-append-drop d.len d.bytes) in
    let short : from_shown (shown_bytes d) ≡ made (take d.len d.bytes ++ replicate (64 - d.len) 0) d.len =
    ap (λ (n : ℕ). made (take d.len d.bytes ++ replicate (64 - n) 0) n) len in
    short ∙ ap (λ (bytes : List ℕ). made bytes d.len) whole
