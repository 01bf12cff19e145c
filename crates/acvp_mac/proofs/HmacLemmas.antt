-- A key's block and its pads, as the code makes them in arrays of the largest block.
use Rattle.std.proofs.Common.{◌≡◌, ℕ, zero, suc, ◌+◌, ◌-◌, ◌≤◌, List, [], ◌∷◌, ◌++◌, length, take, replicate, map}
use Rattle.std.proofs.Common.{bit_xor, true, false, nat_lt, ◌<◌, refl, ap, ◌∙◌, arith}
use Rattle.std.proofs.lemmas.List.{take-replicate}
use Rattle.std.proofs.Math.Seq.{take-append-add}
use Rattle.std.proofs.lemmas.Bool.Decides.{nat_tests}
use Rattle.acvp_mac.specs.declared.HashName.{HashName}
use Rattle.acvp_mac.specs.Hash.{digest_of, block_of}
use Rattle.acvp_mac.specs.Hmac.{xor_each, block_key}

-- the front of a list whose bytes were each changed by the pad
pub take-map-xor : (n pad : ℕ) (xs : List ℕ) → n ≤ length xs
    → take n (map (λ b. bit_xor b pad) xs) ≡ xor_each (take n xs) (replicate n pad)
take-map-xor zero pad xs h = refl
take-map-xor (suc n) pad [] h = absurd (omega arith)
take-map-xor (suc n) pad (x ∷ xs) h = ap (λ ys. bit_xor x pad ∷ ys) (take-map-xor n pad xs (omega arith))

-- the front of a list with zeros after it, as long as a block that has room for it
pub take-zero_filled : (block whole : ℕ) (xs : List ℕ) → length xs ≤ block → block ≤ whole →
    take block (xs ++ replicate (whole - length xs) 0) ≡ xs ++ replicate (block - length xs) 0
take-zero_filled block whole xs short room =
    let rest : length xs + (block - length xs) ≡ block = omega arith in
    let fits : block - length xs ≤ whole - length xs = omega arith in
    let split = take-append-add xs (replicate (whole - length xs) 0) (block - length xs) in
    rw rest at split ∙ ap (λ (zs : List ℕ). xs ++ zs) (take-replicate (block - length xs) (whole - length xs) 0 fits)

-- a key that is longer than a block goes in by its digest
pub block_key-long : (a : HashName) (key : List ℕ) (block : ℕ) → block ≡ block_of a → block < length key →
    block_key a key ≡ digest_of a key ++ replicate (block - length (digest_of a key)) 0
block_key-long a key block e long =
    let test : nat_lt (block_of a) (length key) ≡ true = grind (arith, nat_tests) in
    rw (test, e) refl

-- a key that is no longer than a block goes in as it is
pub block_key-short : (a : HashName) (key : List ℕ) (block : ℕ) → block ≡ block_of a → length key ≤ block →
    block_key a key ≡ key ++ replicate (block - length key) 0
block_key-short a key block e short =
    let test : nat_lt (block_of a) (length key) ≡ false = grind (arith, nat_tests) in
    rw (test, e) refl
