-- The keyed-hash message authentication code of FIPS 198-1, on whole lists of bytes.
use Rattle.std.specs.Prelude.{ℕ, ◌-◌, List, [], ◌∷◌, ◌++◌, length, replicate, bit_xor, nat_lt, if◌then◌else◌}
use Rattle.acvp_mac.specs.declared.HashName.{HashName}
use Rattle.acvp_mac.specs.Hash.{digest_of, block_of}

-- the exclusive or of two lists, byte by byte
abbrev pub xor_each : List ℕ → List ℕ → List ℕ
xor_each [] ys = []
xor_each (x ∷ xs) [] = []
xor_each (x ∷ xs) (y ∷ ys) = bit_xor x y ∷ xor_each xs ys

-- a key, or its digest where it is longer than a block (section 4, steps 1 and 2)
abbrev pub short_key : HashName → List ℕ → List ℕ
short_key a key = if nat_lt (block_of a) (length key) then digest_of a key else key

-- K0: that key, then zeros up to a block (section 4, steps 1 to 3)
abbrev pub block_key : HashName → List ℕ → List ℕ
block_key a key = short_key a key ++ replicate (block_of a - length (short_key a key)) 0

-- the inner pad, and the outer pad (section 2.3)
abbrev pub inner_pad : HashName → List ℕ
inner_pad a = replicate (block_of a) 0x36

abbrev pub outer_pad : HashName → List ℕ
outer_pad a = replicate (block_of a) 0x5c

-- HMAC of a text under a key: H((K0 xor opad) ++ H((K0 xor ipad) ++ text)) (section 4)
unfoldable pub hmac_of : HashName → List ℕ → List ℕ → List ℕ
hmac_of a key text =
    digest_of a (xor_each (block_key a key) (outer_pad a)
    ++ digest_of a (xor_each (block_key a key) (inner_pad a) ++ text))
