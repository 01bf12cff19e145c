-- The algorithms that are tested, and their names in registrations.
use Rattle.std.specs.Prelude.{ℕ, List, [], ◌∷◌, ◌++◌, codes, Bool, true, false, if◌then◌else◌, Option, find}
use Rattle.std.specs.Str.{bytes_eq}
use Rattle.acvp_mac.specs.declared.HashName.{HashName}
use Rattle.acvp_mac.specs.declared.HashName.TheVariants.{Sha224, Sha256, Sha384, Sha512, Sha512_224, Sha512_256}
use Rattle.acvp_caps.specs.declared.algorithm.Algorithm.{Algorithm}
use Rattle.acvp_caps.specs.declared.algorithm.Algorithm.TheVariants.{Sha2_224, Sha2_256, Sha2_384, Sha2_512}
use Rattle.acvp_caps.specs.declared.algorithm.Algorithm.TheVariants.{Sha2_512_224, Sha2_512_256, HmacSha2_224}
use Rattle.acvp_caps.specs.declared.algorithm.Algorithm.TheVariants.{HmacSha2_256, HmacSha2_384, HmacSha2_512}
use Rattle.acvp_caps.specs.declared.algorithm.Algorithm.TheVariants.{HmacSha2_512_224, HmacSha2_512_256}

-- all of them, in the order of their numbers from 1 on
abbrev pub algorithms : List Algorithm
algorithms =
    Sha2_224 ∷ Sha2_256 ∷ Sha2_384 ∷ Sha2_512 ∷ Sha2_512_224 ∷ Sha2_512_256
    ∷ HmacSha2_224 ∷ HmacSha2_256 ∷ HmacSha2_384 ∷ HmacSha2_512 ∷ HmacSha2_512_224 ∷ HmacSha2_512_256
    ∷ []

-- the number by which URLs name the algorithm
abbrev pub algorithm_number : Algorithm → ℕ
algorithm_number Sha2_224 = 1
algorithm_number Sha2_256 = 2
algorithm_number Sha2_384 = 3
algorithm_number Sha2_512 = 4
algorithm_number Sha2_512_224 = 5
algorithm_number Sha2_512_256 = 6
algorithm_number HmacSha2_224 = 7
algorithm_number HmacSha2_256 = 8
algorithm_number HmacSha2_384 = 9
algorithm_number HmacSha2_512 = 10
algorithm_number HmacSha2_512_224 = 11
algorithm_number HmacSha2_512_256 = 12

-- the hash function
abbrev pub hash_of : Algorithm → HashName
hash_of Sha2_224 = Sha224
hash_of Sha2_256 = Sha256
hash_of Sha2_384 = Sha384
hash_of Sha2_512 = Sha512
hash_of Sha2_512_224 = Sha512_224
hash_of Sha2_512_256 = Sha512_256
hash_of HmacSha2_224 = Sha224
hash_of HmacSha2_256 = Sha256
hash_of HmacSha2_384 = Sha384
hash_of HmacSha2_512 = Sha512
hash_of HmacSha2_512_224 = Sha512_224
hash_of HmacSha2_512_256 = Sha512_256

-- whether it is HMAC over the hash function, and not that function itself
abbrev pub is_hmac_of : Algorithm → Bool
is_hmac_of Sha2_224 = false
is_hmac_of Sha2_256 = false
is_hmac_of Sha2_384 = false
is_hmac_of Sha2_512 = false
is_hmac_of Sha2_512_224 = false
is_hmac_of Sha2_512_256 = false
is_hmac_of HmacSha2_224 = true
is_hmac_of HmacSha2_256 = true
is_hmac_of HmacSha2_384 = true
is_hmac_of HmacSha2_512 = true
is_hmac_of HmacSha2_512_224 = true
is_hmac_of HmacSha2_512_256 = true

-- a hash function's name
abbrev pub hash_name : HashName → List ℕ
hash_name Sha224 = codes "SHA2-224"
hash_name Sha256 = codes "SHA2-256"
hash_name Sha384 = codes "SHA2-384"
hash_name Sha512 = codes "SHA2-512"
hash_name Sha512_224 = codes "SHA2-512/224"
hash_name Sha512_256 = codes "SHA2-512/256"

-- an algorithm's name
abbrev pub name_of : Algorithm → List ℕ
name_of a = (if is_hmac_of a then codes "HMAC-" else []) ++ hash_name (hash_of a)

-- the algorithm of a name
unfoldable pub named : List ℕ → Option Algorithm
named name = find (λ a. bytes_eq (name_of a) name) algorithms
