-- The hash functions by name (FIPS 180-4), on whole lists of bytes.
use Rattle.std.specs.Prelude.{ℕ, List}
use Rattle.sha2.specs.Sha256.{sha224, sha256}
use Rattle.sha2.specs.Sha512.{sha384, sha512, sha512_224, sha512_256}
use Rattle.acvp_mac.specs.declared.HashName.{HashName}
use Rattle.acvp_mac.specs.declared.HashName.TheVariants.{Sha224, Sha256, Sha384, Sha512, Sha512_224, Sha512_256}

-- the digest of a message (sections 6.2 to 6.7)
abbrev pub digest_of : HashName → List ℕ → List ℕ
digest_of Sha224 m = sha224 m
digest_of Sha256 m = sha256 m
digest_of Sha384 m = sha384 m
digest_of Sha512 m = sha512 m
digest_of Sha512_224 m = sha512_224 m
digest_of Sha512_256 m = sha512_256 m

-- the bytes of a block (section 1, figure 1)
abbrev pub block_of : HashName → ℕ
block_of Sha224 = 64
block_of Sha256 = 64
block_of Sha384 = 128
block_of Sha512 = 128
block_of Sha512_224 = 128
block_of Sha512_256 = 128

-- the bytes of a digest (section 1, figure 1)
abbrev pub out_of : HashName → ℕ
out_of Sha224 = 28
out_of Sha256 = 32
out_of Sha384 = 48
out_of Sha512 = 64
out_of Sha512_224 = 28
out_of Sha512_256 = 32
