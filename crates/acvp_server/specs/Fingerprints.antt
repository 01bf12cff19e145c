-- By what a database knows a seed that it was served with, and doesn't hold.
use Rattle.std.specs.Prelude.{ℕ, List, ◌++◌, codes, take}
use Rattle.std.specs.Int.{from_be_bytes, w32}
use Rattle.acvp_mac.specs.Hash.{digest_of}
use Rattle.acvp_mac.specs.declared.HashName.TheVariants.{Sha256}

-- the first four bytes of the SHA-256 digest of these words and the seed, high byte first
unfoldable pub fingerprint_of : List ℕ → ℕ
fingerprint_of seed = from_be_bytes w32 (take 4 (digest_of Sha256 (codes "acvp_server seed" ++ seed)))
