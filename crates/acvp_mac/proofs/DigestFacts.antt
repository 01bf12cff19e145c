-- A digest has as many bytes as its hash function says, and they are bytes.
use Rattle.std.proofs.Common.{◌≡◌, ℕ, zero, suc, ◌/◌, ◌%◌, ◌^◌, ◌<◌, List, [], ◌∷◌, ◌++◌, length, take, get_or, arith}
use Rattle.std.specs.Int.{byte_at, bytes_high_first}
use Rattle.sha2.specs.Sha256 as S256
use Rattle.sha2.specs.Sha512 as S512
use Rattle.sha2.specs.Sha256.{sha224, sha256}
use Rattle.sha2.specs.Sha512.{sha384, sha512, sha512_224, sha512_256}
use Rattle.sha2.proofs.Facts256.{length-sha224, length-sha256}
use Rattle.sha2.proofs.Facts512.{length-sha384, length-sha512, length-sha512_224, length-sha512_256}
use Rattle.acvp_mac.specs.declared.HashName.{HashName}
use Rattle.acvp_mac.specs.declared.HashName.TheVariants.{Sha224, Sha256, Sha384, Sha512, Sha512_224, Sha512_256}
use Rattle.acvp_mac.specs.Hash.{digest_of, out_of}
use Rattle.acvp_mac.specs.Hmac.{hmac_of}

-- the length of a digest
pub length-digest_of : (a : HashName) (m : List ℕ) → length (digest_of a m) ≡ out_of a
length-digest_of Sha224 m = length-sha224 m
length-digest_of Sha256 m = length-sha256 m
length-digest_of Sha384 m = length-sha384 m
length-digest_of Sha512 m = length-sha512 m
length-digest_of Sha512_224 m = length-sha512_224 m
length-digest_of Sha512_256 m = length-sha512_256 m

-- the length of an HMAC
pub length-hmac_of : (a : HashName) (key text : List ℕ) → length (hmac_of a key text) ≡ out_of a
unfolding hmac_of
length-hmac_of a key text = length-digest_of a _

-- each element is a byte
abbrev pub AreBytes : List ℕ → Type 0
AreBytes xs = (i : ℕ) → get_or xs i 0 < 256

bytes-nil : AreBytes []
bytes-nil = λ i. omega arith

bytes-cons : (x : ℕ) (xs : List ℕ) → x < 256 → AreBytes xs → AreBytes (x ∷ xs)
bytes-cons x xs here rest = at
  where
    at : (i : ℕ) → get_or (x ∷ xs) i 0 < 256
    at zero = here
    at (suc i) = rest i

-- bytes after bytes
pub bytes-append : (xs ys : List ℕ) → AreBytes xs → AreBytes ys → AreBytes (xs ++ ys)
bytes-append [] ys h k = k
bytes-append (x ∷ xs) ys h k = bytes-cons x (xs ++ ys) (h zero) (bytes-append xs ys (λ i. h (suc i)) k)

bytes-take : (n : ℕ) (xs : List ℕ) → AreBytes xs → AreBytes (take n xs)
bytes-take zero xs h = bytes-nil
bytes-take (suc n) [] h = bytes-nil
bytes-take (suc n) (x ∷ xs) h = bytes-cons x (take n xs) (h zero) (bytes-take n xs (λ i. h (suc i)))

below-byte_at : (k n : ℕ) → byte_at k n < 256
below-byte_at zero n = omega arith
below-byte_at (suc k) n = let high : ℕ = n / 256 ^ suc k in let low : high % 256 < 256 = omega arith in low

bytes-high_first : (k n : ℕ) → AreBytes (bytes_high_first k n)
bytes-high_first zero n = bytes-nil
bytes-high_first (suc k) n = bytes-cons (byte_at k n) (bytes_high_first k n) (below-byte_at k n) (bytes-high_first k n)

bytes-words_256 : (h : List ℕ) (n : ℕ) → AreBytes (S256.digest_bytes h n)
unfolding S256.digest_bytes
bytes-words_256 h zero = bytes-nil
bytes-words_256 h (suc n) = bytes-append (S256.digest_bytes h n) _ (bytes-words_256 h n) (bytes-high_first 4 _)

bytes-words_512 : (h : List ℕ) (n : ℕ) → AreBytes (S512.digest_bytes h n)
unfolding S512.digest_bytes
bytes-words_512 h zero = bytes-nil
bytes-words_512 h (suc n) = bytes-append (S512.digest_bytes h n) _ (bytes-words_512 h n) (bytes-high_first 8 _)

-- the elements of a digest
pub bytes-digest_of : (a : HashName) (m : List ℕ) → AreBytes (digest_of a m)
unfolding sha224 sha256 sha384 sha512 sha512_224 sha512_256
bytes-digest_of Sha224 m = bytes-take 28 _ (bytes-words_256 _ 8)
bytes-digest_of Sha256 m = bytes-words_256 _ 8
bytes-digest_of Sha384 m = bytes-take 48 _ (bytes-words_512 _ 8)
bytes-digest_of Sha512 m = bytes-words_512 _ 8
bytes-digest_of Sha512_224 m = bytes-take 28 _ (bytes-words_512 _ 8)
bytes-digest_of Sha512_256 m = bytes-take 32 _ (bytes-words_512 _ 8)

-- the elements of an HMAC
pub bytes-hmac_of : (a : HashName) (key text : List ℕ) → AreBytes (hmac_of a key text)
unfolding hmac_of
bytes-hmac_of a key text = bytes-digest_of a _
