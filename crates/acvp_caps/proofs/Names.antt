-- The names of the algorithms.
use Rattle.std.proofs.Common.{◌≡◌, ◌≢◌, ℕ, lit<, List, [], ◌∷◌, Bool, true, false, not, Option, None, Some, MatchOption}
use Rattle.std.proofs.Common.{refl, arith}
use Rattle.std.specs.Prelude.{find}
use Rattle.std.specs.List.{list_all, AllPass}
use Rattle.std.specs.Str.{bytes_eq}
use Rattle.std.proofs.lemmas.List.Sums.{AllPass-from_list_all}
use Rattle.std.proofs.lemmas.Slice.Eq.{bytes_eq-Decides}
use Rattle.acvp_caps.specs.declared.algorithm.Algorithm.{Algorithm}
use Rattle.acvp_caps.specs.declared.algorithm.Algorithm.TheVariants.{Sha2_224, Sha2_256, Sha2_384, Sha2_512}
use Rattle.acvp_caps.specs.declared.algorithm.Algorithm.TheVariants.{Sha2_512_224, Sha2_512_256, HmacSha2_224}
use Rattle.acvp_caps.specs.declared.algorithm.Algorithm.TheVariants.{HmacSha2_256, HmacSha2_384, HmacSha2_512}
use Rattle.acvp_caps.specs.declared.algorithm.Algorithm.TheVariants.{HmacSha2_512_224, HmacSha2_512_256}
use Rattle.acvp_caps.specs.Algorithms.{algorithms, name_of, named}

-- what is found passes, and where nothing is found nothing passes
found-cons : {X : Type 0} (p : X → Bool) (x : X) (xs : List X)
    → MatchOption (find p xs) (list_all (λ y. not (p y)) xs ≡ true) (λ y. p y ≡ true) → (b : Bool) → p x ≡ b
    → MatchOption (find p (x ∷ xs)) (list_all (λ y. not (p y)) (x ∷ xs) ≡ true) (λ y. p y ≡ true)
found-cons p x xs rest true e = rw e e
found-cons p x xs rest false e = rw e rest

pub found : {X : Type 0} (p : X → Bool) (xs : List X)
    → MatchOption (find p xs) (list_all (λ x. not (p x)) xs ≡ true) (λ x. p x ≡ true)
found p [] = refl
found p (x ∷ xs) = found-cons p x xs (found p xs) (p x) refl

-- a list of tests that all fail on the algorithms fails on each
pub none_passes : (p : Algorithm → Bool) → AllPass (λ a. not (p a)) algorithms → (a : Algorithm) → not (p a) ≡ true
none_passes p h Sha2_224 = h 0 Sha2_224 (lit< tt)
none_passes p h Sha2_256 = h 1 Sha2_256 (lit< tt)
none_passes p h Sha2_384 = h 2 Sha2_384 (lit< tt)
none_passes p h Sha2_512 = h 3 Sha2_512 (lit< tt)
none_passes p h Sha2_512_224 = h 4 Sha2_512_224 (lit< tt)
none_passes p h Sha2_512_256 = h 5 Sha2_512_256 (lit< tt)
none_passes p h HmacSha2_224 = h 6 HmacSha2_224 (lit< tt)
none_passes p h HmacSha2_256 = h 7 HmacSha2_256 (lit< tt)
none_passes p h HmacSha2_384 = h 8 HmacSha2_384 (lit< tt)
none_passes p h HmacSha2_512 = h 9 HmacSha2_512 (lit< tt)
none_passes p h HmacSha2_512_224 = h 10 HmacSha2_512_224 (lit< tt)
none_passes p h HmacSha2_512_256 = h 11 HmacSha2_512_256 (lit< tt)

pub same_text : (a b : List ℕ) → bytes_eq a b ≡ true → a ≡ b
same_text a b h = grind (arith, bytes_eq-Decides a b)

pub other_text : (a b : List ℕ) → not (bytes_eq a b) ≡ true → a ≢ b
other_text a b h = grind (arith, bytes_eq-Decides a b)

-- what the look-up by name says
pub named-means : (name : List ℕ)
    → MatchOption (named name) ((a : Algorithm) → name_of a ≢ name) (λ a. name_of a ≡ name)
unfolding named
named-means name = at (find (λ a. bytes_eq (name_of a) name) algorithms)
    (found (λ a. bytes_eq (name_of a) name) algorithms)
  where
    at : (o : Option Algorithm) → MatchOption o (list_all (λ a. not (bytes_eq (name_of a) name)) algorithms ≡ true)
        (λ a. bytes_eq (name_of a) name ≡ true)
        → MatchOption o ((a : Algorithm) → name_of a ≢ name) (λ a. name_of a ≡ name)
    at None h = λ a. other_text (name_of a) name
        (none_passes (λ b. bytes_eq (name_of b) name)
        (AllPass-from_list_all (λ b. not (bytes_eq (name_of b) name)) algorithms h) a)
    at (Some a) h = same_text (name_of a) name h
