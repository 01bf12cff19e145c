-- Lemmas on the groups that a capability gets: there are few, of few and short tests.
use Rattle.std.proofs.Common.{◌≡◌, ℕ, ◌*◌, ◌%◌, ◌≤◌, List, [], ◌∷◌, ◌++◌, length, get_or, map, Bool, true, false, cond}
use Rattle.std.proofs.Common.{Option, None, Some, refl, sym, subst, length-append, arith}
use Rattle.std.specs.Prelude.{All, MatchBool, is_some, IfSome}
use Rattle.std.specs.List.{filter_map, flat_map, slice_get, range_with_len}
use Rattle.std.proofs.lemmas.List.Elements.{All-filter, All-cons, All-map, All-nil, All-append, All-head, All-tail}
use Rattle.std.proofs.lemmas.List.{length-map}
use Rattle.std.proofs.lemmas.Option.{slice_get_within, get_or_from_slice_get}
use Rattle.acvp_caps.specs.declared.algorithm.Algorithm.{Algorithm}
use Rattle.acvp_caps.specs.declared.capability.Domains.{Domains}
use Rattle.acvp_caps.specs.declared.capability.Domains.TheVariants.{Message, KeyAndMac}
use Rattle.acvp_caps.specs.Algorithms.{is_hmac_of}
use Rattle.acvp_caps.specs.Capability.{AreLengths, AreDomainsOf, AreHashDomains, AreHmacDomains, block_bits}
use Rattle.acvp_caps.specs.Capability.{digest_bits}
use Rattle.acvp_gen.specs.declared.group.GroupForm.{GroupForm}
use Rattle.acvp_gen.specs.declared.group.GroupForm.TheVariants.{Digest, MonteCarlo}
use Rattle.acvp_gen.specs.declared.shape.TestShape.{TestShape}
use Rattle.acvp_gen.specs.Choice.{ShapeValue, ends, has, ends_and_edges, drawn, message_lengths, key_lengths}
use Rattle.acvp_gen.specs.Choice.{mac_lengths, hash_test, hash_shape, hash_shapes, hmac_test, hmac_shape, hmac_shapes}
use Rattle.acvp_gen.specs.Choice.{shapes_on}
use Rattle.acvp_gen.specs.Choice as choice
use Rattle.acvp_gen.specs.Words.{word_of}
use Rattle.acvp_gen.specs.Prompt.{sizes_of}
use Rattle.acvp_gen.specs.Prompts.{IsSized}
use Rattle.acvp_gen.specs.Private.Filling.{IsShort, IsSmall, AreSmall}

-- ---- what holds of each member holds of each length

all_chosen : (P : ℕ → Type 0) (members : List ℕ) → All P members → (n place : ℕ) → slice_get members place ≡ Some n
    → P n
all_chosen P members all n place at =
    subst P (get_or_from_slice_get members place n n at) (all place n (slice_get_within members place n at))

all_read : (P : ℕ → Type 0) (members : List ℕ) (place : ℕ → ℕ) (xs : List ℕ) → All P members
    → All P (filter_map (λ x. slice_get members (place x)) xs)
all_read P members place [] all = All-nil P
all_read P members place (x ∷ xs) all = more (slice_get members (place x)) refl (all_read P members place xs all)
  where
    more : (o : Option ℕ) → slice_get members (place x) ≡ o → All P (filter_map (λ x. slice_get members (place x)) xs)
        → All P (filter_map (λ x. slice_get members (place x)) (x ∷ xs))
    more None is rest = rw is rest
    more (Some n) is rest =
        rw is (All-cons P n (filter_map (λ x. slice_get members (place x)) xs)
        (all_chosen P members all n (place x) is) rest)

all_lengths : (P : ℕ → Type 0) (edges members : List ℕ) (seed : List ℕ) (vs draws : ℕ) → All P members
    → All P (ends_and_edges edges members ++ drawn seed vs draws members)
all_lengths P edges members seed vs draws all =
    All-append P (ends_and_edges edges members) (drawn seed vs draws members)
    (All-filter (has (ends members ++ edges)) P members all)
    (all_read P members (λ place. word_of seed vs place % length members) (range_with_len 0 draws) all)

-- ---- hash functions

short_hash_test : (bits : ℕ) → bits ≤ 65536 → IsShort (hash_test bits)
short_hash_test bits least = record { key = omega arith; message = least }

small_hash_shape : (form : GroupForm) (lengths : List ℕ) → length lengths ≤ 26 → All (λ n. n ≤ 65536) lengths
    → IsSmall (hash_shape form lengths)
small_hash_shape form lengths few short = record {
  few = omega (arith, length-map lengths hash_test, few);
  short = All-map IsShort hash_test lengths (λ k d within. short_hash_test (get_or lengths k d) (short k d within));
}

one_length : (n : ℕ) → n ≤ 65536 → All (λ n. n ≤ 65536) (n ∷ [])
one_length n most = All-cons (λ n. n ≤ 65536) n [] most (All-nil (λ n. n ≤ 65536))

pub small_hash_shapes : (seed : List ℕ) (vs : ℕ) (a : Algorithm) (members : List ℕ) → AreLengths 0 65536 members
    → length (message_lengths seed vs a members) ≤ 26 → digest_bits a ≤ 512 → AreSmall (hash_shapes seed vs a members)
small_hash_shapes seed vs a members fit few short = at (has members (3 * digest_bits a))
  where
    digests : IsSmall (hash_shape Digest (message_lengths seed vs a members))
    digests = small_hash_shape Digest (message_lengths seed vs a members) few
        (all_lengths (λ n. n ≤ 65536) (choice.message_edges (block_bits a)) members seed vs choice.message_draws
        (λ k d within. (fit.within k d within).1))

    monte_carlo : IsSmall (hash_shape MonteCarlo (digest_bits a ∷ []))
    monte_carlo = small_hash_shape MonteCarlo (digest_bits a
        ∷ []) (omega arith) (one_length (digest_bits a) (omega (arith, short)))

    at : (b : Bool) → AreSmall (hash_shape Digest (message_lengths seed vs a members)
        ∷ cond b (hash_shape MonteCarlo (digest_bits a ∷ []) ∷ []) [])
    at true = record {
      few = omega arith;
      small = All-cons IsSmall (hash_shape Digest (message_lengths seed vs a members))
          (hash_shape MonteCarlo (digest_bits a ∷ []) ∷ []) digests
          (All-cons IsSmall (hash_shape MonteCarlo (digest_bits a ∷ [])) [] monte_carlo (All-nil IsSmall));
    }
    at false = record {
      few = omega arith;
      small = All-cons IsSmall (hash_shape Digest (message_lengths seed vs a members)) [] digests
          (All-nil IsSmall);
    }

-- ---- HMAC

small_hmac_shape : (key mac : ℕ) → key ≤ 524288 → IsSmall (hmac_shape key mac)
small_hmac_shape key mac most =
    let short : IsShort (hmac_test key) = record { key = most; message = omega arith } in
    record {
      few = omega arith;
      short = All-cons IsShort (hmac_test key) (hmac_test key ∷ hmac_test key ∷ []) short
          (All-cons IsShort (hmac_test key) (hmac_test key
          ∷ []) short (All-cons IsShort (hmac_test key) [] short (All-nil IsShort)));
    }

small_for_key : (key : ℕ) (macs : List ℕ) → key ≤ 524288 → All IsSmall (map (hmac_shape key) macs)
small_for_key key macs most =
    All-map IsSmall (hmac_shape key) macs (λ k d within. small_hmac_shape key (get_or macs k d) most)

all_small : (keys macs : List ℕ) → All (λ n. n ≤ 524288) keys
    → All IsSmall (flat_map (λ key. map (hmac_shape key) macs) keys)
all_small [] macs most = All-nil IsSmall
all_small (key ∷ keys) macs most =
    All-append IsSmall (map (hmac_shape key) macs) (flat_map (λ key. map (hmac_shape key) macs) keys)
    (small_for_key key macs (All-head (λ n. n ≤ 524288) key keys most))
    (all_small keys macs (All-tail (λ n. n ≤ 524288) key keys most))

few_groups : (keys macs : List ℕ) → length macs ≤ 2
    → length (flat_map (λ key. map (hmac_shape key) macs) keys) ≤ 2 * length keys
few_groups [] macs few = omega arith
few_groups (key ∷ keys) macs few =
    omega (
      arith,
      few_groups keys macs few,
      length-map macs (hmac_shape key),
      length-append (map (hmac_shape key) macs) (flat_map (λ key. map (hmac_shape key) macs) keys),
      few,
    )

pub small_hmac_shapes : (seed : List ℕ) (vs : ℕ) (a : Algorithm) (keys macs : List ℕ) → AreLengths 8 524288 keys
    → length (key_lengths seed vs a keys) ≤ 7 → length (mac_lengths macs) ≤ 2
    → AreSmall (hmac_shapes seed vs a keys macs)
small_hmac_shapes seed vs a keys macs fit few_keys few_macs = record {
  few = omega (arith, few_groups (key_lengths seed vs a keys) (mac_lengths macs) few_macs, few_keys);
  small = all_small (key_lengths seed vs a keys) (mac_lengths macs)
      (all_lengths (λ n. n ≤ 524288) (choice.key_edges (block_bits a)) keys seed vs choice.key_draws
      (λ k d within. (fit.within k d within).1));
}

-- ---- what holds of each group, before its bytes are made

pub record IsShapeOf (a : Algorithm) (shape : ShapeValue) : Type 0 where
  pub sizes : is_some (sizes_of shape.form) ≡ is_hmac_of a
  pub sized : IsSized a shape.form
  pub whole_keys : IfSome (sizes_of shape.form) (λ s. s.key_bits % 8 ≡ 0)
  pub keys : IfSome (sizes_of shape.form) (λ s. All (λ t. t.key_bits ≡ s.key_bits) shape.tests)
  pub seeds : shape.form ≡ MonteCarlo → All (λ t. t.message_bits ≡ digest_bits a) shape.tests
  pub messages : All (λ t. t.message_bits % 8 ≡ 0) shape.tests

digest_shape : (a : Algorithm) (lengths : List ℕ) → is_hmac_of a ≡ false → All (λ n. n % 8 ≡ 0) lengths
    → IsShapeOf a (hash_shape Digest lengths)
digest_shape a lengths hash whole = record {
  sizes = sym hash;
  sized = tt;
  whole_keys = tt;
  keys = tt;
  seeds = λ is. cc;
  messages = All-map (λ t. t.message_bits % 8 ≡ 0) hash_test lengths whole;
}

monte_carlo_shape : (a : Algorithm) → is_hmac_of a ≡ false → IsShapeOf a (hash_shape MonteCarlo (digest_bits a ∷ []))
monte_carlo_shape a hash =
    let whole : digest_bits a % 8 ≡ 0 = omega arith in
    record {
      sizes = sym hash;
      sized = tt;
      whole_keys = tt;
      keys = tt;
      seeds = λ is. All-cons (λ t. t.message_bits ≡ digest_bits a) (hash_test (digest_bits a)) [] refl
          (All-nil (λ t. t.message_bits ≡ digest_bits a));
      messages = All-cons (λ t. t.message_bits % 8 ≡ 0) (hash_test (digest_bits a)) [] whole
          (All-nil (λ t. t.message_bits % 8 ≡ 0));
    }

fit_hash_shapes : (seed : List ℕ) (vs : ℕ) (a : Algorithm) (members : List ℕ) → is_hmac_of a ≡ false
    → AreLengths 0 65536 members → All (IsShapeOf a) (hash_shapes seed vs a members)
fit_hash_shapes seed vs a members hash fit = at (has members (3 * digest_bits a))
  where
    first : IsShapeOf a (hash_shape Digest (message_lengths seed vs a members))
    first = digest_shape a (message_lengths seed vs a members) hash
        (all_lengths (λ n. n % 8 ≡ 0) (choice.message_edges (block_bits a)) members seed vs choice.message_draws
        fit.whole_bytes)

    at : (b : Bool) → All (IsShapeOf a) (hash_shape Digest (message_lengths seed vs a members)
        ∷ cond b (hash_shape MonteCarlo (digest_bits a ∷ []) ∷ []) [])
    at true = All-cons (IsShapeOf a) (hash_shape Digest (message_lengths seed vs a members))
        (hash_shape MonteCarlo (digest_bits a ∷ []) ∷ []) first
        (All-cons (IsShapeOf a) (hash_shape MonteCarlo (digest_bits a ∷ [])) [] (monte_carlo_shape a hash)
        (All-nil (IsShapeOf a)))
    at false = All-cons (IsShapeOf a) (hash_shape Digest (message_lengths seed vs a members)) [] first
        (All-nil (IsShapeOf a))

-- what holds of a test holds of three of them
three : (P : TestShape → Type 0) (test : TestShape) → P test → All P (test ∷ test ∷ test ∷ [])
three P test is =
    All-cons P test (test ∷ test ∷ []) is (All-cons P test (test ∷ []) is (All-cons P test [] is (All-nil P)))

fit_hmac_shape : (a : Algorithm) (key mac : ℕ) → is_hmac_of a ≡ true → key % 8 ≡ 0 → mac ≤ digest_bits a
    → IsShapeOf a (hmac_shape key mac)
fit_hmac_shape a key mac hmac whole most = record {
  sizes = sym hmac;
  sized = most;
  whole_keys = whole;
  keys = three (λ t. t.key_bits ≡ key) (hmac_test key) refl;
  seeds = λ is. cc;
  messages = three (λ t. t.message_bits % 8 ≡ 0) (hmac_test key) refl;
}

fit_for_keys : (a : Algorithm) (keys macs : List ℕ) → is_hmac_of a ≡ true → All (λ n. n % 8 ≡ 0) keys
    → All (λ n. n ≤ digest_bits a) macs → All (IsShapeOf a) (flat_map (λ key. map (hmac_shape key) macs) keys)
fit_for_keys a [] macs hmac whole most = All-nil (IsShapeOf a)
fit_for_keys a (key ∷ keys) macs hmac whole most =
    All-append (IsShapeOf a) (map (hmac_shape key) macs) (flat_map (λ key. map (hmac_shape key) macs) keys)
    (All-map (IsShapeOf a) (hmac_shape key) macs
    (λ k d within. fit_hmac_shape a key (get_or macs k d) hmac (All-head (λ n. n % 8 ≡ 0) key keys whole)
    (most k d within)))
    (fit_for_keys a keys macs hmac (All-tail (λ n. n % 8 ≡ 0) key keys whole) most)

fit_hmac_shapes : (seed : List ℕ) (vs : ℕ) (a : Algorithm) (keys macs : List ℕ) → is_hmac_of a ≡ true
    → AreLengths 8 524288 keys → AreLengths 32 (digest_bits a) macs
    → All (IsShapeOf a) (hmac_shapes seed vs a keys macs)
fit_hmac_shapes seed vs a keys macs hmac fit_keys fit_macs =
    fit_for_keys a (key_lengths seed vs a keys) (mac_lengths macs) hmac
    (all_lengths (λ n. n % 8 ≡ 0) (choice.key_edges (block_bits a)) keys seed vs choice.key_draws fit_keys.whole_bytes)
    (All-filter (has (ends macs ++ [])) (λ n. n ≤ digest_bits a) macs (λ k d within. (fit_macs.within k d within).1))

of_hash : (bits : ℕ) (b : Bool) (members : List ℕ)
    → MatchBool b (AreHmacDomains bits (Message members)) (AreHashDomains (Message members))
    → (b ≡ false) × AreLengths 0 65536 members
of_hash bits true members fit = absurd fit
of_hash bits false members fit = (refl, fit)

of_hmac : (bits : ℕ) (b : Bool) (keys macs : List ℕ)
    → MatchBool b (AreHmacDomains bits (KeyAndMac keys macs)) (AreHashDomains (KeyAndMac keys macs))
    → (b ≡ true) × AreLengths 8 524288 keys × AreLengths 32 bits macs
of_hmac bits true keys macs fit = (refl, fit.0, fit.1)
of_hmac bits false keys macs fit = absurd fit

pub fit_shapes : (seed : List ℕ) (vs : ℕ) (a : Algorithm) (domains : Domains) → AreDomainsOf a domains
    → All (IsShapeOf a) (shapes_on seed vs a domains)
fit_shapes seed vs a (Message members) fit =
    let both = of_hash (digest_bits a) (is_hmac_of a) members fit in
    fit_hash_shapes seed vs a members both.0 both.1
fit_shapes seed vs a (KeyAndMac keys macs) fit =
    let all = of_hmac (digest_bits a) (is_hmac_of a) keys macs fit in
    fit_hmac_shapes seed vs a keys macs all.0 all.1 all.2
