-- A capability: an algorithm and the domains of its parameters, all of them lengths in bits.
use Rattle.std.specs.Prelude.{◌≡◌, ℕ, ◌*◌, ◌%◌, ◌<◌, ◌≤◌, List, [], ◌∷◌, length, All, Bool, nat_eq, MatchBool}
use Rattle.std.specs.Cmp.Lexicographic.{pointwise}
use Rattle.std.specs.List.Sorted.{IsStrictlyIncreasing}
use Rattle.std.specs.Ordering.{eq_of_both, on}
use Rattle.acvp_mac.specs.Hash.{block_of, out_of}
use Rattle.acvp_caps.specs.declared.algorithm.Algorithm.{Algorithm}
use Rattle.acvp_caps.specs.declared.capability.Domains.{Domains}
use Rattle.acvp_caps.specs.declared.capability.Domains.TheVariants.{Message, KeyAndMac}
use Rattle.acvp_caps.specs.declared.given.Given.{Given}
use Rattle.acvp_caps.specs.Algorithms.{algorithm_number, hash_of, is_hmac_of}

-- what contracts see of a capability, with the items by which the domains were given
pub record CapabilityValue : Type 0 where
  pub algorithm : Algorithm
  pub domains : Domains
  pub given : Given

-- the members of each parameter's domain
abbrev pub parameter_lists : Domains → List (List ℕ)
parameter_lists (Message message) = message ∷ []
parameter_lists (KeyAndMac key mac) = key ∷ mac ∷ []

-- whether domains are the same
abbrev pub same_domains : Domains → Domains → Bool
same_domains = on parameter_lists (pointwise (pointwise nat_eq))

-- whether capabilities are the same
abbrev pub same_capability : CapabilityValue → CapabilityValue → Bool
same_capability = eq_of_both (on (λ c. algorithm_number c.algorithm) nat_eq) (on (λ c. c.domains) same_domains)

-- lengths of whole bytes between two limits, at least one, ascending, each once
pub record AreLengths (low high : ℕ) (lengths : List ℕ) : Type 0 where
  pub some : 0 < length lengths
  pub ascending : IsStrictlyIncreasing lengths
  pub within : All (λ n. (low ≤ n) × (n ≤ high)) lengths
  pub whole_bytes : All (λ n. n % 8 ≡ 0) lengths

-- the bits of a block of the algorithm's hash function
abbrev pub block_bits : Algorithm → ℕ
block_bits a = 8 * block_of (hash_of a)

-- the bits of its digest
abbrev pub digest_bits : Algorithm → ℕ
digest_bits a = 8 * out_of (hash_of a)

-- what a hash function is tested at: messages of 0 to 65536 bits
abbrev pub AreHashDomains : Domains → Type 0
AreHashDomains (Message message) = AreLengths 0 65536 message
AreHashDomains (KeyAndMac key mac) = ⊥

-- what HMAC is tested at: keys of 8 to 524288 bits, and results of 32 bits to those of the digest
abbrev pub AreHmacDomains : ℕ → Domains → Type 0
AreHmacDomains bits (Message message) = ⊥
AreHmacDomains bits (KeyAndMac key mac) = AreLengths 8 524288 key × AreLengths 32 bits mac

-- the domains are those of the algorithm's parameters, and within what it is tested at
abbrev pub AreDomainsOf : Algorithm → Domains → Type 0
AreDomainsOf a domains = MatchBool (is_hmac_of a) (AreHmacDomains (digest_bits a) domains) (AreHashDomains domains)
