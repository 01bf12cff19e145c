-- Lemmas on taking the bytes of a head one after another.
use Rattle.std.proofs.Common.{◌≡◌, ◌<◌, ◌≤◌, ℕ, ◌+◌, List, [], ◌∷◌, ◌++◌, length, take, Bool, true, false, Option, ap}
use Rattle.std.proofs.Common.{sym, ◌∙◌, arith, below_more, length-append, take_all}
use Rattle.std.proofs.lemmas.List.{take-append-le}
use Rattle.acvp_http.specs.Asks.{ends_empty}
use Rattle.acvp_http.specs.Source.{InputStream, Gives}
use Rattle.acvp_http.specs.declared.receiving.ReceiveFault.{ReceiveFault}
use Rattle.acvp_http.specs.Private.Receiving.{StopsReceiving, TakesFew, TakesOfHead, TakesByte, IsHeadTaken}
use Rattle.acvp_http.proofs.KnownLemmas.{consumes_consumes}

-- what was taken of a head before the stop, and then a byte at most
pub head_stops : (a b c : InputStream) (text : List ℕ) (n : ℕ) (fault : ReceiveFault) (limit : ℕ) → Gives a b text
    → length text ≡ n → n < 16384
    → ((k : ℕ) → k < n + 1 → ends_empty (take k text) ≡ false) → StopsReceiving fault c limit × TakesFew 1 b c
    → StopsReceiving fault c limit × TakesOfHead a c
head_stops a b c text n fault limit taken long low first (stops, (more, took, few)) = (
  stops,
  (
    text ++ more,
    consumes_consumes a.held b.held c.held text more taken took,
    record {
      few = omega (arith, length-append text more);
      first = λ k below.
          let within : k ≤ length text = omega (arith, length-append text more) in
          ap ends_empty (take-append-le k text more within) ∙ first k (omega arith);
    },
  ),
)

-- what was taken of a body before the stop, and then as many bytes at most as were left to take
pub body_stops : (a b c : InputStream) (part : List ℕ) (left wanted : ℕ) (fault : ReceiveFault) (limit : ℕ)
    → Gives a b part → length part + left ≡ wanted
    → StopsReceiving fault c limit × TakesFew left b c → StopsReceiving fault c limit × TakesFew wanted a c
body_stops a b c part left wanted fault limit taken all (stops, (more, took, few)) = (
  stops,
  (
    part ++ more,
    consumes_consumes a.held b.held c.held part more taken took,
    omega (arith, length-append part more),
  ),
)

pub byte_taken : (more : Bool) (old new : InputStream) (before after : List ℕ) → more ≡ true
    → TakesByte more old new before after
    → (byte : ℕ) × (after ≡ before ++ byte ∷ []) × Gives old new (byte ∷ [])
byte_taken true old new before after is takes = takes
byte_taken false old new before after is takes = absurd (cc)

module _ (before after : List ℕ) (byte n : ℕ) (is : after ≡ before ++ byte ∷ []) (long : length before ≡ n)
    (first : (k : ℕ) → k < n + 1 → ends_empty (take k before) ≡ false) where
  pub one_longer : length after ≡ n + 1
  one_longer = let size : length after ≡ length (before ++ byte ∷ []) = ap length is in
      omega (arith, size, length-append before (byte ∷ []))

  none_before : (k : ℕ) → k < n + 1 → ends_empty (take k after) ≡ false
  none_before k low = ap (λ l. ends_empty (take k l)) is
      ∙ ap ends_empty (take-append-le k before (byte ∷ []) (omega arith)) ∙ first k low

  -- and none with that byte
  pub none_yet : ends_empty after ≡ false → (k : ℕ) → k < n + 1 + 1 → ends_empty (take k after) ≡ false
  none_yet none k low =
      let all : ends_empty (take (n + 1) after) ≡ false =
      ap ends_empty (take_all (n + 1) after (omega (arith, one_longer))) ∙ none in
      below_more (λ k. ends_empty (take k after) ≡ false) (n + 1) none_before all k low

  -- or the block ends with it
  pub head_ended : (left : Option (List ℕ)) → n < 16384 → ends_empty after ≡ true → IsHeadTaken left after
  head_ended left low ends = record {
    few = omega (arith, one_longer);
    first = λ k below. none_before k (omega (arith, one_longer));
    whole = λ none. absurd (let both_ways : true ≡ false = sym ends ∙ none in cc);
  }
