-- Lemmas on lines that are added to a text.
use Rattle.std.proofs.Common.{◌≡◌, ◌++◌, ◌∷◌, ℕ, List, [], Some, codes, length, arith, ap, sym, refl, ◌∙◌, append_assoc}
use Rattle.std.proofs.Common.{append-nil}
use Rattle.hex.specs.Hex.{IsBytes, encode_lower, lower_digits}
use Rattle.hex.proofs.HexLemmas.{decode_of-encode_lower, length-encode_with}
use Rattle.acvp_token.specs.Keys.{IsKeyRing, Ring}
use Rattle.acvp_gen.specs.Seeds.{AreSeeds}
use Rattle.acvp_keys.specs.KeysFile.{IsLine, IsTokenLine, IsSeedLine, IsLongText}
use Rattle.acvp_keys.specs.Private.Adding.{HasLineMore, HasLinesMore}

-- the digits of 32 bytes and a line feed
pub written : (text digits bytes new : List ℕ) → digits ≡ encode_lower bytes → length bytes ≡ 32 → IsBytes bytes
    → new ≡ (text ++ digits) ++ codes "\n" → HasLineMore IsLine text bytes new
written text digits bytes new are size fits is =
    let len = length-encode_with lower_digits bytes in (
      digits ++ codes "\n",
      (digits, rw are (omega (arith, len, size)), rw are (decode_of-encode_lower bytes fits), refl),
      is ∙ append_assoc text digits (codes "\n"),
    )

-- behind the word of a ring's entries
pub written_key : (text key new : List ℕ) → HasLineMore IsLine (text ++ codes "token ") key new
    → HasLineMore IsTokenLine text (Some key) new
written_key text key new h =
    (codes "token " ++ h.0, (h.0, h.1, refl), h.2 ∙ append_assoc text (codes "token ") h.0)

-- behind that of seeds
pub written_seed : (text seed new : List ℕ) → HasLineMore IsLine (text ++ codes "seed ") seed new
    → HasLineMore IsSeedLine text seed new
written_seed text seed new h =
    (codes "seed " ++ h.0, (h.0, h.1, refl), h.2 ∙ append_assoc text (codes "seed ") h.0)

-- no line, and one before others
pub no_lines : {X : Type 0} (IsOne : List ℕ → X → Type 0) (text : List ℕ) → HasLinesMore IsOne text [] text
no_lines IsOne text = ([], refl, sym (append-nil text))

pub line_and_lines : {X : Type 0} (IsOne : List ℕ → X → Type 0) (old mid new : List ℕ) (x : X) (xs : List X)
    → HasLineMore IsOne old x mid → HasLinesMore IsOne mid xs new → HasLinesMore IsOne old (x ∷ xs) new
line_and_lines IsOne old mid new x xs h k = (
  h.0 ++ k.0,
  (h.0, k.0, refl, h.1, k.1),
  k.2 ∙ (ap (λ (l : List ℕ). l ++ k.0) h.2 ∙ append_assoc old h.0 k.0),
)

-- the lines of a ring and then those of seeds are the text of a keys file
pub long_text : (mid new : List ℕ) (ring : Ring) (seeds : List (List ℕ)) → HasLinesMore IsTokenLine [] ring mid
    → HasLinesMore IsSeedLine mid seeds new → IsKeyRing ring → AreSeeds seeds → IsLongText new ring seeds
long_text mid new ring seeds h k is are =
    (h.0, k.0, k.2 ∙ ap (λ (l : List ℕ). l ++ k.0) h.2, h.1, k.1, is, are)
