-- The dynamic truncation of a code, as the code reads its bytes.
use Rattle.std.proofs.Common.{◌≡◌, ℕ, ◌+◌, ◌<◌, List, [], ◌∷◌, take, drop, get_or, refl, ap, ◌∙◌, arith}
use Rattle.std.specs.Int.{w32, from_be_bytes}
use Rattle.std.proofs.lemmas.List.{get_or-take, get_or-drop}

-- byte i of the four from a place on
four-byte : (bytes : List ℕ) (place i j : ℕ) → i < 4 → place + i ≡ j
    → get_or (take 4 (drop place bytes)) i 0 ≡ get_or bytes j 0
four-byte bytes place i j h e =
    get_or-take 4 (drop place bytes) i 0 h ∙ get_or-drop place bytes i 0 ∙ ap (λ (k : ℕ). get_or bytes k 0) e

-- the number that four bytes from a place on make, high byte first
pub from_be_bytes-take-drop : (bytes : List ℕ) (place : ℕ) →
    from_be_bytes w32 (take 4 (drop place bytes))
    ≡ from_be_bytes w32 (get_or bytes place 0 ∷ get_or bytes (place + 1) 0 ∷ get_or bytes (place + 2) 0
    ∷ get_or bytes (place + 3) 0 ∷ [])
from_be_bytes-take-drop bytes place =
    let first = four-byte bytes place 0 place (omega arith) (omega arith) in
    let second = four-byte bytes place 1 (place + 1) (omega arith) (omega arith) in
    let third = four-byte bytes place 2 (place + 2) (omega arith) (omega arith) in
    let fourth = four-byte bytes place 3 (place + 3) (omega arith) (omega arith) in
    rw (first, second, third, fourth) refl
