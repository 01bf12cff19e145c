-- Lemmas on the members of a checkpoint, of which the last three are kept, and on checkpoints.
use Rattle.std.proofs.Common.{◌≡◌, ℕ, zero, suc, ◌+◌, ◌-◌, ◌<◌, ◌≤◌, List, [], ◌∷◌, ◌++◌, length, map, string_bytes}
use Rattle.std.proofs.Common.{String, refl, append_assoc, ap, sym, ◌∙◌, arith, length-append}
use Rattle.std.specs.Fn.{iterate}
use Rattle.std.specs.Global.{Global}
use Rattle.std.specs.List.{concat}
use Rattle.std.proofs.Math.Seq.{drop-append_seam}
use Rattle.std.proofs.lemmas.List.{map-append, append-nil, get_or-append-add}
use Rattle.hex.specs.Hex.{encode_lower}
use Rattle.acvp_answers.specs.MonteCarlo.{next_of, extended, last_of, next_checkpoint, checkpoints}
use Rattle.acvp_answers.specs.Private.Ending.{EndsIn}

pub iterate-suc : {A : Type 0} (h : A → A) (n : ℕ) (x : A) → iterate h (suc n) x ≡ h (iterate h n x)
iterate-suc h zero x = refl
iterate-suc h (suc n) x = iterate-suc h n (h x)

-- the hash of the last three members, joined
pub next_of_ends : (hash : List ℕ → List ℕ) (members : List (List ℕ)) (a b c : List ℕ) → EndsIn members a b c
    → next_of hash members ≡ hash (a ++ b ++ c)
next_of_ends hash members a b c ends =
    let front = ends.0 in
    let place : length (front ++ a ∷ b ∷ c ∷ []) - 3 ≡ length front =
    omega (arith, length-append front (a ∷ b ∷ c ∷ [])) in
    let joined : concat (a ∷ b ∷ c ∷ []) ≡ a ++ b ++ c =
    ap (λ end. a ++ (b ++ end)) (append-nil c) ∙ sym (append_assoc a b c) in
    rw (ends.1, place, drop-append_seam front (a ∷ b ∷ c ∷ [])) (ap (λ bytes. hash bytes) joined)

-- one member more
pub ends_more : (hash : List ℕ → List ℕ) (members : List (List ℕ)) (a b c : List ℕ) → EndsIn members a b c
    → EndsIn (extended hash members) b c (hash (a ++ b ++ c))
ends_more hash members a b c ends =
    let next = next_of_ends hash members a b c ends in
    let whole : extended hash members ≡ (ends.0 ++ a ∷ []) ++ b ∷ c ∷ hash (a ++ b ++ c) ∷ [] =
    ap (λ x. members ++ x ∷ []) next ∙ ap (λ ms. ms ++ hash (a ++ b ++ c) ∷ []) ends.1
    ∙ append_assoc ends.0 (a ∷ b ∷ c ∷ []) (hash (a ++ b ++ c) ∷ [])
    ∙ sym (append_assoc ends.0 (a ∷ []) (b ∷ c ∷ hash (a ++ b ++ c) ∷ [])) in
    (ends.0 ++ a ∷ [], whole)

-- the last one
pub last_of_ends : (members : List (List ℕ)) (a b c : List ℕ) → EndsIn members a b c → c ≡ last_of members
last_of_ends members a b c ends =
    let front = ends.0 in
    let place : length (front ++ a ∷ b ∷ c ∷ []) - 1 ≡ length front + 2 =
    omega (arith, length-append front (a ∷ b ∷ c ∷ [])) in
    rw (ends.1, place) (sym (get_or-append-add front (a ∷ b ∷ c ∷ []) 2 []))

-- the checkpoints written, and one more
pub written_more : (hash : List ℕ → List ℕ) (seed : List ℕ) (count i : ℕ) (texts : List (String Global))
    (text : String Global) (checkpoint : List ℕ) (all : List (List ℕ)) → i < count →
    map string_bytes texts ++ map encode_lower (checkpoints hash seed (count - i)) ≡ all
    → checkpoint ≡ next_checkpoint hash seed
    → string_bytes text ≡ encode_lower checkpoint →
    map string_bytes (texts ++ text ∷ []) ++ map encode_lower (checkpoints hash checkpoint (count - (i + 1))) ≡ all
unfolding checkpoints
written_more hash seed count i texts text checkpoint all more so is written =
    let left : count - i ≡ suc (count - (i + 1)) = omega arith in
    let so' : map string_bytes texts ++ map encode_lower (checkpoints hash seed (suc (count - (i + 1)))) ≡ all =
    rw left at so in
    let text_is : string_bytes text ≡ encode_lower (next_checkpoint hash seed) =
    written ∙ ap (λ bytes. encode_lower bytes) is in
    rw (map-append string_bytes texts (text ∷ []), is, text_is)
    (append_assoc (map string_bytes texts) (encode_lower (next_checkpoint hash seed)
    ∷ []) (map encode_lower (checkpoints hash (next_checkpoint hash seed) (count - (i + 1)))) ∙ so')

-- all checkpoints are written
pub written_all : (hash : List ℕ → List ℕ) (seed : List ℕ) (count i : ℕ) (written all : List (List ℕ)) → count ≤ i →
    written ++ map encode_lower (checkpoints hash seed (count - i)) ≡ all → written ≡ all
unfolding checkpoints
written_all hash seed count i written all end so =
    let left : count - i ≡ zero = omega arith in
    let so' : written ++ map encode_lower (checkpoints hash seed zero) ≡ all = rw left at so in
    sym (append-nil written) ∙ so'
