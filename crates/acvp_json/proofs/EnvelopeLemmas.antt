-- Lemmas on bodies.
use Rattle.std.proofs.Common.{◌≡◌, List, [], ◌∷◌, length, false, None, refl, slice_index_or, arith}
use Rattle.serde_json.specs.View.{view, items_view}
use Rattle.serde_json.specs.declared.value.Value.{Value}
use Rattle.acvp_json.specs.Envelope.{is_envelope, envelope_items}

pub envelope_items-other : (vs : List Value) → (length vs ≡ 2 → ⊥) → envelope_items (items_view vs) ≡ None
envelope_items-other [] other = refl
envelope_items-other (a ∷ []) other = refl
envelope_items-other (a ∷ b ∷ []) other = absurd (other refl)
envelope_items-other (a ∷ b ∷ c ∷ vs) other = refl

-- two items that are no envelope
pub envelope_items-not : (vs : List Value) (a b : Value) → length vs ≡ 2 → a ≡ slice_index_or vs 0 a
    → b ≡ slice_index_or vs 1 b → is_envelope (view a) (view b) ≡ false → envelope_items (items_view vs) ≡ None
envelope_items-not [] a b two first second refused = absurd (omega arith)
envelope_items-not (x ∷ []) a b two first second refused = absurd (omega arith)
envelope_items-not (x ∷ y ∷ []) a b two first second refused =
    let same : a ≡ x = first in
    let same' : b ≡ y = second in
    let other : is_envelope (view x) (view y) ≡ false = rw (same, same') at refused in
    rw other
envelope_items-not (x ∷ y ∷ z ∷ vs) a b two first second refused = absurd (omega arith)
