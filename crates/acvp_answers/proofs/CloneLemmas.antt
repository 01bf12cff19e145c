-- What clones of answers show.
use Rattle.std.proofs.Common.{◌≡◌, ℕ, List, [], ◌∷◌, map, string_bytes, refl, ap, ◌∙◌}
use Rattle.std.specs.Prelude.{String}
use Rattle.std.specs.List.{AllZip}
use Rattle.std.specs.Global.{Global}
use Rattle.acvp_answers.specs.Answer.{Texts, shown, shown_texts}

-- lists whose members show the same, one by one, show the same
all_shown : {X Y : Type 0} (f : X → Y) (xs ys : List X) → AllZip (λ x y. f y ≡ f x) xs ys → map f ys ≡ map f xs
all_shown f [] [] all = refl
all_shown f [] (y ∷ ys) all = absurd all
all_shown f (x ∷ xs) [] all = absurd all
all_shown f (x ∷ xs) (y ∷ ys) all = ap (λ z. z ∷ map f ys) all.0 ∙ ap (λ zs. f x ∷ zs) (all_shown f xs ys all.1)

-- each number is kept, and each text
pub shown-clone : (L : Texts → Texts → Type 0) (es fs : List (ℕ × Texts))
    → AllZip (λ e f. (f.0 ≡ e.0)
    × (AllZip (λ (s t : String Global). string_bytes t ≡ string_bytes s) e.1.items f.1.items × L e.1 f.1)) es fs
    → shown fs ≡ shown es
shown-clone L [] [] all = refl
shown-clone L [] (f ∷ fs) all = absurd all
shown-clone L (e ∷ es) [] all = absurd all
shown-clone L (e ∷ es) (f ∷ fs) all =
    let texts : shown_texts f.1 ≡ shown_texts e.1 = all_shown string_bytes e.1.items f.1.items all.0.1.0 in
    ap (λ n. (n, shown_texts f.1) ∷ shown fs) all.0.0 ∙ ap (λ ts. (e.0, ts) ∷ shown fs) texts
    ∙ ap (λ rest. (e.0, shown_texts e.1) ∷ rest) (shown-clone L es fs all.1)
