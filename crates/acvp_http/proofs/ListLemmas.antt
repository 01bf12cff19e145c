-- Lemmas on lists.
use Rattle.std.proofs.Common.{◌≡◌, List, ◌++◌, ap, ◌∙◌, append_assoc}

-- what two writes at the end leave
pub append_twice : {X : Type 0} (a b c xs ys : List X) → b ≡ a ++ xs → c ≡ b ++ ys → c ≡ a ++ (xs ++ ys)
append_twice {X} a b c xs ys first second = second ∙ (ap (λ (w : List X). w ++ ys) first ∙ append_assoc a xs ys)
