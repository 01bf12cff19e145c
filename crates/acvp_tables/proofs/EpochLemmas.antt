-- Lemmas on the greatest epoch.
use Rattle.std.proofs.Common.{◌≡◌, ℕ, Option, Some, None, refl, arith}
use Rattle.std.proofs.lemmas.Bool.Decides.{nat_tests}
use Rattle.acvp_tables.specs.Content.{greater}

-- the greatest so far and the greatest of the rest
abbrev pub merged : Option ℕ → Option ℕ → Option ℕ
merged so_far None = so_far
merged so_far (Some m) = Some (greater m so_far)

pub merged_more : (so_far rest : Option ℕ) (e : ℕ)
    → merged so_far (Some (greater e rest)) ≡ merged (Some (greater e so_far)) rest
merged_more None None e = refl
merged_more None (Some m) e = grind (arith, nat_tests)
merged_more (Some n) None e = refl
merged_more (Some n) (Some m) e = grind (arith, nat_tests)
