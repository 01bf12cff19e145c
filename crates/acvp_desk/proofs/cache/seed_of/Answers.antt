use Rattle.std.proofs.Common.{◌≡◌, ℕ, ◌<◌, List, [], length, Bor, Option, Some, None, IsSome, refl, ◌∙◌}
use Rattle.std.specs.List.{slice_get}
use Rattle.std.specs.Option.{option_copied}
use Rattle.std.proofs.lemmas.Option.{slice_get-get_or}
use Rattle.acvp_desk.proofs.cache.seed_of.Goals as goal

is_there : (o : Option (Bor (List ℕ))) (seeds : List (List ℕ)) (epoch : ℕ) → option_copied o ≡ slice_get seeds epoch
    → epoch < length seeds → IsSome o
is_there None seeds epoch e h = let f = e ∙ slice_get-get_or seeds epoch [] h in cc
is_there (Some s) seeds epoch e h = refl

pub unwrap-requires : goal.unwrap-requires
unwrap-requires c = is_there c.get.result c.args.seeds.now c.args.epoch c.get.ensures c.requires
