use Rattle.std.proofs.Common.{refl}
use Rattle.acvp_commands.proofs.life.commands_are_runs.Goals as goal

pub returns : goal.returns
returns g c =
    λ keys moment it outcome old new can (reply, done, sound, told).
    let (unavailable, handled) = c.orders_are_turns.ensures keys moment it reply old new can done in
    (reply, unavailable, told, (new, handled, refl))
