use Rattle.std.proofs.Common.{refl}
use Rattle.acvp_commands.proofs.serving.look.Goals as goal

pub returns-in-Unavailable-clause-looked : goal.returns-in-Unavailable-clause-looked
returns-in-Unavailable-clause-looked g c =
    let (unavailable, handled) = c.handle_order.ensures.turn in
    (record { unavailable = unavailable; reply = c.handle_order.result }, handled, (refl, c.in-Unavailable.is))

pub returns-in_default : goal.returns-in_default
returns-in_default g c =
    let (unavailable, handled) = c.handle_order.ensures.turn in record {
      keys = c.handle_order.ensures.keys;
      looked = (
        record { unavailable = unavailable; reply = c.handle_order.result },
        handled,
        c.in_default.not-Unavailable,
      );
    }
