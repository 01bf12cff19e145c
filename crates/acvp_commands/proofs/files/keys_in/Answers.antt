use Rattle.std.proofs.Common.{inr, refl}
use Rattle.acvp_commands.proofs.files.keys_in.Goals as goal

pub returns-in-Ok : goal.returns-in-Ok
returns-in-Ok g c =
    inr (c.in-Ok.text.items, c.in-Ok.ensures, refl, rw c.deref.ensures.value at c.in-None.ensures)
