use Rattle.std.proofs.Common.{ℕ, List}
use Rattle.acvp_commands.specs.Files.{IsUnread}
use Rattle.acvp_keys.specs.KeysFile.{IsLine}
use Rattle.acvp_commands.specs.declared.fault.Fault.TheVariants as fault
use Rattle.acvp_commands.proofs.FilesLemmas.{given_or}
use Rattle.acvp_commands.proofs.files.secret_in.Goals as goal

pub returns-in-Ok : goal.returns-in-Ok
returns-in-Ok g c =
    rw c.ok_or.ensures.value
    (given_or (g.F.TextFiles.holds c.args.files.now c.args.path.now)
    (IsUnread (g.F.TextFiles.fails c.args.files.now) c.args.path.now fault.Secret)
    c.in-Ok.text.items c.bytes_of.result fault.Secret IsLine (λ text. (bytes : List ℕ) → IsLine text bytes → ⊥)
    c.in-Ok.ensures (rw c.deref.ensures.value at c.bytes_of.ensures))
