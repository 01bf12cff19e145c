use Rattle.std.proofs.Common.{arith}
use Rattle.acvp_commands.proofs.SecretLemmas.{secret_text}
use Rattle.acvp_commands.proofs.orders.digits_of.Goals as goal

pub returns : goal.returns
returns c =
    rw c.in_ok-digits.ensures
    (secret_text c.args.secret.now c.requires (λ i. let fits = c.type_inv.secret i in omega arith))
