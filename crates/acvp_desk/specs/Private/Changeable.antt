-- Where a change can be made at all.
use Rattle.std.specs.Prelude.{IfSome}
use Rattle.acvp_desk.specs.declared.found.Found.{Found}
use Rattle.acvp_desk.specs.declared.found.Found.TheVariants.{Login, Caller}

-- what is said wherever a change can be made: to a login whose account was found, and to a caller that was let through
abbrev pub IfChangeable : Found → Type 0 → Type 0
IfChangeable (Login login account) P = IfSome account (λ _. P)
IfChangeable (Caller it) P = P
