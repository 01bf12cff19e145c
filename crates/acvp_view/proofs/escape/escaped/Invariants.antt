use Rattle.std.specs.Prelude.{◌≡◌, string_bytes}
use Rattle.std.specs.List.{flat_map}
use Rattle.acvp_view.specs.Escaped.{shown_char}
use Rattle.acvp_view.proofs.escape.escaped.Given as goal

abbrev pub invariant-loop-c : goal.invariant-loop-c
invariant-loop-c l = string_bytes l.shown ≡ flat_map shown_char l.yielded
