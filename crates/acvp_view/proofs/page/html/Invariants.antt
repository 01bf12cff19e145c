use Rattle.std.specs.Prelude.{◌≡◌, string_bytes}
use Rattle.std.specs.List.{flat_map}
use Rattle.acvp_view.specs.Page.{html_char}
use Rattle.acvp_view.proofs.page.html.Given as goal

abbrev pub invariant-loop-c : goal.invariant-loop-c
invariant-loop-c l = string_bytes l.shown ≡ flat_map html_char l.yielded
