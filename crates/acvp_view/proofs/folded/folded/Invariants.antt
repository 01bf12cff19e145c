use Rattle.std.specs.Prelude.{◌≡◌, ◌≤◌, string_bytes}
use Rattle.acvp_view.specs.Folded.{folded_from}
use Rattle.acvp_view.proofs.FoldLemmas.{columns}
use Rattle.acvp_view.proofs.folded.folded.Given as goal

abbrev pub invariant-loop-c : goal.invariant-loop-c
invariant-loop-c l =
    (string_bytes l.shown ≡ folded_from 0 l.yielded) × (l.column ≡ columns 0 l.yielded) × (l.column ≤ 80)
