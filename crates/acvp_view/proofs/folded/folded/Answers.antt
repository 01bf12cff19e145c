use Rattle.std.proofs.Common.{◌≡◌, ℕ, List, [], ◌∷◌, ◌++◌, sym, subst, ap, ◌∙◌, map-id}
use Rattle.std.proofs.lemmas.Iterator.{YieldsList-from_chars}
use Rattle.std.proofs.lemmas.Iterator.Consumers.{YieldsList-end}
use Rattle.std.specs.Prelude.{string_bytes, true}
use Rattle.acvp_view.specs.Folded.{column_behind, fits, folded, folded_from, placed}
use Rattle.acvp_view.proofs.FoldLemmas.{columns, columns_more, folded_fits, folded_more}
use Rattle.acvp_view.proofs.folded.folded.Goals as goal

grown : (column : ℕ) (cs : List ℕ) (c : ℕ) (shown : List ℕ) → shown ≡ folded_from 0 cs → column ≡ columns 0 cs
    → shown ++ placed column c ≡ folded_from 0 (cs ++ (c ∷ []))
grown column cs c shown so_far at = rw (so_far, at) (sym (folded_more 0 cs c))

pub loop-c-preserved : goal.loop-c-preserved
loop-c-preserved c =
    let char = c.in-Some.c in (
      c.in_ok-push_placed.ensures ∙ grown c.loop-c.column c.loop-c.yielded char (string_bytes c.loop-c.shown)
          c.loop-c.invariant.0 c.loop-c.invariant.1,
      c.column_behind-column.ensures.value ∙ ap (λ column. column_behind column char) c.loop-c.invariant.1
          ∙ sym (columns_more 0 c.loop-c.yielded char),
      c.column_behind-column.ensures.few,
    )

pub returns-clause-value : goal.returns-clause-value
unfolding folded
returns-clause-value c =
    let end = YieldsList-end (YieldsList-from_chars c.args.text.now c.utf8.text cc) c.loop-c.yielded _
    c.loop-c.yielded_by _ _ c.in-None.is c.next.ensures.steps in
    c.loop-c.invariant.0 ∙ ap (folded_from 0) (sym (map-id c.loop-c.yielded) ∙ end.0)

pub returns-clause-narrow : goal.returns-clause-narrow
returns-clause-narrow c =
    subst (λ text. fits text ≡ true) (sym (returns-clause-value c)) (folded_fits c.args.text.now)
