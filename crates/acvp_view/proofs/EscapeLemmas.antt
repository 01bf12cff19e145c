-- Lemmas on texts that are handed on as they are shown.
use Rattle.std.proofs.Common.{ℕ, List, [], ◌∷◌, ◌++◌, refl, sym, map, subst}
use Rattle.std.proofs.lemmas.List.{map-append}
use Rattle.acvp_view.proofs.LineLemmas.{takes_both}
use Rattle.acvp_view.specs.Escaped.{HandsOnShown, TakesShown, shown_in}
use Rattle.acvp_view.specs.Lines.{TakesAll}
use Rattle.acvp_view.specs.declared.form.Form.{Form}

module _ {L : Type 0} (form : Form) (takes : L → List ℕ → L → Type 0) where
  -- one text
  pub shown_one : (text : List ℕ) (before after : L) → takes before (shown_in form text) after
      → HandsOnShown form takes before after
  shown_one text before after taken = record { texts = text ∷ []; taken = (after, taken, refl) }

  -- these texts, and then others
  pub takes_shown_both : (front behind : List (List ℕ)) (before between after : L)
      → TakesShown form takes front before between → TakesShown form takes behind between after
      → TakesShown form takes (front ++ behind) before after
  takes_shown_both front behind before between after first second =
      subst (λ lines. TakesAll takes lines before after) (sym (map-append (shown_in form) front behind))
      (takes_both takes (map (shown_in form) front) (map (shown_in form) behind) before between after first second)

  -- some texts, and then others
  pub shown_both : (before between after : L) → HandsOnShown form takes before between
      → HandsOnShown form takes between after → HandsOnShown form takes before after
  shown_both before between after first second = record {
    texts = first.texts ++ second.texts;
    taken = takes_shown_both first.texts second.texts before between after first.taken second.taken;
  }
