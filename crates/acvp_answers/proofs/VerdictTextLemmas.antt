-- Lemmas on the letters of verdicts.
use Rattle.std.proofs.Common.{◌≡◌, ◌≢◌, ℕ, ◌<◌, List, [], ◌∷◌, length, get_or, refl, ap, sym, ◌∙◌, arith}
use Rattle.std.proofs.lemmas.List.{get_or-map, length-map}
use Rattle.acvp_answers.specs.declared.verdict.Verdict.{Verdict}
use Rattle.acvp_answers.specs.declared.verdict.Verdict.TheVariants.{Passed, Missing, Fail}
use Rattle.acvp_answers.specs.VerdictText.{letter_of, verdicts_text}

same_letter : (a b : Verdict) → letter_of a ≡ letter_of b → a ≡ b
same_letter Passed Passed e = refl
same_letter Passed Missing e = absurd (omega (arith, e))
same_letter Passed Fail e = absurd (omega (arith, e))
same_letter Missing Passed e = absurd (omega (arith, e))
same_letter Missing Missing e = refl
same_letter Missing Fail e = absurd (omega (arith, e))
same_letter Fail Passed e = absurd (omega (arith, e))
same_letter Fail Missing e = absurd (omega (arith, e))
same_letter Fail Fail e = refl

-- a text is that of one list of verdicts
pub same_verdicts : (a b : List Verdict) → verdicts_text a ≡ verdicts_text b → a ≡ b
same_verdicts [] [] e = refl
same_verdicts [] (v ∷ b) e = absurd (omega (arith, ap length e))
same_verdicts (v ∷ a) [] e = absurd (omega (arith, ap length e))
same_verdicts (v ∷ a) (w ∷ b) e =
    let letters : letter_of v ≡ letter_of w = cc in
    let rest : verdicts_text a ≡ verdicts_text b = cc in
    let first = same_letter v w letters in
    let others = same_verdicts a b rest in
    cc

-- each letter of a text is that of a verdict
pub no_text : (text : List ℕ) (i : ℕ) → i < length text → ((v : Verdict) → letter_of v ≢ get_or text i 0) →
    (verdicts : List Verdict) → text ≢ verdicts_text verdicts
no_text text i within none verdicts e =
    let count : length text ≡ length verdicts = ap (λ (t : List ℕ). length t) e ∙ length-map verdicts letter_of in
    let inside : i < length verdicts = omega arith in
    let at = get_or-map letter_of verdicts i Passed 0 inside in
    none (get_or verdicts i Passed) (sym at ∙ ap (λ (t : List ℕ). get_or t i 0) (sym e))
