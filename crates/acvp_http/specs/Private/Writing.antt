-- What writes do.
use Rattle.std.specs.Prelude.{◌≡◌, ℕ, List, true, false, Result, MatchResult}
use Rattle.acvp_http.specs.Source.{OutputStream, Gets, GetsFront}

-- the text is written, or the writer has failed and some front of it is
abbrev pub WritesText : {X E : Type 0} → OutputStream → OutputStream → List ℕ → Result X E → Type 0
WritesText old new text result = MatchResult result
    (λ _. (new.failed ≡ false) × Gets old new text)
    (λ _. (new.failed ≡ true) × GetsFront old new text)
