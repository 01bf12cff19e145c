-- Lemmas on URLs.
use Rattle.std.proofs.Common.{◌≡◌, ◌≢◌, ◌<◌, ◌^◌, ℕ, true, List, ◌++◌, length, take, drop, take-append-drop, decimal}
use Rattle.std.proofs.Common.{Option, Some, None, MatchOption, sym, ◌∙◌, ap}
use Rattle.std.proofs.lemmas.List.{append_cancel_left}
use Rattle.std.specs.Str.{bytes_eq}
use Rattle.std.proofs.lemmas.Slice.Eq.{bytes_eq-Decides}
use Rattle.acvp_registry.specs.declared.kind.Kind.{Kind}
use Rattle.acvp_registry.specs.Url.{url_front, IsUrl}

-- the number behind the place
pub url_with : (kind : Kind) (place rest text : List ℕ) (r : Option ℕ) → url_front kind ≡ Some place
    → text ≡ place ++ rest →
    MatchOption r ((n : ℕ) → n < 10 ^ 19 → rest ≢ decimal n) (λ n. (n < 10 ^ 19) × (rest ≡ decimal n)) →
    MatchOption r ((number : ℕ) → IsUrl kind number text → ⊥) (λ number. IsUrl kind number text)
url_with kind place rest text None at is none = λ number (place', at', small, is').
    let same : place ≡ place' = (let both : Some place ≡ Some place' = sym at ∙ at' in cc) in
    none number small (append_cancel_left place rest (decimal number) (sym is ∙ is'
    ∙ ap (λ front. front ++ decimal number) (sym same)))
url_with kind place rest text (Some n) at is some = (place, at, some.0, is ∙ ap (λ tail. place ++ tail) some.1)

-- no place
pub url_without : (kind : Kind) (text : List ℕ) → url_front kind ≡ None → (number : ℕ) → IsUrl kind number text → ⊥
url_without kind text none number (place, at, small, is) =
    let both : Some place ≡ None = sym at ∙ none in cc

-- another front
pub url_other : (kind : Kind) (place text : List ℕ) → url_front kind ≡ Some place
    → ((rest : List ℕ) → text ≢ place ++ rest) → (number : ℕ) → IsUrl kind number text → ⊥
url_other kind place text at other number (place', at', small, is) =
    let same : place ≡ place' = (let both : Some place ≡ Some place' = sym at ∙ at' in cc) in
    other (decimal number) (rw same is)

-- a text that begins with the place
pub front_is : (text place rest : List ℕ) → bytes_eq (take (length place) text) place ≡ true
    → rest ≡ drop (length place) text → text ≡ place ++ rest
front_is text place rest begins is =
    let front : take (length place) text ≡ place = (bytes_eq-Decides (take (length place) text) place).0 begins in
    sym (take-append-drop (length place) text) ∙ ap (λ start. start ++ drop (length place) text) front
    ∙ ap (λ tail. place ++ tail) (sym is)
