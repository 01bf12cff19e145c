-- Lemmas on the known bytes of readers and writers.
use Rattle.std.proofs.Common.{ℕ, List, [], ◌++◌, Option, Some, None, sym, ◌∙◌, ap, refl, append_assoc}
use Rattle.std.specs.Io.KnownBytes.{Consumes, Keeps}

pub consumes_consumes : (a b c : Option (List ℕ)) (bs cs : List ℕ) → Consumes a b bs → Consumes b c cs
    → Consumes a c (bs ++ cs)
consumes_consumes None b c bs cs first second = tt
consumes_consumes (Some xs) None c bs cs first second = absurd first
consumes_consumes (Some xs) (Some ys) None bs cs first second = absurd second
consumes_consumes (Some xs) (Some ys) (Some zs) bs cs first second = first ∙ ap (λ rest. bs ++ rest) second
    ∙ sym (append_assoc bs cs zs)

pub consumes_nothing : (a : Option (List ℕ)) → Consumes a a []
consumes_nothing None = tt
consumes_nothing (Some xs) = refl

-- kept bytes: none were consumed
pub consumes_kept : (a b : Option (List ℕ)) → Keeps a b → Consumes a b []
consumes_kept None b kept = tt
consumes_kept (Some xs) None kept = absurd kept
consumes_kept (Some xs) (Some ys) kept = sym kept

-- and then nothing was consumed
pub consumes_no_more : (a b c : Option (List ℕ)) (bs : List ℕ) → Consumes a b bs → Consumes b c [] → Consumes a c bs
consumes_no_more None b c bs first second = tt
consumes_no_more (Some xs) None c bs first second = absurd first
consumes_no_more (Some xs) (Some ys) None bs first second = absurd second
consumes_no_more (Some xs) (Some ys) (Some zs) bs first second = first ∙ ap (λ rest. bs ++ rest) second
