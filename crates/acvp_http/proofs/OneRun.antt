-- A run goes one way, and so do the turns of some accounts alone and what an account is told.
use Rattle.std.proofs.Common.{◌≡◌, ℕ, List, [], ◌∷◌, Bool, true, false, Option, None, refl, sym, ap, subst, ◌∙◌}
use Rattle.std.specs.Prelude.{MatchBool, nat_lt}
use Rattle.acvp_tables.specs.Content.{Content}
use Rattle.acvp_desk.specs.Answer.{end_of_moments}
use Rattle.acvp_desk.specs.declared.keys.Keys.{Keys}
use Rattle.acvp_http.specs.Asks.{Asks, ParsedRequest}
use Rattle.acvp_http.specs.Event.{Event, request, order, EventAnswer, replied, ordered, Turn}
use Rattle.acvp_http.specs.Isolation.{is_theirs, is_told, whose, IsOf, Only, Told}
use Rattle.acvp_http.specs.Serve.{Runs, Takes}
use Rattle.acvp_http.proofs.AsksLemmas.{asks-unique}
use Rattle.acvp_http.proofs.OneLemmas.{event_one}

-- ---- a run

turn_one : (keys : Keys) (event : Event) (unavailable : Bool) (old new new' : Content) (a b : EventAnswer)
    → Takes keys (record { event = event; unavailable = unavailable }) old new a
    → Takes keys (record { event = event; unavailable = unavailable }) old new' b → (new ≡ new') × (a ≡ b)
turn_one keys event false old new new' a b x y = event_one keys event old new new' a b x y
turn_one keys (request m bytes) true old new new' (replied a) (replied b) (same, put_off) (same', put_off') =
    (same ∙ sym same', ap replied (put_off.1 ∙ sym put_off'.1))
turn_one keys (request m bytes) true old new new' (replied a) (ordered b) x y = absurd y
turn_one keys (request m bytes) true old new new' (ordered a) b x y = absurd x
turn_one keys (order m o) true old new new' (replied a) b x y = absurd x
turn_one keys (order m o) true old new new' (ordered a) (replied b) x y = absurd y
turn_one keys (order m o) true old new new' (ordered a) (ordered b) (same, is) (same', is') =
    (same ∙ sym same', ap ordered (is ∙ sym is'))

pub run_one : (keys : Keys) (turns : List Turn) (old new new' : Content) (a b : List EventAnswer)
    → Runs keys turns old new a → Runs keys turns old new' b → (new ≡ new') × (a ≡ b)
run_one keys [] old new new' [] [] x y = (x ∙ sym y, refl)
run_one keys [] old new new' [] (b ∷ said) x y = absurd y
run_one keys [] old new new' (a ∷ others) b x y = absurd x
run_one keys (t ∷ ts) old new new' [] b x y = absurd x
run_one keys (t ∷ ts) old new new' (a ∷ others) [] x y = absurd y
run_one keys (t ∷ ts) old new new' (a ∷ others) (b ∷ said) (mid, takes, rest) (mid', takes', rest') =
    let first = turn_one keys t.event t.unavailable old mid mid' a b takes takes' in
    let later = run_one keys ts mid new new' others said rest
    (subst (λ (c : Content). Runs keys ts c new' said) (sym first.0) rest') in
    (later.0, ap (λ (head : EventAnswer). head ∷ others) first.1 ∙ ap (λ rest. b ∷ rest) later.1)

-- ---- whose an event is

of_one : (keys : Keys) (event : Event) (a b : Option ℕ) → IsOf keys event a → IsOf keys event b → a ≡ b
of_one keys (order m o) a b x y = x ∙ sym y
of_one keys (request m bytes) a b x y = go (nat_lt m end_of_moments) x y
  where
    go : (early : Bool) → MatchBool early ((parsed : ParsedRequest) × Asks bytes parsed × (a ≡ whose keys m parsed))
        (a ≡ None)
        → MatchBool early ((parsed : ParsedRequest) × Asks bytes parsed × (b ≡ whose keys m parsed)) (b ≡ None) → a ≡ b
    go true (p, asks, is) (q, asks', is') = is ∙ ap (whose keys m) (asks-unique bytes p q asks asks') ∙ sym is'
    go false is is' = is ∙ sym is'

-- ---- the turns of some accounts alone, and what an account is told

pub only_one : (keys : Keys) (these : ℕ → Bool) (turns a b : List Turn) → Only keys these turns a
    → Only keys these turns b → a ≡ b
only_one keys these [] a b x y = x ∙ sym y
only_one keys these (t ∷ ts) a b (who, of, x) (who', of', y) =
    go (is_theirs these t who) x
    (subst (λ (w : Option ℕ).
    MatchBool (is_theirs these t w) ((rest : List Turn) × (b ≡ t ∷ rest) × Only keys these ts rest)
    (Only keys these ts b))
    (sym (of_one keys t.event who who' of of')) y) (only_one keys these ts)
  where
    go : (theirs : Bool) → MatchBool theirs ((rest : List Turn) × (a ≡ t ∷ rest) × Only keys these ts rest)
        (Only keys these ts a)
        → MatchBool theirs ((rest : List Turn) × (b ≡ t ∷ rest) × Only keys these ts rest) (Only keys these ts b)
        → ((a b : List Turn) → Only keys these ts a → Only keys these ts b → a ≡ b) → a ≡ b
    go true (rest, is, only) (rest', is', only') later = is ∙ ap (λ more. t ∷ more) (later rest rest' only only')
        ∙ sym is'
    go false only only' later = later a b only only'

pub told_one : (keys : Keys) (u : ℕ) (turns : List Turn) (answers a b : List EventAnswer) → Told keys u turns answers a
    → Told keys u turns answers b → a ≡ b
told_one keys u [] [] a b x y = x ∙ sym y
told_one keys u [] (n ∷ ns) a b x y = absurd x
told_one keys u (t ∷ ts) [] a b x y = absurd x
told_one keys u (t ∷ ts) (n ∷ ns) a b (who, of, x) (who', of', y) =
    go (is_told u t who) x (subst
    (λ (w : Option ℕ). MatchBool (is_told u t w) ((rest : List EventAnswer) × (b ≡ n ∷ rest)
    × Told keys u ts ns rest) (Told keys u ts ns b))
    (sym (of_one keys t.event who who' of of')) y) (told_one keys u ts ns)
  where
    go : (mine : Bool) → MatchBool mine ((rest : List EventAnswer) × (a ≡ n ∷ rest) × Told keys u ts ns rest)
        (Told keys u ts ns a)
        → MatchBool mine ((rest : List EventAnswer) × (b ≡ n ∷ rest) × Told keys u ts ns rest) (Told keys u ts ns b)
        → ((a b : List EventAnswer) → Told keys u ts ns a → Told keys u ts ns b → a ≡ b) → a ≡ b
    go true (rest, is, told) (rest', is', told') later = is ∙ ap (λ more. n ∷ more) (later rest rest' told told')
        ∙ sym is'
    go false told told' later = later a b told told'
