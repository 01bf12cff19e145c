-- Lemmas on the fields of a head.
use Rattle.std.proofs.Common.{◌≡◌, ◌<◌, ℕ, ◌+◌, List, [], ◌∷◌, ◌++◌, length, map, drop, get_or, Bool, true, false}
use Rattle.std.proofs.Common.{if◌then◌else◌, cond, not, ◌||◌, ◌==◌, nat_le, codes, Some, None, Ok, refl, sym, ◌∙◌, ap}
use Rattle.std.proofs.Common.{◌≤◌, arith, append_assoc, length-append}
use Rattle.std.specs.Prelude.{All}
use Rattle.std.proofs.lemmas.List.Elements.{All-push, All-get_or}
use Rattle.std.proofs.lemmas.List.{drop_more, map-append, length-map}
use Rattle.std.specs.Str.{str_eq_ignore_ascii_case}
use Rattle.httparse.specs.Spans.{span_bytes, header_bytes, IsWithin, IsHeaderWithin}
use Rattle.httparse.specs.declared.spans.Span.{Span}
use Rattle.httparse.specs.declared.spans.HeaderSpan.{HeaderSpan}
use Rattle.acvp_desk.specs.Conditions.{judged}
use Rattle.acvp_policy.specs.declared.rule.Rule.{Rule}
use Rattle.acvp_policy.specs.declared.rule.Rule.TheVariants.{LengthMissing, BadLength, BodyTooLarge, HostMissing}
use Rattle.acvp_http.specs.Asks.{values_of, needs_length, is_nil, lengths_agree, body_length, hosts_fit}
use Rattle.acvp_http.specs.Asks.{framing_conditions}

values_of-cons : (block name : List ℕ) (found : List Span) (h : HeaderSpan) (rest : List HeaderSpan) (b : Bool)
    → b ≡ str_eq_ignore_ascii_case (span_bytes block h.name) name →
    map (span_bytes block) (if b then found ++ h.value ∷ [] else found)
    ++ values_of name (map (header_bytes block) rest)
    ≡ map (span_bytes block) found ++ values_of name (map (header_bytes block) (h ∷ rest))
values_of-cons block name found h rest true is = rw (← is) (simp (map-append, append_assoc))
values_of-cons block name found h rest false is = rw (← is)

-- the step of the loop that picks the values of a name
pub values_of_more : (block name : List ℕ) (found : List Span) (headers : List HeaderSpan) (i : ℕ) (d : HeaderSpan)
    (b : Bool) → i < length headers → b ≡ str_eq_ignore_ascii_case (span_bytes block (get_or headers i d).name) name →
    map (span_bytes block) (if b then found ++ (get_or headers i d).value ∷ [] else found)
    ++ values_of name (map (header_bytes block) (drop (i + 1) headers))
    ≡ map (span_bytes block) found ++ values_of name (map (header_bytes block) (drop i headers))
values_of_more block name found headers i d b low is =
    values_of-cons block name found (get_or headers i d) (drop (i + 1) headers) b is
    ∙ ap (λ (hs : List HeaderSpan). map (span_bytes block) found ++ values_of name (map (header_bytes block) hs))
    (sym (drop_more headers i d low))

-- what may be taken in is in a range, and so is what is taken in
pub All-push_if : {X : Type 0} (P : X → Type 0) (xs : List X) (x : X) (b : Bool) → All P xs → P x
    → All P (if b then xs ++ x ∷ [] else xs)
All-push_if P xs x true all here = All-push P xs x all here
All-push_if P xs x false all here = all

pub length-push_if : {X : Type 0} (xs : List X) (x : X) (b : Bool)
    → length (if b then xs ++ x ∷ [] else xs) ≤ length xs + 1
length-push_if xs x true = omega (arith, length-append xs (x ∷ []))
length-push_if xs x false = omega arith

-- the step of that loop, whatever the value is by then
pub values_of_step : (block name : List ℕ) (found new : List Span) (headers : List HeaderSpan) (i : ℕ) (d : HeaderSpan)
    (b : Bool) (whole : List (List ℕ)) → i < length headers →
    new ≡ (if b then found ++ (get_or headers i d).value ∷ [] else found) →
    b ≡ str_eq_ignore_ascii_case (span_bytes block (get_or headers i d).name) name →
    map (span_bytes block) found ++ values_of name (map (header_bytes block) (drop i headers)) ≡ whole →
    map (span_bytes block) new ++ values_of name (map (header_bytes block) (drop (i + 1) headers)) ≡ whole
values_of_step block name found new headers i d b whole low grown is kept =
    rw grown (values_of_more block name found headers i d b low is ∙ kept)

pub within_step : (n : ℕ) (found new : List Span) (headers : List HeaderSpan) (i : ℕ) (d : HeaderSpan) (b : Bool)
    → i < length headers →
    new ≡ (if b then found ++ (get_or headers i d).value ∷ [] else found) →
    All (IsHeaderWithin n) headers → All (IsWithin n) found → All (IsWithin n) new
within_step n found new headers i d b low grown all kept =
    rw grown (All-push_if (IsWithin n) found (get_or headers i d).value b kept
    ((All-get_or (IsHeaderWithin n) headers i d low all).1))

pub few_step : (found new : List Span) (headers : List HeaderSpan) (i : ℕ) (d : HeaderSpan) (b : Bool) →
    new ≡ (if b then found ++ (get_or headers i d).value ∷ [] else found) →
    length found ≤ i → length new ≤ i + 1
few_step found new headers i d b grown kept =
    rw grown (omega (arith, length-push_if found (get_or headers i d).value b))

-- ---- the size that was told

held : (b : Bool) (rule : Rule) (x : Unit {0}) → judged ((b, rule) ∷ []) tt ≡ Ok x → b ≡ true
held true rule x is = refl
held false rule x is = absurd (cc)

some_if : (b : Bool) (n size : ℕ) → cond b (Some n) None ≡ Some size → (b ≡ true) × (size ≡ n)
some_if true n size is = (refl, (let same : Some n ≡ Some size = is in cc))
some_if false n size is = absurd (cc)

-- where a length is told and the lengths agree, the later conditions decide
later_decide : (told agree a b : Bool) (n : ℕ) → told ≡ true → agree ≡ true
    → judged ((a, BodyTooLarge) ∷ (b, HostMissing) ∷ []) n
    ≡ judged ((told, LengthMissing) ∷ (agree, BadLength) ∷ (a, BodyTooLarge) ∷ (b, HostMissing) ∷ []) n
later_decide true true a b n t u = refl
later_decide true false a b n t u = absurd (cc)
later_decide false agree a b n t u = absurd (cc)

pub told_is : {S : Type 0} (show : S → List ℕ) (spans hosts : List S) (method : List ℕ) (minor size count : ℕ)
    (fields : List (List ℕ × List ℕ)) (told : Bool) (x : Unit {0})
    → map show spans ≡ values_of (codes "content-length") fields → map show hosts ≡ values_of (codes "host") fields
    → told ≡ (not (needs_length method) || not (is_nil spans)) → judged ((told, LengthMissing) ∷ []) tt ≡ Ok x
    → cond (lengths_agree (map show spans)) (Some (body_length (map show spans))) None ≡ Some size
    → count ≡ length hosts
    → judged ((nat_le size 2097152, BodyTooLarge) ∷ (hosts_fit minor count, HostMissing) ∷ []) size
    ≡ judged (drop 1 (framing_conditions method minor fields))
    (body_length (values_of (codes "content-length") fields))
told_is show spans hosts method minor size count fields told x lens names is ok agreed many =
    let values = values_of (codes "content-length") fields in
    let none : is_nil spans ≡ is_nil values = ap (λ n. n == 0) (sym (length-map spans show) ∙ ap length lens) in
    let here : (not (needs_length method) || not (is_nil values)) ≡ true =
    sym (is ∙ ap (λ b. not (needs_length method) || not b) none) ∙ held told LengthMissing x ok in
    let both = some_if (lengths_agree values) (body_length values) size (rw lens at agreed) in
    let count_is : count ≡ length (values_of (codes "host") fields) = many ∙ sym (length-map hosts show)
    ∙ ap length names in
    let n = body_length values in
    rw (both.1, count_is)
    (later_decide (not (needs_length method) || not (is_nil values)) (lengths_agree values) (nat_le n 2097152)
    (hosts_fit minor (length (values_of (codes "host") fields))) n here both.0)
