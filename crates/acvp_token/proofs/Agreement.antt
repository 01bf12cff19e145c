-- A text gives one answer: what it reads as by decoding is whatever the definitions allow.
use Rattle.std.proofs.Common.{◌≡◌, ◌≢◌, ℕ, ◌<◌, ◌≤◌, List, Bool, true, false, nat_lt, Option, None, Some, option_map}
use Rattle.std.proofs.Common.{if◌then◌else◌}
use Rattle.std.proofs.Common.{decimal, Result, Ok, Err, MatchOption, refl, sym, ap, ◌∙◌, arith}
use Rattle.std.specs.Str.{bytes_eq}
use Rattle.std.proofs.lemmas.Bool.Decides.{nat_tests}
use Rattle.std.proofs.lemmas.Fmt.{decimal_injective}
use Rattle.std.proofs.lemmas.Slice.Eq.{bytes_eq-Decides}
use Rattle.serde_json.specs.Data.{unsigned, Data, number, string}
use Rattle.acvp_token.specs.declared.Claims.{Claims}
use Rattle.acvp_token.specs.declared.TokenFault.{TokenFault}
use Rattle.acvp_token.specs.declared.TokenFault.TheVariants.{Malformed, Signature, Claims as NoClaims, Expired, Memory}
use Rattle.acvp_token.specs.Keys.{Keys, one_key, Ring, named_key}
use Rattle.acvp_token.specs.TokenText.{signature_of}
use Rattle.acvp_token.specs.Reads.{HasShape, GivesClaims, IsClaimsText, ReadsBy}
use Rattle.acvp_token.specs.Faults.{IsUnread, IsUnverified, IsReadingBy, IsReading, IsReadingUnder, IsVerdictBy}
use Rattle.acvp_token.specs.Faults.{IsVerdict, IsVerdictUnder}
use Rattle.acvp_token.specs.Verdict.{Parts, parts_of, claims_of, reading_signed, reading_named, reading_parts}
use Rattle.acvp_token.specs.Verdict.{reading_by, reading_of, reading_under, lasting_at, verdict_by, verdict_of}
use Rattle.acvp_token.specs.Verdict.{verdict_under, IsUnlessMemory}
use Rattle.acvp_token.specs.Private.Opening.{IsFormless}
use Rattle.acvp_token.proofs.Shapes.{form-unique, shape-unique, malformed-formless}
use Rattle.acvp_token.proofs.Readings.{json-unique}
use Rattle.acvp_token.proofs.Verdicts.{IsFormOf, parts_of-is, claims_of-is}

-- ---- a text gives at most one claims

made : ℕ → Option ℕ → ℕ → ℕ → Claims
made account session issued expires =
    record { account = account; session = session; issued = issued; expires = expires }

made-again : (c : Claims) → made c.account c.session c.issued c.expires ≡ c
unfolding made
made-again c = refl

same-session : (a b : Option ℕ) → option_map (λ n. number (unsigned n)) a ≡ option_map (λ n. number (unsigned n)) b →
    a ≡ b
same-session None None e = refl
same-session None (Some n) e = cc
same-session (Some m) None e = cc
same-session (Some m) (Some n) e = let same : m ≡ n = cc in ap (λ (k : ℕ). Some k) same

gives-unique : (d : Data) (a b : Claims) → GivesClaims d a → GivesClaims d b → a ≡ b
gives-unique d a b p q =
    let subjects : Some (string (decimal a.account)) ≡ Some (string (decimal b.account)) = sym p.subject ∙ q.subject in
    let texts : decimal a.account ≡ decimal b.account = cc in
    let account : a.account ≡ b.account =
    decimal_injective a.account b.account (omega (arith, p.greatest)) (omega (arith, q.greatest)) texts in
    let moments : Some (number (unsigned a.issued)) ≡ Some (number (unsigned b.issued)) = sym p.issued ∙ q.issued in
    let issued : a.issued ≡ b.issued = cc in
    let ends : Some (number (unsigned a.expires)) ≡ Some (number (unsigned b.expires)) = sym p.expires ∙ q.expires in
    let expires : a.expires ≡ b.expires = cc in
    let session : a.session ≡ b.session = same-session a.session b.session (sym p.session ∙ q.session) in
    let whole : made a.account a.session a.issued a.expires ≡ made b.account b.session b.issued b.expires =
    cc (account, session, issued, expires) in
    sym (made-again a) ∙ whole ∙ made-again b

pub claims-unique : (bytes : List ℕ) (a b : Claims) → IsClaimsText bytes a → IsClaimsText bytes b → a ≡ b
claims-unique bytes a b p q =
    let same : q.value ≡ p.value = json-unique bytes q.value p.value q.json p.json in
    gives-unique p.value a b p.gives (rw same at q.gives)

-- a text reads as at most one claims
pub reads-unique : (keys : Keys) (text : List ℕ) (a b : Claims) → ReadsBy keys text a → ReadsBy keys text b → a ≡ b
reads-unique keys text a b p q =
    let same =
    shape-unique keys text q.header q.payload q.signature q.key p.header p.payload p.signature p.key q.shape p.shape in
    claims-unique p.payload a b p.content (rw same.1 at q.content)

-- ---- what is read is what is worked out

claims-agree : (bytes : List ℕ) (o : Option Claims) (c : Claims) →
    MatchOption o ((d : Claims) → ¬ IsClaimsText bytes d) (IsClaimsText bytes) → IsClaimsText bytes c →
    reading_signed true o ≡ Ok c
claims-agree bytes None c h p = absurd (h c p)
claims-agree bytes (Some d) c h p = ap (λ (x : Claims). Ok x) (claims-unique bytes d c h p)

claims-missing : (bytes : List ℕ) (o : Option Claims) →
    MatchOption o ((d : Claims) → ¬ IsClaimsText bytes d) (IsClaimsText bytes) →
    ((c : Claims) → ¬ IsClaimsText bytes c) →
    reading_signed true o ≡ Err NoClaims
claims-missing bytes None h none = refl
claims-missing bytes (Some d) h none = absurd (none d h)

signed-test : (key : List ℕ) (parts : Parts) (h p s : List ℕ) →
    (parts.header ≡ h) × (parts.payload ≡ p) × (parts.signature ≡ s) →
    s ≡ signature_of key h p → bytes_eq parts.signature (signature_of key parts.header parts.payload) ≡ true
signed-test key parts h p s same e =
    let signed : parts.signature ≡ signature_of key parts.header parts.payload = rw (same.0, same.1, same.2) e in
    (bytes_eq-Decides parts.signature (signature_of key parts.header parts.payload)).1 signed

test-false : (b : Bool) → (b ≡ true → ⊥) → b ≡ false
test-false true h = absurd (h refl)
test-false false h = refl

forged-test : (key : List ℕ) (parts : Parts) (h p s : List ℕ) →
    (parts.header ≡ h) × (parts.payload ≡ p) × (parts.signature ≡ s) →
    s ≢ signature_of key h p → bytes_eq parts.signature (signature_of key parts.header parts.payload) ≡ false
forged-test key parts h p s same other =
    test-false (bytes_eq parts.signature (signature_of key parts.header parts.payload))
    (λ t.
    let signed = (bytes_eq-Decides parts.signature (signature_of key parts.header parts.payload)).0 t in
    other (rw (same.0, same.1, same.2) at signed))

-- the parts of a text, and the key that they name, are those of any shape that it has
abbrev IsSameShape : Parts → List ℕ → List ℕ → List ℕ → List ℕ → List ℕ → Type 0
IsSameShape parts key h p s k = (parts.header ≡ h) × (parts.payload ≡ p) × (parts.signature ≡ s) × (key ≡ k)

known-shape : (keys : Keys) (text : List ℕ) (parts : Parts) (key h p s k : List ℕ) → IsFormOf text parts →
    keys parts.value ≡ Some key → HasShape keys text h p s k → IsSameShape parts key h p s k
known-shape keys text parts key h p s k form e shape =
    let made : HasShape keys text parts.header parts.payload parts.signature key =
    record { value = parts.value; form = form; names = e } in
    shape-unique keys text parts.header parts.payload parts.signature key h p s k made shape

unnamed : (keys : Keys) (text : List ℕ) (parts : Parts) (h p s k : List ℕ) → IsFormOf text parts →
    keys parts.value ≡ None → HasShape keys text h p s k → ⊥
unnamed keys text parts h p s k form e shape =
    let same =
    form-unique text parts.header parts.payload parts.signature h p s parts.value shape.value form shape.form in
    let named : None ≡ Some k = sym e ∙ ap keys same.3 ∙ shape.names in
    cc

named-agree : (keys : Keys) (text : List ℕ) (parts : Parts) (o : Option (List ℕ)) → keys parts.value ≡ o →
    IsFormOf text parts → (r : Result Claims TokenFault) → IsReadingBy keys text r →
    IsUnlessMemory (reading_named parts o) r
named-agree keys text parts None e form (Ok claims) reads = absurd (unnamed keys text parts _ _ _ _ form e reads.shape)
named-agree keys text parts None e form (Err Malformed) malformed = refl
named-agree keys text parts None e form (Err Signature) forged =
    absurd (unnamed keys text parts _ _ _ _ form e forged.shape)
named-agree keys text parts None e form (Err NoClaims) unclaimed =
    absurd (unnamed keys text parts _ _ _ _ form e unclaimed.shape)
named-agree keys text parts None e form (Err Expired) none = absurd none
named-agree keys text parts None e form (Err Memory) none = tt
named-agree keys text parts (Some key) e form (Ok claims) reads =
    let same =
    known-shape keys text parts key reads.header reads.payload reads.signature reads.key form e reads.shape in
    let signed : reads.signature ≡ signature_of key reads.header reads.payload = rw same.3 reads.signed in
    rw (signed-test key parts reads.header reads.payload reads.signature (same.0, same.1, same.2) signed)
    (claims-agree parts.payload (claims_of parts.payload) claims (claims_of-is parts.payload) (rw same.1 reads.content))
named-agree keys text parts (Some key) e form (Err Malformed) malformed =
    absurd (malformed _ _ _ _ (record { value = parts.value; form = form; names = e }))
named-agree keys text parts (Some key) e form (Err Signature) forged =
    let same =
    known-shape keys text parts key forged.header forged.payload forged.signature forged.key form e forged.shape in
    let unsigned : forged.signature ≢ signature_of key forged.header forged.payload = rw same.3 forged.unsigned in
    rw (forged-test key parts forged.header forged.payload forged.signature (same.0, same.1, same.2) unsigned) refl
named-agree keys text parts (Some key) e form (Err NoClaims) unclaimed =
    let same =
    known-shape keys text parts key unclaimed.header unclaimed.payload unclaimed.signature unclaimed.key form e
    unclaimed.shape in
    let signed : unclaimed.signature ≡ signature_of key unclaimed.header unclaimed.payload =
    rw same.3 unclaimed.signed in
    rw (signed-test key parts unclaimed.header unclaimed.payload unclaimed.signature (same.0, same.1, same.2) signed)
    (claims-missing parts.payload (claims_of parts.payload) (claims_of-is parts.payload) (rw same.1 unclaimed.nothing))
named-agree keys text parts (Some key) e form (Err Expired) none = absurd none
named-agree keys text parts (Some key) e form (Err Memory) none = tt

parts-agree : (keys : Keys) (text : List ℕ) (o : Option Parts) → MatchOption o (IsFormless text) (IsFormOf text) →
    (r : Result Claims TokenFault) → IsReadingBy keys text r → IsUnlessMemory (reading_parts keys o) r
parts-agree keys text None formless (Ok claims) reads =
    absurd (malformed-formless keys text formless _ _ _ _ reads.shape)
parts-agree keys text None formless (Err Malformed) reads = refl
parts-agree keys text None formless (Err Signature) forged =
    absurd (malformed-formless keys text formless _ _ _ _ forged.shape)
parts-agree keys text None formless (Err NoClaims) unclaimed =
    absurd (malformed-formless keys text formless _ _ _ _ unclaimed.shape)
parts-agree keys text None formless (Err Expired) none = absurd none
parts-agree keys text None formless (Err Memory) none = tt
parts-agree keys text (Some parts) form r reading =
    named-agree keys text parts (keys parts.value) refl form r reading

-- what a text is read as is what is worked out, unless memory ran out
pub reading-agrees : (keys : Keys) (text : List ℕ) (r : Result Claims TokenFault) → IsReadingBy keys text r →
    IsUnlessMemory (reading_by keys text) r
unfolding reading_by
reading-agrees keys text r h = parts-agree keys text (parts_of text) (parts_of-is text) r h

pub reading_of-agrees : (key text : List ℕ) (r : Result Claims TokenFault) → IsReading key text r →
    IsUnlessMemory (reading_of key text) r
unfolding reading_of
reading_of-agrees key text r h = reading-agrees (one_key key) text r h

pub reading_under-agrees : (ring : Ring) (text : List ℕ) (r : Result Claims TokenFault) → IsReadingUnder ring text r →
    IsUnlessMemory (reading_under ring text) r
unfolding reading_under
reading_under-agrees ring text r h = reading-agrees (named_key ring) text r h

lasts-test : (m n : ℕ) → m < n → nat_lt m n ≡ true
lasts-test m n h = grind (arith, nat_tests)

past-test : (m n : ℕ) → n ≤ m → nat_lt m n ≡ false
past-test m n h = grind (arith, nat_tests)

-- what a text is verified as is what is worked out, unless memory ran out
pub verdict-agrees : (keys : Keys) (text : List ℕ) (moment : ℕ) (r : Result Claims TokenFault) →
    IsVerdictBy keys text moment r → IsUnlessMemory (verdict_by keys text moment) r
unfolding verdict_by
verdict-agrees keys text moment (Ok claims) h =
    rw (reading-agrees keys text (Ok claims) h.reads, lasts-test moment claims.expires h.lasts) refl
verdict-agrees keys text moment (Err Malformed) h = rw (reading-agrees keys text (Err Malformed) h) refl
verdict-agrees keys text moment (Err Signature) h = rw (reading-agrees keys text (Err Signature) h) refl
verdict-agrees keys text moment (Err NoClaims) h = rw (reading-agrees keys text (Err NoClaims) h) refl
verdict-agrees keys text moment (Err Expired) h =
    rw (reading-agrees keys text (Ok h.claims) h.reads, past-test moment h.claims.expires h.ended) refl
verdict-agrees keys text moment (Err Memory) h = tt

pub verdict_of-agrees : (key text : List ℕ) (moment : ℕ) (r : Result Claims TokenFault) →
    IsVerdict key text moment r → IsUnlessMemory (verdict_of key text moment) r
unfolding verdict_of
verdict_of-agrees key text moment r h = verdict-agrees (one_key key) text moment r h

pub verdict_under-agrees : (ring : Ring) (text : List ℕ) (moment : ℕ) (r : Result Claims TokenFault) →
    IsVerdictUnder ring text moment r → IsUnlessMemory (verdict_under ring text moment) r
unfolding verdict_under
verdict_under-agrees ring text moment r h = verdict-agrees (named_key ring) text moment r h

-- ---- the end of a token

-- a token that reads is verified where it lasts, and past its end it isn't
lasting-test : (keys : Keys) (text : List ℕ) (moment : ℕ) (claims : Claims) (b : Bool) →
    nat_lt moment claims.expires ≡ b → ReadsBy keys text claims →
    IsVerdictBy keys text moment (if b then Ok claims else Err Expired)
lasting-test keys text moment claims true e reads =
    let lasts : moment < claims.expires = grind (arith, nat_tests) in
    record { reads = reads; lasts = lasts }
lasting-test keys text moment claims false e reads =
    let ended : claims.expires ≤ moment = grind (arith, nat_tests) in
    record { claims = claims; reads = reads; ended = ended }

pub verdict-lasting : (keys : Keys) (text : List ℕ) (moment : ℕ) (claims : Claims) (r : Result Claims TokenFault) →
    ReadsBy keys text claims → r ≡ lasting_at moment (Ok claims) → IsVerdictBy keys text moment r
verdict-lasting keys text moment claims r reads e =
    rw e (lasting-test keys text moment claims (nat_lt moment claims.expires) refl reads)

-- what isn't read isn't verified
pub verdict-unread : (keys : Keys) (text : List ℕ) (moment : ℕ) (fault : TokenFault) → IsUnread keys text fault →
    IsUnverified keys text moment fault
verdict-unread keys text moment Malformed h = h
verdict-unread keys text moment Signature h = h
verdict-unread keys text moment NoClaims h = h
verdict-unread keys text moment Expired h = absurd h
verdict-unread keys text moment Memory h = h
