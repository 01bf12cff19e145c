-- What a text reads as by decoding is what it reads as by the definitions.
use Rattle.std.proofs.Common.{◌≡◌, ◌≢◌, ℕ, zero, suc, ◌<◌, ◌≤◌, List, ◌∷◌, ◌++◌, length, true, false, nat_lt, ◌||◌}
use Rattle.std.proofs.Common.{Option, None, Some, option_map, option_and_then, is_some, is_none, codes, decimal}
use Rattle.std.proofs.Common.{MatchOption, refl, sym, ap, ◌∙◌, arith}
use Rattle.std.specs.Str.{bytes_eq}
use Rattle.std.proofs.lemmas.Bool.Decides.{nat_tests}
use Rattle.std.proofs.lemmas.Slice.Eq.{bytes_eq-Decides}
use Rattle.serde_json.specs.Data.{unsigned, negative, float, Data, null, boolean, number, string, array, object}
use Rattle.serde_json.specs.Find.{get, as_str, as_number, as_u64}
use Rattle.acvp_token.specs.declared.Claims.{Claims}
use Rattle.acvp_token.specs.TokenText.{encoded}
use Rattle.acvp_token.specs.Private.Splitting.{HasNoDot, IsSplit}
use Rattle.acvp_token.specs.Keys.{is_member_text}
use Rattle.acvp_token.specs.Reads.{IsJson, IsHeader, HasForm, GivesClaims, IsClaimsText}
use Rattle.acvp_token.specs.Private.Opening.{IsNoEncoding, IsHeaderText, IsHeaderless, IsFormless}
use Rattle.acvp_token.specs.Private.ClaimsReading.{IsAccount, IsSession}
use Rattle.acvp_token.specs.Verdict.{split_dot, decoded, part_value, header_passes, Parts, if_header}
use Rattle.acvp_token.specs.Verdict.{decoded_parts, parts_of, account_up_to, account_in, number_in, session_value}
use Rattle.acvp_token.specs.Verdict.{session_in, claims_in, claims_of}
use Rattle.acvp_token.proofs.Dots.{split-parts, split-unique, encoded-no_dot, parts-from_right}
use Rattle.acvp_token.proofs.Shapes.{formless-header, formless-claims, formless-signature, formless-text}
use Rattle.acvp_token.proofs.Readings.{bind-is, test-is, both, IsCut, split_dot-is, dot-there, IsDecoded, decoded-is}
use Rattle.acvp_token.proofs.Readings.{part_value-is, json-unique}

match-weaker : {A : Type 0} (N M : Type 0) (P Q : A → Type 0) (o : Option A) → MatchOption o N P → (N → M) →
    ((a : A) → P a → Q a) →
    MatchOption o M Q
match-weaker N M P Q None h f g = f h
match-weaker N M P Q (Some a) h f g = g a h

-- ---- members

abbrev IsStringAt : Option Data → List ℕ → Type 0
IsStringAt o s = o ≡ Some (string s)

as_str-is : (o : Option Data) → MatchOption (option_and_then as_str o) ((s : List ℕ) → ¬ IsStringAt o s) (IsStringAt o)
as_str-is None = λ s e. cc
as_str-is (Some null) = λ s e. cc
as_str-is (Some (boolean b)) = λ s e. cc
as_str-is (Some (number n)) = λ s e. cc
as_str-is (Some (string t)) = refl
as_str-is (Some (array ds)) = λ s e. cc
as_str-is (Some (object ms)) = λ s e. cc

abbrev IsNumberAt : Option Data → ℕ → Type 0
IsNumberAt o n = o ≡ Some (number (unsigned n))

number-is : (o : Option Data) →
    MatchOption (option_and_then as_u64 (option_and_then as_number o)) ((n : ℕ) → ¬ IsNumberAt o n) (IsNumberAt o)
number-is None = λ n e. cc
number-is (Some null) = λ n e. cc
number-is (Some (boolean b)) = λ n e. cc
number-is (Some (number (unsigned n))) = refl
number-is (Some (number (negative z))) = λ n e. cc
number-is (Some (number (float x))) = λ n e. cc
number-is (Some (string t)) = λ n e. cc
number-is (Some (array ds)) = λ n e. cc
number-is (Some (object ms)) = λ n e. cc

number_in-is : (name : List ℕ) (d : Data) →
    MatchOption (number_in name d) ((n : ℕ) → ¬ IsNumberAt (get name d) n) (IsNumberAt (get name d))
unfolding number_in
number_in-is name d = number-is (get name d)

abbrev IsSessionAt : Option Data → Option ℕ → Type 0
IsSessionAt o s = o ≡ option_map (λ n. number (unsigned n)) s

other-session : (d : Data) → ((n : ℕ) → ¬ IsNumberAt (Some d) n) → (s : Option ℕ) → ¬ IsSessionAt (Some d) s
other-session d h None = λ e. cc
other-session d h (Some n) = λ e. h n e

session-there : (d : Data) (o : Option ℕ) → MatchOption o ((n : ℕ) → ¬ IsNumberAt (Some d) n) (IsNumberAt (Some d)) →
    MatchOption (option_map (λ n. Some n) o) ((s : Option ℕ) → ¬ IsSessionAt (Some d) s) (IsSessionAt (Some d))
session-there d None h = other-session d h
session-there d (Some n) h = h

session-is : (o : Option Data) → MatchOption (session_value o) ((s : Option ℕ) → ¬ IsSessionAt o s) (IsSessionAt o)
session-is None = refl
session-is (Some d) = session-there d (option_and_then as_u64 (as_number d)) (number-is (Some d))

session_in-is : (d : Data) → MatchOption (session_in d) ((s : Option ℕ) → ¬ IsSession d s) (IsSession d)
unfolding session_in
session_in-is d = session-is (get (codes "sid") d)

-- ---- the account

abbrev IsAccountText : List ℕ → ℕ → ℕ → Type 0
IsAccountText text n m = (text ≡ decimal m) × (1 ≤ m) × (m ≤ n)

account_up_to-is : (text : List ℕ) (n : ℕ) →
    MatchOption (account_up_to text n) ((m : ℕ) → ¬ IsAccountText text n m) (IsAccountText text n)
account_up_to-is text zero = λ m h. absurd (omega (arith, h.1, h.2))
account_up_to-is text (suc n) =
    let none = (m : ℕ) → ¬ IsAccountText text (suc n) m in
    test-is none (IsAccountText text (suc n)) (bytes_eq text (decimal (suc n))) (Some (suc n)) (account_up_to text n)
    (λ t. ((bytes_eq-Decides text (decimal (suc n))).0 t, omega arith, omega arith))
    (λ t.
    match-weaker ((m : ℕ) → ¬ IsAccountText text n m) none (IsAccountText text n) (IsAccountText text (suc n))
    (account_up_to text n)
    (account_up_to-is text n)
    (λ below m h.
    let other : m ≢ suc n =
    λ e. let s : bytes_eq text (decimal (suc n)) ≡ true = (bytes_eq-Decides text (decimal (suc n))).1
    (h.0 ∙ ap decimal e) in cc in
    below m (h.0, h.1, omega (arith, h.2, other)))
    (λ m h. (h.0, h.1, omega (arith, h.2))))

account_in-is : (d : Data) → MatchOption (account_in d) ((n : ℕ) → ¬ IsAccount d n) (IsAccount d)
unfolding account_in
account_in-is d =
    let sub = get (codes "sub") d in
    bind-is ((s : List ℕ) → ¬ IsStringAt sub s) ((n : ℕ) → ¬ IsAccount d n) (IsStringAt sub) (IsAccount d)
    (option_and_then as_str sub) (λ text. account_up_to text 9999)
    (as_str-is sub)
    (λ none n h. none (decimal n) h.subject)
    (λ text is.
    match-weaker ((m : ℕ) → ¬ IsAccountText text 9999 m) ((n : ℕ) → ¬ IsAccount d n) (IsAccountText text 9999)
    (IsAccount d) (account_up_to text 9999)
    (account_up_to-is text 9999)
    (λ none n h.
    let both : Some (string text) ≡ Some (string (decimal n)) = sym is ∙ h.subject in
    none n (cc, h.least, h.greatest))
    (λ n h. record { subject = is ∙ ap (λ (t : List ℕ). Some (string t)) h.0; least = h.1; greatest = h.2 }))

-- ---- the claims

some-of_two : {A : Type 0} (o p : Option A) → (is_some o || is_some p) ≡ true → o ≡ None → p ≡ None → ⊥
some-of_two None None h e f = cc
some-of_two None (Some b) h e f = cc
some-of_two (Some a) p h e f = cc

none-of_two : {A : Type 0} (o p : Option A) → (is_some o || is_some p) ≡ false → (o ≡ None) × (p ≡ None)
none-of_two None None h = (refl, refl)
none-of_two None (Some b) h = cc
none-of_two (Some a) p h = cc

claims_in-is : (d : Data) → MatchOption (claims_in d) ((c : Claims) → ¬ GivesClaims d c) (GivesClaims d)
unfolding claims_in
claims_in-is d =
    let none = (c : Claims) → ¬ GivesClaims d c in
    let nbf = get (codes "nbf") d in
    let aud = get (codes "aud") d in
    let iat = get (codes "iat") d in
    let exp = get (codes "exp") d in
    test-is none (GivesClaims d) (is_some nbf || is_some aud) None _
    (λ t c h. some-of_two nbf aud t h.no_start h.no_audience)
    (λ t.
    let absent = none-of_two nbf aud t in
    bind-is ((n : ℕ) → ¬ IsAccount d n) none (IsAccount d) (GivesClaims d) (account_in d) _ (account_in-is d)
    (λ h c g. h c.account (record { subject = g.subject; least = g.least; greatest = g.greatest }))
    (λ account is_account.
    bind-is ((n : ℕ) → ¬ IsNumberAt iat n) none (IsNumberAt iat) (GivesClaims d) (number_in (codes "iat") d) _
    (number_in-is (codes "iat") d)
    (λ h c g. h c.issued g.issued)
    (λ issued is_issued.
    bind-is ((n : ℕ) → ¬ IsNumberAt exp n) none (IsNumberAt exp) (GivesClaims d) (number_in (codes "exp") d) _
    (number_in-is (codes "exp") d)
    (λ h c g. h c.expires g.expires)
    (λ expires is_expires.
    bind-is ((s : Option ℕ) → ¬ IsSession d s) none (IsSession d) (GivesClaims d) (session_in d) _ (session_in-is d)
    (λ h c g. h c.session g.session)
    (λ session is_session. record {
      subject = is_account.subject;
      least = is_account.least;
      greatest = is_account.greatest;
      issued = is_issued;
      expires = is_expires;
      session = is_session;
      no_start = absent.0;
      no_audience = absent.1;
    })))))

pub claims_of-is : (bytes : List ℕ) →
    MatchOption (claims_of bytes) ((c : Claims) → ¬ IsClaimsText bytes c) (IsClaimsText bytes)
unfolding claims_of
claims_of-is bytes =
    let none = (c : Claims) → ¬ IsClaimsText bytes c in
    bind-is ((d : Data) → ¬ IsJson bytes d) none (IsJson bytes) (IsClaimsText bytes) (part_value bytes) claims_in
    (part_value-is bytes)
    (λ h c t. h t.value t.json)
    (λ d json.
    match-weaker ((c : Claims) → ¬ GivesClaims d c) none (GivesClaims d) (IsClaimsText bytes) (claims_in d)
    (claims_in-is d)
    (λ h c t.
    let same : t.value ≡ d = json-unique bytes t.value d t.json json in
    h c (rw same at t.gives))
    (λ c g. record { value = d; json = json; gives = g }))

-- ---- the header

text-of : (o : Option Data) (s : List ℕ) → option_and_then as_str o ≡ Some s → o ≡ Some (string s)
text-of None s e = cc
text-of (Some null) s e = cc
text-of (Some (boolean b)) s e = cc
text-of (Some (number n)) s e = cc
text-of (Some (string t)) s e = let same : t ≡ s = cc in ap (λ (x : List ℕ). Some (string x)) same
text-of (Some (array ds)) s e = cc
text-of (Some (object ms)) s e = cc

is_member_text-true : (wanted : List ℕ) (o : Option (List ℕ)) → is_member_text wanted o ≡ true → o ≡ Some wanted
is_member_text-true wanted None h = cc
is_member_text-true wanted (Some s) h = ap (λ (x : List ℕ). Some x) ((bytes_eq-Decides s wanted).0 h)

is_none-true : {A : Type 0} (o : Option A) → is_none o ≡ true → o ≡ None
is_none-true None h = refl
is_none-true (Some a) h = cc

header-from_test : (d : Data) → header_passes d ≡ true → IsHeader d
unfolding header_passes
header-from_test d h =
    let alg = get (codes "alg") d in
    let parts = both (is_member_text (codes "HS256") (option_and_then as_str alg)) (is_none (get (codes "crit") d)) h in
    record {
      algorithm = text-of alg (codes "HS256")
          (is_member_text-true (codes "HS256") (option_and_then as_str alg) parts.0);
      nothing_critical = is_none-true (get (codes "crit") d) parts.1;
    }

test-from_header : (d : Data) → IsHeader d → header_passes d ≡ true
unfolding header_passes
test-from_header d h = rw (h.algorithm, h.nothing_critical) refl

-- ---- the parts of a token

abbrev AreParts : List ℕ → List ℕ → List ℕ → Parts → Type 0
AreParts h p s parts =
    (parts.header ≡ h) × (parts.payload ≡ p) × (parts.signature ≡ s) × IsHeaderText h parts.value

if_header-is : (h p s : List ℕ) → MatchOption (if_header h p s) (IsHeaderless h) (AreParts h p s)
if_header-is h p s =
    bind-is ((d : Data) → ¬ IsJson h d) (IsHeaderless h) (IsJson h) (AreParts h p s) (part_value h) _
    (part_value-is h)
    (λ none d t. none d t.json)
    (λ d json.
    test-is (IsHeaderless h) (AreParts h p s) (header_passes d)
    (Some (record { value = d; header = h; payload = p; signature = s })) None
    (λ t. (refl, refl, refl, record { json = json; passes = header-from_test d t }))
    (λ t e found.
    let same : e ≡ d = json-unique h e d found.json json in
    let passes : header_passes d ≡ true = test-from_header d (rw same at found.passes) in
    cc))

abbrev pub IsFormOf : List ℕ → Parts → Type 0
IsFormOf text parts = HasForm text parts.header parts.payload parts.signature parts.value

form-of_parts : (text a b r h p s : List ℕ) (parts : Parts) → length text ≤ 1024 → IsSplit text a b r →
    IsDecoded a h → IsDecoded b p → IsDecoded r s → AreParts h p s parts → IsFormOf text parts
form-of_parts text a b r h p s parts short split first second third are =
    let header = are.3 in
    let form : HasForm text h p s parts.value = record {
      short = short;
      whole = rw (← first.0, ← second.0, ← third.0) split.whole;
      header_bytes = first.1;
      claims_bytes = second.1;
      signature_bytes = third.1;
      header_reads = header.json;
      header_passes = header.passes;
    } in
    rw (are.0, are.1, are.2) form

decoded_parts-is : (text a b r : List ℕ) → length text ≤ 1024 → IsSplit text a b r →
    MatchOption (decoded_parts a b r) (IsFormless text) (IsFormOf text)
decoded_parts-is text a b r short split =
    bind-is (IsNoEncoding a) (IsFormless text) (IsDecoded a) (IsFormOf text) (decoded a) _ (decoded-is a)
    (formless-header text a b r split)
    (λ h first.
    bind-is (IsNoEncoding b) (IsFormless text) (IsDecoded b) (IsFormOf text) (decoded b) _ (decoded-is b)
    (formless-claims text a b r split)
    (λ p second.
    bind-is (IsNoEncoding r) (IsFormless text) (IsDecoded r) (IsFormOf text) (decoded r) _ (decoded-is r)
    (formless-signature text a b r split)
    (λ s third.
    match-weaker (IsHeaderless h) (IsFormless text) (AreParts h p s) (IsFormOf text) (if_header h p s)
    (if_header-is h p s)
    (formless-text text a b r h split first.0 first.1)
    (λ parts are. form-of_parts text a b r h p s parts short split first second third are))))

no-dot-formless : (text : List ℕ) → HasNoDot text → IsFormless text
no-dot-formless text none =
    λ h c s d form.
    let cut : text ≡ encoded h ++ 46 ∷ (encoded c ++ 46 ∷ encoded s) =
    form.whole ∙ parts-from_right (encoded h) (encoded c) (encoded s) in
    dot-there (encoded h) _ (rw cut at none)

one-dot-formless : (text a rest : List ℕ) → text ≡ a ++ 46 ∷ rest → HasNoDot a → HasNoDot rest → IsFormless text
one-dot-formless text a rest e first none =
    λ h c s d form.
    let cut : a ++ 46 ∷ rest ≡ encoded h ++ 46 ∷ (encoded c ++ 46 ∷ encoded s) =
    sym e ∙ form.whole ∙ parts-from_right (encoded h) (encoded c) (encoded s) in
    let same : rest ≡ encoded c ++ 46 ∷ encoded s =
    (split-unique a (encoded h) rest _ first (encoded-no_dot h) cut).1 in
    dot-there (encoded c) _ (rw same at none)

above-from_test : (n : ℕ) → nat_lt 1024 n ≡ true → 1024 < n
above-from_test n h = grind (arith, nat_tests)

within-from_test : (n : ℕ) → nat_lt 1024 n ≡ false → n ≤ 1024
within-from_test n h = grind (arith, nat_tests)

pub parts_of-is : (text : List ℕ) → MatchOption (parts_of text) (IsFormless text) (IsFormOf text)
unfolding parts_of
parts_of-is text =
    test-is (IsFormless text) (IsFormOf text) (nat_lt 1024 (length text)) None _
    (λ t h c s d form. omega (arith, above-from_test (length text) t, form.short))
    (λ t.
    let short = within-from_test (length text) t in
    bind-is (HasNoDot text) (IsFormless text) (IsCut text) (IsFormOf text) (split_dot text) _ (split_dot-is text)
    (no-dot-formless text)
    (λ first cut.
    bind-is (HasNoDot first.1) (IsFormless text) (IsCut first.1) (IsFormOf text) (split_dot first.1) _
    (split_dot-is first.1)
    (one-dot-formless text first.0 first.1 cut.0 cut.1)
    (λ second cut_again.
    decoded_parts-is text first.0 second.0 second.1 short
    (split-parts text first.1 first.0 second.0 second.1 cut.0 cut_again.0 cut.1 cut_again.1).0)))
