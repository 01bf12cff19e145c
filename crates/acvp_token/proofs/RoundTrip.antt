-- An issued token reads as the claims that it was issued for.
use Rattle.std.proofs.Common.{◌≡◌, ℕ, zero, suc, ◌+◌, ◌*◌, ◌/◌, ◌%◌, ◌^◌, ◌<◌, ◌≤◌, List, [], ◌∷◌, ◌++◌, Bool, true}
use Rattle.std.proofs.Common.{false, nat_lt, ◌&&◌, length, length-append, get_or, Option, None, Some, IfSome, Result}
use Rattle.std.proofs.Common.{Ok, Err, IfOk, OnOk, String, string_bytes, Global, codes, decimal, refl, sym, ap, subst}
use Rattle.std.proofs.Common.{◌∙◌}
use Rattle.std.proofs.Common.{arith, append-nil}
use Rattle.std.proofs.lemmas.Fmt.{decimal_by_steps, length-decimal-le, IsAscii-decimal}
use Rattle.std.proofs.lemmas.Grind.{flat_map-append}
use Rattle.std.proofs.lemmas.Str.{IsUtf8-from_ascii, IsUtf8-string_bytes, IsAscii-append}
use Rattle.std.specs.Str.{IsAscii}
use Rattle.std.specs.List.{list_all}
use Rattle.std.specs.declared.alloc.AllocError.{AllocError}
use Rattle.std.proofs.lemmas.Bool.Decides.{nat_tests}
use Rattle.std.proofs.lemmas.Slice.Eq.{bytes_eq-Decides}
use Rattle.base64.specs.Engines.{url_safe_no_pad}
use Rattle.base64.specs.GeneralPurpose.{IsBytes}
use Rattle.base64.proofs.RoundTrip.{length-encode_symbols}
use Rattle.serde_json.specs.Data.{Data, depth, number, unsigned, string, object, member, no_members}
use Rattle.json.specs.Print.{escape, quoted}
use Rattle.json.proofs.Printed.Decimals.{IsNumber-decimal}
use Rattle.json.specs.Json.{Json, value as json_value}
use Rattle.json.specs.Tree.{HasNumbers, json_tokens, depth as tree_depth}
use Rattle.json.specs.Lex.{tokens}
use Rattle.json.specs.Print.{print}
use Rattle.json.proofs.Printed.Tokens.{tokens-print}
use Rattle.json.proofs.Printed.Trees.{ArePrintable-json_tokens, value-json_tokens}
use Rattle.serde_json.specs.Find.{get}
use Rattle.serde_json.specs.Read.{read, of_json}
use Rattle.serde_json.specs.Written.{compact_text, has_float, outline}
use Rattle.serde_json.proofs.Numbers.{number_of-decimal}
use Rattle.serde_json.proofs.Texts.{print-outline}
use Rattle.serde_json.proofs.OnLiterals.{serde_json_on_literals}
use Rattle.acvp_mac.specs.declared.HashName.TheVariants.{Sha256}
use Rattle.acvp_mac.proofs.DigestFacts.{length-hmac_of, bytes-hmac_of}
use Rattle.acvp_token.specs.declared.Claims.{Claims}
use Rattle.acvp_token.specs.ClaimsJson.{claims_data, claims_text}
use Rattle.acvp_token.specs.Keys.{Keys, one_key, Ring, key_at, last_place, IsKeyRing, signing_key, is_kid_of}
use Rattle.acvp_token.specs.Keys.{named_key}
use Rattle.acvp_token.specs.TokenText.{encoded, issued_header, signature_of, token_of, token_text_at, token_text}
use Rattle.acvp_token.specs.TokenText.{ring_token_text}
use Rattle.acvp_token.specs.Private.ClaimsWriting.{IsClaimsWritten}
use Rattle.acvp_token.specs.Reads.{IsJson, IsHeader, GivesClaims, ReadsBy, Reads, ReadsUnder}
use Rattle.acvp_token.proofs.Places.{named-is, some-unwrapped, place_text, decimal-place}

-- ---- the length of the claims

text-append : (xs ys : List ℕ) →
    length (compact_text (string (xs ++ ys))) + 2 ≡ length (compact_text (string xs)) + length
    (compact_text (string ys))
text-append xs ys = simp (flat_map-append, length-append) (omega arith)

digit-text : (n : ℕ) → n < 10 → length (compact_text (string ((48 + n) ∷ []))) ≡ 3
unfolding serde_json_on_literals
digit-text zero h = refl
digit-text (suc zero) h = refl
digit-text (suc (suc zero)) h = refl
digit-text (suc (suc (suc zero))) h = refl
digit-text (suc (suc (suc (suc zero)))) h = refl
digit-text (suc (suc (suc (suc (suc zero))))) h = refl
digit-text (suc (suc (suc (suc (suc (suc zero)))))) h = refl
digit-text (suc (suc (suc (suc (suc (suc (suc zero))))))) h = refl
digit-text (suc (suc (suc (suc (suc (suc (suc (suc zero)))))))) h = refl
digit-text (suc (suc (suc (suc (suc (suc (suc (suc (suc zero))))))))) h = refl
digit-text (suc (suc (suc (suc (suc (suc (suc (suc (suc (suc n)))))))))) h = absurd (omega arith)

more-text : (d : ℕ) (ds : List ℕ) → d < 10 → length (compact_text (string ds)) ≡ length ds + 2 →
    length (compact_text (string (ds ++ (48 + d) ∷ []))) ≡ length (ds ++ (48 + d) ∷ []) + 2
more-text d ds h e =
    let joined = text-append ds ((48 + d) ∷ []) in
    let last = digit-text d h in
    let size = length-append ds ((48 + d) ∷ []) in
    omega (arith, joined, last, size, e)

decimal-text : (n : ℕ) → n < 2 ^ 64 → length (compact_text (string (decimal n))) ≡ length (decimal n) + 2
decimal-text =
    decimal_by_steps (λ n ds. length (compact_text (string ds)) ≡ length ds + 2)
    (λ n h. digit-text n h)
    (λ n ds h e. let low : n % 10 < 10 = omega arith in more-text (n % 10) ds low e)

number-length : (n : ℕ) → n < 2 ^ 64 → length (decimal n) ≤ 20
number-length n h = length-decimal-le 20 n (omega arith) (omega arith) h

subject-length : (n : ℕ) → n < 2 ^ 64 → length (compact_text (string (decimal n))) ≤ 22
subject-length n h = omega (arith, decimal-text n h, number-length n h)

-- the claims of a token with a session, and of one without
session-length : (account session issued expires : ℕ) → account < 2 ^ 64 → session < 2 ^ 64 → issued < 2 ^ 64 →
    expires < 2 ^ 64 →
    length (compact_text (object (member (codes "exp") (number (unsigned expires))
    (member (codes "iat") (number (unsigned issued))
    (member (codes "sid") (number (unsigned session)) (member (codes "sub") (string (decimal account)) no_members))))))
    ≤ 120
unfolding serde_json_on_literals
session-length account session issued expires a s i e =
    let subject = simp length-append at (subject-length account a) in
    let first = number-length expires e in
    let second = number-length issued i in
    let third = number-length session s in
    simp length-append (omega arith)

account-length : (account issued expires : ℕ) → account < 2 ^ 64 → issued < 2 ^ 64 → expires < 2 ^ 64 →
    length (compact_text (object (member (codes "exp") (number (unsigned expires))
    (member (codes "iat") (number (unsigned issued))
    (member (codes "sub") (string (decimal account)) no_members))))) ≤ 120
unfolding serde_json_on_literals
account-length account issued expires a i e =
    let subject = simp length-append at (subject-length account a) in
    let first = number-length expires e in
    let second = number-length issued i in
    simp length-append (omega arith)

-- the text of any claims is short
pub claims-short : (account : ℕ) (session : Option ℕ) (issued expires : ℕ) →
    account < 2 ^ 64 → IfSome session (λ n. n < 2 ^ 64) → issued < 2 ^ 64 → expires < 2 ^ 64 →
    length (claims_text (record { account = account; session = session; issued = issued; expires = expires })) ≤ 120
claims-short account None issued expires a s i e = account-length account issued expires a i e
claims-short account (Some session) issued expires a s i e = session-length account session issued expires a s i e

-- ---- the parts of an issued token

-- the value of the header of a token that is issued under the key at a place
header_data : ℕ → Data
header_data zero =
    object (member (codes "alg") (string (codes "HS256")) (member (codes "typ") (string (codes "JWT")) no_members))
header_data (suc n) =
    object (member (codes "alg") (string (codes "HS256")) (member (codes "kid") (string (decimal (suc n)))
    (member (codes "typ") (string (codes "JWT")) no_members)))

below-from_test : (x : ℕ) → nat_lt x 128 ≡ true → x < 128
below-from_test x h = grind (arith, nat_tests)

both : (a b : Bool) → (a && b) ≡ true → (a ≡ true) × (b ≡ true)
both true b h = (refl, h)
both false b h = cc

ascii-cons : (x : ℕ) (xs : List ℕ) → x < 128 → IsAscii xs → IsAscii (x ∷ xs)
ascii-cons x xs here rest = at
  where
    at : (i : ℕ) → get_or (x ∷ xs) i 0 < 128
    at zero = here
    at (suc i) = rest i

ascii-from_test : (bytes : List ℕ) → list_all (λ b. nat_lt b 128) bytes ≡ true → IsAscii bytes
ascii-from_test [] h = λ i. omega arith
ascii-from_test (x ∷ xs) h =
    let parts = both (nat_lt x 128) (list_all (λ b. nat_lt b 128) xs) h in
    ascii-cons x xs (below-from_test x parts.0) (ascii-from_test xs parts.1)

-- what comes before the place in such a header, what comes after it, and the value
abbrev header_front : List ℕ
header_front = codes "{\"alg\":\"HS256\",\"kid\":\""

abbrev header_back : List ℕ
header_back = codes "\",\"typ\":\"JWT\"}"

abbrev named_header : List ℕ → Data
named_header text =
    object (member (codes "alg") (string (codes "HS256")) (member (codes "kid") (string text)
    (member (codes "typ") (string (codes "JWT")) no_members)))

named-reads : (place : ℕ) → place < 16 →
    read (header_front ++ place_text place ++ header_back) ≡ Some (named_header (place_text place))
unfolding serde_json_on_literals place_text
named-reads zero h = refl
named-reads (suc zero) h = refl
named-reads (suc (suc zero)) h = refl
named-reads (suc (suc (suc zero))) h = refl
named-reads (suc (suc (suc (suc zero)))) h = refl
named-reads (suc (suc (suc (suc (suc zero))))) h = refl
named-reads (suc (suc (suc (suc (suc (suc zero)))))) h = refl
named-reads (suc (suc (suc (suc (suc (suc (suc zero))))))) h = refl
named-reads (suc (suc (suc (suc (suc (suc (suc (suc zero)))))))) h = refl
named-reads (suc (suc (suc (suc (suc (suc (suc (suc (suc zero))))))))) h = refl
named-reads (suc (suc (suc (suc (suc (suc (suc (suc (suc (suc zero)))))))))) h = refl
named-reads (suc (suc (suc (suc (suc (suc (suc (suc (suc (suc (suc zero))))))))))) h = refl
named-reads (suc (suc (suc (suc (suc (suc (suc (suc (suc (suc (suc (suc zero)))))))))))) h = refl
named-reads (suc (suc (suc (suc (suc (suc (suc (suc (suc (suc (suc (suc (suc zero))))))))))))) h = refl
named-reads (suc (suc (suc (suc (suc (suc (suc (suc (suc (suc (suc (suc (suc (suc zero)))))))))))))) h = refl
named-reads (suc (suc (suc (suc (suc (suc (suc (suc (suc (suc (suc (suc (suc (suc (suc zero))))))))))))))) h = refl
named-reads (suc (suc (suc (suc (suc (suc (suc (suc (suc (suc (suc (suc (suc (suc (suc (suc n)))))))))))))))) h =
    absurd (omega arith)

plain-reads : read (issued_header zero) ≡ Some (header_data zero)
unfolding serde_json_on_literals header_data
plain-reads = refl

header-reads : (place : ℕ) → place < 16 → read (issued_header place) ≡ Some (header_data place)
unfolding header_data
header-reads zero h = plain-reads
header-reads (suc n) h =
    let P : List ℕ → Type 0 = λ text. read (header_front ++ text ++ header_back) ≡ Some (named_header text) in
    subst P (sym (decimal-place (suc n) h)) (named-reads (suc n) h)

header-ascii : (place : ℕ) → place < 16 → IsAscii (issued_header place)
header-ascii zero h = ascii-from_test (issued_header zero) refl
header-ascii (suc n) h =
    IsAscii-append (header_front ++ decimal (suc n)) header_back
    (IsAscii-append header_front (decimal (suc n)) (ascii-from_test header_front refl)
    (IsAscii-decimal (suc n) (omega arith)))
    (ascii-from_test header_back refl)

ascii-bytes : (bytes : List ℕ) → IsAscii bytes → IsBytes bytes
ascii-bytes bytes h = λ i. let low = h i in omega (arith, low)

header-json : (place : ℕ) → place < 16 → IsJson (issued_header place) (header_data place)
header-json place h =
    record { utf8 = IsUtf8-from_ascii (issued_header place) (header-ascii place h); reads = header-reads place h }

header-passes : (place : ℕ) → IsHeader (header_data place)
unfolding header_data
header-passes zero = record { algorithm = refl; nothing_critical = refl }
header-passes (suc n) = record { algorithm = refl; nothing_critical = refl }

header-bytes : (place : ℕ) → place < 16 → IsBytes (issued_header place)
header-bytes place h = ascii-bytes (issued_header place) (header-ascii place h)

header-short : (place : ℕ) → place < 16 → length (issued_header place) ≤ 38
header-short zero h = omega arith
header-short (suc n) h =
    let size = length-decimal-le 2 (suc n) (omega arith) (omega arith) in
    simp length-append (omega (arith, size))

-- the key of a place is the one that the header of that place names, under one key and under a ring
header-names-place : (place : ℕ) → is_kid_of (get (codes "kid") (header_data place)) place ≡ true
unfolding header_data
header-names-place zero = refl
header-names-place (suc n) = (bytes_eq-Decides (decimal (suc n)) (decimal (suc n))).1 refl

header-names-key : (ring : Ring) (place : ℕ) → place < 16 → length ring ≤ 16 →
    named_key ring (header_data place) ≡ key_at ring place
header-names-key ring place h most = named-is (header_data place) place ring h most (header-names-place place)

gives-data : (account : ℕ) (session : Option ℕ) (issued expires : ℕ) → 1 ≤ account → account ≤ 9999 →
    let claims : Claims = record { account = account; session = session; issued = issued; expires = expires } in
    GivesClaims (claims_data claims) claims
gives-data account None issued expires least greatest =
    record {
      subject = refl;
      least = least;
      greatest = greatest;
      issued = refl;
      expires = refl;
      session = refl;
      no_start = refl;
      no_audience = refl;
    }
gives-data account (Some n) issued expires least greatest =
    record {
      subject = refl;
      least = least;
      greatest = greatest;
      issued = refl;
      expires = refl;
      session = refl;
      no_start = refl;
      no_audience = refl;
    }

encoded-length : (bytes : List ℕ) (n : ℕ) → length bytes ≤ n → length (encoded bytes) ≤ (4 * n + 2) / 3
unfolding encoded
encoded-length bytes n h =
    let size = length-encode_symbols url_safe_no_pad.encode_table bytes in
    simp length-append (omega (arith, size))

-- an issued token is short
issued-short : (place : ℕ) (key : List ℕ) (c : Claims) → place < 16 → length (claims_text c) ≤ 120 →
    length (token_text_at place key c) ≤ 1024
issued-short place key c within h =
    let signature = signature_of key (issued_header place) (claims_text c) in
    let first = encoded-length (issued_header place) 38 (header-short place within) in
    let second = encoded-length (claims_text c) 120 h in
    let size = length-hmac_of Sha256 key (encoded (issued_header place) ++ codes "." ++ encoded (claims_text c)) in
    let third = encoded-length signature 32 (omega (arith, size)) in
    simp length-append (omega (arith, first, second, third))

-- the text of these claims reads as them
record IsClaimsJson (c : Claims) : Type 0 where
  least : 1 ≤ c.account
  greatest : c.account ≤ 9999
  short : length (claims_text c) ≤ 120
  json : IsJson (claims_text c) (claims_data c)
  bytes : IsBytes (claims_text c)

-- an issued token reads as its claims where their text does, under any keys of which its header names the one that
-- signed it
reads-token_text_at : (keys : Keys) (place : ℕ) (key : List ℕ) (c : Claims) → place < 16 →
    keys (header_data place) ≡ Some key → IsClaimsJson c → ReadsBy keys (token_text_at place key c) c
reads-token_text_at keys place key c within names claims =
    record {
      header = issued_header place;
      payload = claims_text c;
      signature = signature_of key (issued_header place) (claims_text c);
      key = key;
      shape = record {
        value = header_data place;
        form = record {
          short = issued-short place key c within claims.short;
          whole = refl;
          header_bytes = header-bytes place within;
          claims_bytes = claims.bytes;
          signature_bytes = bytes-hmac_of Sha256 key
              (encoded (issued_header place) ++ codes "." ++ encoded (claims_text c));
          header_reads = header-json place within;
          header_passes = header-passes place;
        };
        names = names;
      };
      signed = refl;
      content = record {
        value = claims_data c;
        json = claims.json;
        gives = gives-data c.account c.session c.issued c.expires claims.least claims.greatest;
      };
    }

reads-token_text : (key : List ℕ) (c : Claims) → IsClaimsJson c → Reads key (token_text key c) c
unfolding token_text
reads-token_text key c claims = reads-token_text_at (one_key key) 0 key c (omega arith) refl claims

-- the last key of a ring is there
signing_key-is : (ring : Ring) → IsKeyRing ring → key_at ring (last_place ring) ≡ Some (signing_key ring)
signing_key-is ring is = some-unwrapped (key_at ring (last_place ring)) is.last

-- a ring in which the key stands under which a token was issued by another names it
later-names : (ring later : Ring) → IsKeyRing ring → IsKeyRing later →
    key_at later (last_place ring) ≡ key_at ring (last_place ring) →
    named_key later (header_data (last_place ring)) ≡ Some (signing_key ring)
later-names ring later is is_later stands =
    header-names-key later (last_place ring) (omega (arith, is.least, is.most)) is_later.most ∙ stands
    ∙ signing_key-is ring is

reads-ring_token_text : (ring later : Ring) (c : Claims) → IsKeyRing ring → IsKeyRing later →
    key_at later (last_place ring) ≡ key_at ring (last_place ring) → IsClaimsJson c →
    ReadsUnder later (ring_token_text ring c) c
unfolding ring_token_text
reads-ring_token_text ring later c is is_later stands claims =
    reads-token_text_at (named_key later) (last_place ring) (signing_key ring) c (omega (arith, is.least, is.most))
    (later-names ring later is is_later stands) claims

-- ---- the text of the claims, as it is written

no-float : (account : ℕ) (session : Option ℕ) (issued expires : ℕ) →
    has_float (claims_data (record { account = account; session = session; issued = issued; expires = expires }))
    ≡ false
no-float account None issued expires = refl
no-float account (Some n) issued expires = refl

shallow : (account : ℕ) (session : Option ℕ) (issued expires : ℕ) →
    depth (claims_data (record { account = account; session = session; issued = issued; expires = expires })) ≤ 127
shallow account None issued expires = omega arith
shallow account (Some n) issued expires = omega arith

-- what the writer of JSON says of the text makes it the text of the claims
pub claims-written : (r : Result (String Global) AllocError) (c : Claims) (d : Data) → d ≡ claims_data c →
    IfOk r (λ s. has_float d ≡ false → string_bytes s ≡ compact_text d) →
    IfOk r (λ s. depth d ≤ 127 → read (string_bytes s) ≡ Some d) →
    length (claims_text c) ≤ 120 → IfOk r (λ s. IsClaimsWritten (string_bytes s) c)
claims-written (Err e) c d is text reads short = tt
claims-written (Ok s) c d is text reads short =
    let plain : has_float d ≡ false = rw is (no-float c.account c.session c.issued c.expires) in
    let flat : depth d ≤ 127 = rw is (shallow c.account c.session c.issued c.expires) in
    let value : string_bytes s ≡ claims_text c = text plain ∙ ap compact_text is in
    let read_back : read (string_bytes s) ≡ Some (claims_data c) = reads flat ∙ ap (λ (x : Data). Some x) is in
    record { value = value; json = record { utf8 = IsUtf8-string_bytes s; reads = read_back }; short = rw value short }

-- ---- the whole token

-- a token over the text of the claims is the issued one
issued-at : (r : Result (String Global) AllocError) (place : ℕ) (key payload : List ℕ) (c : Claims) →
    IsClaimsWritten payload c →
    IfOk r (λ t. string_bytes t
    ≡ token_of (issued_header place) payload (signature_of key (issued_header place) payload)) →
    IfOk r (λ t. string_bytes t ≡ token_text_at place key c)
issued-at (Err e) place key payload c written text = tt
issued-at (Ok t) place key payload c written text = rw (text, written.value) refl

pub issued-text : (r : Result (String Global) AllocError) (key payload : List ℕ) (c : Claims) →
    IsClaimsWritten payload c →
    IfOk r (λ t. string_bytes t ≡ token_of (issued_header 0) payload (signature_of key (issued_header 0) payload)) →
    IfOk r (λ t. string_bytes t ≡ token_text key c)
unfolding token_text
issued-text r key payload c written text = issued-at r 0 key payload c written text

pub ring-issued-text : (r : Result (String Global) AllocError) (ring : Ring) (header payload : List ℕ) (c : Claims) →
    header ≡ issued_header (last_place ring) → IsClaimsWritten payload c →
    IfOk r (λ t. string_bytes t ≡ token_of header payload (signature_of (signing_key ring) header payload)) →
    IfOk r (λ t. string_bytes t ≡ ring_token_text ring c)
unfolding ring_token_text
ring-issued-text r ring header payload c is written text =
    issued-at r (last_place ring) (signing_key ring) payload c written (rw is at text)

-- and it reads as the claims
written-json : (payload : List ℕ) (c : Claims) → IsClaimsWritten payload c → IsBytes payload → 1 ≤ c.account →
    c.account ≤ 9999 → IsClaimsJson c
written-json payload c written bytes least greatest =
    record {
      least = least;
      greatest = greatest;
      short = rw written.value at written.short;
      json = rw written.value at written.json;
      bytes = rw written.value at bytes;
    }

pub issued-reads : (r : Result (String Global) AllocError) (key payload : List ℕ) (c : Claims) →
    IsClaimsWritten payload c →
    IfOk r (λ t. string_bytes t ≡ token_text key c) → OnOk r (IsBytes payload) → 1 ≤ c.account → c.account ≤ 9999 →
    IfOk r (λ t. Reads key (string_bytes t) c)
issued-reads (Err e) key payload c written text bytes least greatest = tt
issued-reads (Ok t) key payload c written text bytes least greatest =
    rw text (reads-token_text key c (written-json payload c written bytes least greatest))

pub ring-issued-reads : (r : Result (String Global) AllocError) (ring : Ring) (payload : List ℕ) (c : Claims) →
    IsKeyRing ring → IsClaimsWritten payload c →
    IfOk r (λ t. string_bytes t ≡ ring_token_text ring c) → OnOk r (IsBytes payload) → 1 ≤ c.account →
    c.account ≤ 9999 →
    IfOk r (λ t. ReadsUnder ring (string_bytes t) c)
ring-issued-reads (Err e) ring payload c is written text bytes least greatest = tt
ring-issued-reads (Ok t) ring payload c is written text bytes least greatest =
    rw text (reads-ring_token_text ring ring c is is refl (written-json payload c written bytes least greatest))

-- ---- the token of any claims, whoever writes it

digit-ascii : (n : ℕ) → n < 10 → IsAscii (escape ((48 + n) ∷ []))
unfolding serde_json_on_literals
digit-ascii zero h = ascii-from_test (escape (48 ∷ [])) refl
digit-ascii (suc zero) h = ascii-from_test (escape (49 ∷ [])) refl
digit-ascii (suc (suc zero)) h = ascii-from_test (escape (50 ∷ [])) refl
digit-ascii (suc (suc (suc zero))) h = ascii-from_test (escape (51 ∷ [])) refl
digit-ascii (suc (suc (suc (suc zero)))) h = ascii-from_test (escape (52 ∷ [])) refl
digit-ascii (suc (suc (suc (suc (suc zero))))) h = ascii-from_test (escape (53 ∷ [])) refl
digit-ascii (suc (suc (suc (suc (suc (suc zero)))))) h = ascii-from_test (escape (54 ∷ [])) refl
digit-ascii (suc (suc (suc (suc (suc (suc (suc zero))))))) h = ascii-from_test (escape (55 ∷ [])) refl
digit-ascii (suc (suc (suc (suc (suc (suc (suc (suc zero)))))))) h = ascii-from_test (escape (56 ∷ [])) refl
digit-ascii (suc (suc (suc (suc (suc (suc (suc (suc (suc zero))))))))) h = ascii-from_test (escape (57 ∷ [])) refl
digit-ascii (suc (suc (suc (suc (suc (suc (suc (suc (suc (suc n)))))))))) h = absurd (omega arith)

escaped-ascii : (n : ℕ) → n < 2 ^ 64 → IsAscii (escape (decimal n))
escaped-ascii =
    decimal_by_steps (λ n ds. IsAscii (escape ds))
    (λ n h. digit-ascii n h)
    (λ n ds h e.
    let low : n % 10 < 10 = omega arith in
    let joined : escape (ds ++ (48 + n % 10) ∷ []) ≡ escape ds ++ escape ((48 + n % 10) ∷ []) =
    simp flat_map-append refl in
    rw joined (IsAscii-append (escape ds) (escape ((48 + n % 10) ∷ [])) e (digit-ascii (n % 10) low)))

text-ascii : (n : ℕ) → n < 2 ^ 64 → IsAscii (quoted (decimal n))
text-ascii n h =
    ascii-cons 34 (escape (decimal n) ++ 34 ∷ []) (omega arith)
    (IsAscii-append (escape (decimal n)) (34 ∷ []) (escaped-ascii n h) (ascii-from_test (34 ∷ []) refl))

member-ascii : (k text rest : List ℕ) → IsAscii (quoted k) → IsAscii text → IsAscii rest →
    IsAscii (quoted k ++ 58 ∷ (text ++ rest))
member-ascii k text rest a b c =
    IsAscii-append (quoted k) (58 ∷ (text ++ rest)) a
    (ascii-cons 58 (text ++ rest) (omega arith) (IsAscii-append text rest b c))

name-ascii : (k : List ℕ) → list_all (λ b. nat_lt b 128) (quoted k) ≡ true → IsAscii (quoted k)
name-ascii k t = ascii-from_test (quoted k) t

names : IsAscii (quoted (codes "exp")) × IsAscii (quoted (codes "iat")) × IsAscii (quoted (codes "sid")) × IsAscii
    (quoted (codes "sub"))
unfolding serde_json_on_literals
names = (
  name-ascii (codes "exp") refl,
  name-ascii (codes "iat") refl,
  name-ascii (codes "sid") refl,
  name-ascii
      (codes "sub") refl,
)

-- each member of the claims with what comes after it
abbrev sub_member : ℕ → List ℕ
sub_member n = quoted (codes "sub") ++ 58 ∷ (quoted (decimal n) ++ 125 ∷ [])

abbrev sid_member : ℕ → List ℕ → List ℕ
sid_member n rest = quoted (codes "sid") ++ 58 ∷ (decimal n ++ 44 ∷ rest)

abbrev iat_member : ℕ → List ℕ → List ℕ
iat_member n rest = quoted (codes "iat") ++ 58 ∷ (decimal n ++ 44 ∷ rest)

abbrev exp_member : ℕ → List ℕ → List ℕ
exp_member n rest = quoted (codes "exp") ++ 58 ∷ (decimal n ++ 44 ∷ rest)

sub-ascii : (n : ℕ) → n < 2 ^ 64 → IsAscii (sub_member n)
sub-ascii n h =
    member-ascii (codes "sub") (quoted (decimal n)) (125 ∷ []) names.3 (text-ascii n h)
    (ascii-from_test (125 ∷ []) refl)

sid-ascii : (n : ℕ) (rest : List ℕ) → n < 2 ^ 64 → IsAscii rest → IsAscii (sid_member n rest)
sid-ascii n rest h more =
    member-ascii (codes "sid") (decimal n) (44 ∷ rest) names.2 (IsAscii-decimal n h)
    (ascii-cons 44 rest (omega arith) more)

iat-ascii : (n : ℕ) (rest : List ℕ) → n < 2 ^ 64 → IsAscii rest → IsAscii (iat_member n rest)
iat-ascii n rest h more =
    member-ascii (codes "iat") (decimal n) (44 ∷ rest) names.1 (IsAscii-decimal n h)
    (ascii-cons 44 rest (omega arith) more)

exp-ascii : (n : ℕ) (rest : List ℕ) → n < 2 ^ 64 → IsAscii rest → IsAscii (exp_member n rest)
exp-ascii n rest h more =
    member-ascii (codes "exp") (decimal n) (44 ∷ rest) names.0 (IsAscii-decimal n h)
    (ascii-cons 44 rest (omega arith) more)

made_claims : ℕ → Option ℕ → ℕ → ℕ → Claims
made_claims account session issued expires =
    record { account = account; session = session; issued = issued; expires = expires }

claims-ascii : (account : ℕ) (session : Option ℕ) (issued expires : ℕ) →
    account < 2 ^ 64 → IfSome session (λ n. n < 2 ^ 64) → issued < 2 ^ 64 → expires < 2 ^ 64 →
    IsAscii (claims_text (made_claims account session issued expires))
unfolding made_claims
claims-ascii account None issued expires a s i e =
    ascii-cons 123 (exp_member expires (iat_member issued (sub_member account))) (omega arith)
    (exp-ascii expires (iat_member issued (sub_member account)) e
    (iat-ascii issued (sub_member account) i (sub-ascii account a)))
claims-ascii account (Some n) issued expires a s i e =
    ascii-cons 123 (exp_member expires (iat_member issued (sid_member n (sub_member account)))) (omega arith)
    (exp-ascii expires (iat_member issued (sid_member n (sub_member account))) e
    (iat-ascii issued (sid_member n (sub_member account)) i (sid-ascii n (sub_member account) s (sub-ascii account a))))

claims-numbers : (account : ℕ) (session : Option ℕ) (issued expires : ℕ) →
    IfSome session (λ n. n < 2 ^ 64) → issued < 2 ^ 64 → expires < 2 ^ 64 →
    HasNumbers (outline (claims_data (made_claims account session issued expires)))
unfolding made_claims
claims-numbers account None issued expires s i e = (IsNumber-decimal expires e, (IsNumber-decimal issued i, (tt, tt)))
claims-numbers account (Some n) issued expires s i e =
    (IsNumber-decimal expires e, (IsNumber-decimal issued i, (IsNumber-decimal n s, (tt, tt))))

claims-converted : (account : ℕ) (session : Option ℕ) (issued expires : ℕ) →
    IfSome session (λ n. n < 2 ^ 64) → issued < 2 ^ 64 → expires < 2 ^ 64 →
    let d = claims_data (made_claims account session issued expires) in
    of_json (outline d) ≡ Some d
unfolding made_claims serde_json_on_literals
claims-converted account None issued expires s i e = rw (number_of-decimal expires e, number_of-decimal issued i) refl
claims-converted account (Some n) issued expires s i e =
    rw (number_of-decimal expires e, number_of-decimal issued i, number_of-decimal n s) refl

claims-shallow : (account : ℕ) (session : Option ℕ) (issued expires : ℕ) →
    tree_depth (outline (claims_data (made_claims account session issued expires))) ≤ 127
unfolding made_claims
claims-shallow account None issued expires = omega arith
claims-shallow account (Some n) issued expires = omega arith

-- what is printed for a tree of a low depth is read as the value that the tree gives
read-print : (tree : Json) (d : Data) → HasNumbers tree → tree_depth tree ≤ 127 → of_json tree ≡ Some d →
    read (print (json_tokens tree)) ≡ Some d
read-print tree d numbers flat converted =
    let lexed : tokens (print (json_tokens tree)) ≡ json_tokens tree ++ [] =
    tokens-print (json_tokens tree) (ArePrintable-json_tokens tree numbers) ∙ sym (append-nil (json_tokens tree)) in
    let parsed : json_value 127 (json_tokens tree ++ []) ≡ Some (tree, []) = value-json_tokens tree 127 [] flat in
    rw (lexed, parsed) converted

claims-reads : (account : ℕ) (session : Option ℕ) (issued expires : ℕ) →
    IfSome session (λ n. n < 2 ^ 64) → issued < 2 ^ 64 → expires < 2 ^ 64 →
    let c = made_claims account session issued expires in
    read (claims_text c) ≡ Some (claims_data c)
claims-reads account session issued expires s i e =
    let d = claims_data (made_claims account session issued expires) in
    ap read (sym (print-outline d))
    ∙ read-print (outline d) d (claims-numbers account session issued expires s i e)
    (claims-shallow account session issued expires)
    (claims-converted account session issued expires s i e)

claims-json : (account : ℕ) (session : Option ℕ) (issued expires : ℕ) →
    account < 2 ^ 64 → IfSome session (λ n. n < 2 ^ 64) → issued < 2 ^ 64 → expires < 2 ^ 64 →
    let c = made_claims account session issued expires in
    IsJson (claims_text c) (claims_data c)
unfolding made_claims
claims-json account session issued expires a s i e =
    let d = claims_data (made_claims account session issued expires) in
    record {
      utf8 = IsUtf8-from_ascii (claims_text (made_claims account session issued expires))
          (claims-ascii account session issued expires a s i e);
      reads = claims-reads account session issued expires s i e;
    }

any-claims-json : (c : Claims) → 1 ≤ c.account → c.account ≤ 9999 →
    IfSome c.session (λ n. n < 2 ^ 64) → c.issued < 2 ^ 64 → c.expires < 2 ^ 64 → IsClaimsJson c
unfolding made_claims
any-claims-json c least greatest s i e =
    let small : c.account < 2 ^ 64 = omega arith in
    record {
      least = least;
      greatest = greatest;
      short = claims-short c.account c.session c.issued c.expires small s i e;
      json = claims-json c.account c.session c.issued c.expires small s i e;
      bytes = ascii-bytes (claims_text c) (claims-ascii c.account c.session c.issued c.expires small s i e);
    }

-- the token of any claims reads as them
pub token_text-reads : (key : List ℕ) (c : Claims) → 1 ≤ c.account → c.account ≤ 9999 →
    IfSome c.session (λ n. n < 2 ^ 64) → c.issued < 2 ^ 64 → c.expires < 2 ^ 64 → Reads key (token_text key c) c
token_text-reads key c least greatest s i e = reads-token_text key c (any-claims-json c least greatest s i e)

-- and so it does under each ring in which the key that signed it stands
pub ring_token_text-reads : (ring later : Ring) (c : Claims) → IsKeyRing ring → IsKeyRing later →
    key_at later (last_place ring) ≡ key_at ring (last_place ring) → 1 ≤ c.account → c.account ≤ 9999 →
    IfSome c.session (λ n. n < 2 ^ 64) → c.issued < 2 ^ 64 → c.expires < 2 ^ 64 →
    ReadsUnder later (ring_token_text ring c) c
ring_token_text-reads ring later c is is_later stands least greatest s i e =
    reads-ring_token_text ring later c is is_later stands (any-claims-json c least greatest s i e)

-- as does the token of any claims under one key, where that is entry 0
pub token_text-reads_under : (key : List ℕ) (later : Ring) (c : Claims) → IsKeyRing later →
    key_at later 0 ≡ Some key → 1 ≤ c.account → c.account ≤ 9999 →
    IfSome c.session (λ n. n < 2 ^ 64) → c.issued < 2 ^ 64 → c.expires < 2 ^ 64 →
    ReadsUnder later (token_text key c) c
unfolding token_text
token_text-reads_under key later c is_later stands least greatest s i e =
    reads-token_text_at (named_key later) 0 key c (omega arith)
    (header-names-key later 0 (omega arith) is_later.most ∙ stands) (any-claims-json c least greatest s i e)
