-- The parts of a token are known from its text.
use Rattle.std.proofs.Common.{◌≡◌, ℕ, List, None, Some, Result, Ok, Err, IfOk, IfErr, refl, sym, ap, ◌∙◌}
use Rattle.base64.specs.Engines.{url_safe_no_pad}
use Rattle.base64.specs.GeneralPurpose.{IsBytes, IsDecodeFailure, decode_of}
use Rattle.base64.specs.declared.decode.DecodeError.{DecodeError}
use Rattle.base64.specs.declared.decode.DecodeAllocError.{DecodeAllocError}
use Rattle.base64.specs.declared.decode.DecodeAllocError.TheVariants.{DecodeError as Failed}
use Rattle.base64.specs.declared.engine.general_purpose.GeneralPurpose.{GeneralPurpose}
use Rattle.base64.proofs.EngineFacts.{decode_of-encode_of}
use Rattle.serde_json.specs.Data.{Data}
use Rattle.acvp_mac.specs.declared.HashName.TheVariants.{Sha256}
use Rattle.acvp_mac.specs.Hmac.{hmac_of}
use Rattle.acvp_token.specs.declared.Claims.{Claims}
use Rattle.acvp_token.specs.declared.TokenFault.{TokenFault}
use Rattle.acvp_token.specs.declared.TokenFault.TheVariants.{Malformed, Signature, Claims as NoClaims, Expired, Memory}
use Rattle.acvp_token.specs.Private.Splitting.{IsSplit}
use Rattle.acvp_token.specs.Keys.{Keys}
use Rattle.acvp_token.specs.TokenText.{encoded}
use Rattle.acvp_token.specs.Reads.{HasForm, HasShape, IsClaimsText}
use Rattle.acvp_token.specs.Faults.{IsMalformed, IsUnread, IsReadingBy}
use Rattle.acvp_token.specs.Private.Opening.{IsMalformedFor, IsNoEncoding, IsHeaderText, IsHeaderless, IsFormless}
use Rattle.acvp_token.specs.Private.Opening.{HasOpened, IsUnopened, IsSignedReading}
use Rattle.acvp_token.specs.Private.ClaimsReading.{IsNoClaimsText}
use Rattle.acvp_token.proofs.Dots.{encoded-no_dot, split-same}
use Rattle.acvp_token.proofs.Readings.{json-unique}

-- bytes are known from their encoding
pub encoded-injective : (a b : List ℕ) → IsBytes a → IsBytes b → encoded a ≡ encoded b → a ≡ b
unfolding encoded
encoded-injective a b p q e =
    let left = decode_of-encode_of url_safe_no_pad a refl p in
    let right = decode_of-encode_of url_safe_no_pad b refl q in
    let same : Ok a ≡ Ok b = sym left ∙ ap (decode_of url_safe_no_pad) e ∙ right in
    cc

-- a token is split at its dots into the encodings of its parts
pub form-split : (text h c s : List ℕ) (d : Data) → HasForm text h c s d →
    IsSplit text (encoded h) (encoded c) (encoded s)
form-split text h c s d form =
    record { whole = form.whole; first_dotless = encoded-no_dot h; second_dotless = encoded-no_dot c }

-- a text is a token of one header, claims and signature at most
pub form-unique : (text h c s h' c' s' : List ℕ) (d d' : Data) → HasForm text h c s d → HasForm text h' c' s' d' →
    (h ≡ h') × (c ≡ c') × (s ≡ s') × (d ≡ d')
form-unique text h c s h' c' s' d d' p q =
    let parts = split-same text _ _ _ _ _ _ (form-split text h c s d p) (form-split text h' c' s' d' q) in
    let same : h ≡ h' = encoded-injective h h' p.header_bytes q.header_bytes parts.0 in (
      same,
      encoded-injective c c' p.claims_bytes q.claims_bytes parts.1,
      encoded-injective s s' p.signature_bytes q.signature_bytes parts.2,
      json-unique h' d d' (rw same at p.header_reads) q.header_reads,
    )

-- and under one key at most
pub shape-unique : (keys : Keys) (text h c s k h' c' s' k' : List ℕ) → HasShape keys text h c s k →
    HasShape keys text h' c' s' k' →
    (h ≡ h') × (c ≡ c') × (s ≡ s') × (k ≡ k')
shape-unique keys text h c s k h' c' s' k' p q =
    let parts = form-unique text h c s h' c' s' p.value q.value p.form q.form in
    let keyed : Some k ≡ Some k' = sym p.names ∙ ap keys parts.3 ∙ q.names in
    let same : k ≡ k' = cc in
    (parts.0, parts.1, parts.2, same)

-- ---- texts that are no token

pub formless-header : (text a b r : List ℕ) → IsSplit text a b r → IsNoEncoding a → IsFormless text
formless-header text a b r split none =
    λ h c s d form. none h form.header_bytes (split-same text _ _ _ _ _ _ split (form-split text h c s d form)).0

pub formless-claims : (text a b r : List ℕ) → IsSplit text a b r → IsNoEncoding b → IsFormless text
formless-claims text a b r split none =
    λ h c s d form. none c form.claims_bytes (split-same text _ _ _ _ _ _ split (form-split text h c s d form)).1

pub formless-signature : (text a b r : List ℕ) → IsSplit text a b r → IsNoEncoding r → IsFormless text
formless-signature text a b r split none =
    λ h c s d form. none s form.signature_bytes (split-same text _ _ _ _ _ _ split (form-split text h c s d form)).2

pub formless-text : (text a b r header : List ℕ) → IsSplit text a b r → a ≡ encoded header → IsBytes header →
    IsHeaderless header → IsFormless text
formless-text text a b r header split e bytes none =
    λ h c s d form.
    let part = (split-same text _ _ _ _ _ _ split (form-split text h c s d form)).0 in
    let same : header ≡ h = encoded-injective header h bytes form.header_bytes (sym e ∙ part) in
    let found : IsHeaderText h d = record { json = form.header_reads; passes = form.header_passes } in
    none d (rw same found)

-- a text with the form of no token has the shape of none
pub malformed-formless : (keys : Keys) (text : List ℕ) → IsFormless text → IsMalformed keys text
malformed-formless keys text none = λ h c s k shape. none h c s shape.value shape.form

-- nor does one whose header names no key
pub malformed-unnamed : (keys : Keys) (text signed payload signature : List ℕ) (value : Data) →
    HasOpened text value signed payload signature → keys value ≡ None → IsMalformed keys text
malformed-unnamed keys text signed payload signature value opened e =
    λ h c s k shape.
    let parts = form-unique text opened.header payload signature h c s value shape.value opened.form shape.form in
    let named : None ≡ Some k = sym e ∙ ap keys parts.3 ∙ shape.names in
    cc

-- a reason for a reason
pub malformed-for : (A B : Type 0) → (A → B) → (fault : TokenFault) → IsMalformedFor A fault → IsMalformedFor B fault
malformed-for A B f Malformed h = f h
malformed-for A B f Signature h = h
malformed-for A B f NoClaims h = h
malformed-for A B f Expired h = h
malformed-for A B f Memory h = h

-- a text that is not opened is not read
pub unread-unopened : (keys : Keys) (text : List ℕ) (fault : TokenFault) → IsUnopened text fault →
    IsUnread keys text fault
unread-unopened keys text Malformed none = malformed-formless keys text none
unread-unopened keys text Signature none = absurd none
unread-unopened keys text NoClaims none = absurd none
unread-unopened keys text Expired none = none
unread-unopened keys text Memory none = none

-- an opened token has the shape of one where its header names a key
shape-opened : (keys : Keys) (key text signed payload signature : List ℕ) (value : Data)
    (opened : HasOpened text value signed payload signature) → keys value ≡ Some key →
    HasShape keys text opened.header payload signature key
shape-opened keys key text signed payload signature value opened e =
    record { value = value; form = opened.form; names = e }

-- what is read of an opened token under the key that its header names is what the text reads as
pub reading-of_signed : (keys : Keys) (key text signed payload signature : List ℕ) (value : Data)
    (r : Result Claims TokenFault) → HasOpened text value signed payload signature → keys value ≡ Some key →
    IsSignedReading key signed payload signature r → IsReadingBy keys text r
reading-of_signed keys key text signed payload signature value (Ok claims) opened e reading =
    record {
      header = opened.header;
      payload = payload;
      signature = signature;
      key = key;
      shape = shape-opened keys key text signed payload signature value opened e;
      signed = reading.same ∙ ap (hmac_of Sha256 key) opened.input;
      content = reading.content;
    }
reading-of_signed keys key text signed payload signature value (Err Malformed) opened e reading = absurd reading
reading-of_signed keys key text signed payload signature value (Err Signature) opened e reading =
    record {
      header = opened.header;
      payload = payload;
      signature = signature;
      key = key;
      shape = shape-opened keys key text signed payload signature value opened e;
      unsigned = λ same. reading (same ∙ sym (ap (hmac_of Sha256 key) opened.input));
    }
reading-of_signed keys key text signed payload signature value (Err NoClaims) opened e reading =
    record {
      header = opened.header;
      payload = payload;
      signature = signature;
      key = key;
      shape = shape-opened keys key text signed payload signature value opened e;
      signed = reading.0 ∙ ap (hmac_of Sha256 key) opened.input;
      nothing = reading.1;
    }
reading-of_signed keys key text signed payload signature value (Err Expired) opened e reading = reading
reading-of_signed keys key text signed payload signature value (Err Memory) opened e reading = reading

-- what is read of claims whose signature fits is what is read under the key
pub signed-reading : (key signed payload signature : List ℕ) (r : Result Claims TokenFault) →
    signature ≡ hmac_of Sha256 key signed → IfOk r (IsClaimsText payload) → IfErr r (IsNoClaimsText payload) →
    IsSignedReading key signed payload signature r
signed-reading key signed payload signature (Ok claims) e content none = record { same = e; content = content }
signed-reading key signed payload signature (Err Malformed) e content none = none
signed-reading key signed payload signature (Err Signature) e content none = absurd none
signed-reading key signed payload signature (Err NoClaims) e content none = (e, none)
signed-reading key signed payload signature (Err Expired) e content none = none
signed-reading key signed payload signature (Err Memory) e content none = none

-- an input that does not decode decodes to no bytes
pub decoded-or-failed : (engine : GeneralPurpose) (part bytes : List ℕ) (fault : DecodeAllocError) (why : DecodeError) →
    fault ≡ Failed why →
    IsDecodeFailure engine part fault → decode_of engine part ≡ Ok bytes → ⊥
decoded-or-failed engine part bytes fault why e failed decoded =
    let refused : decode_of engine part ≡ Err why = rw e at failed in
    cc
