-- Lemmas on what is kept.
use Rattle.std.proofs.Common.{◌≡◌, ◌≤◌, ◌<◌, ℕ, List, [], ◌∷◌, length, Bool, true, false, ◌&&◌, ◌||◌, not, Option, Some}
use Rattle.std.proofs.Common.{None, option_map, refl, arith, String, Global, string_bytes}
use Rattle.std.specs.Prelude.{nat_le, string_len, unwrap_or, find, codes}
use Rattle.std.specs.Cmp.Lexicographic.{slice_cmp}
use Rattle.std.specs.Ordering.{nat_cmp, match_ordering}
use Rattle.std.specs.declared.cmp.Ordering.{Ordering}
use Rattle.std.specs.declared.cmp.Ordering.TheVariants.{Less, Equal, Greater}
use Rattle.std.proofs.lemmas.Bool.Decides.{nat_tests}
use Rattle.std.proofs.lemmas.Str.{IsUtf8-string_bytes}
use Rattle.serde_json.specs.Data.{Data, null, boolean, number, string, array, object, Members, no_members, member, put}
use Rattle.serde_json.specs.Data.{depth}
use Rattle.serde_json.specs.Read.{read}
use Rattle.serde_json.specs.Written.{has_float, members_have_float, compact_text}
use Rattle.acvp_registry.specs.declared.fault.RegFault.{RegFault}
use Rattle.acvp_registry.specs.declared.fault.RegFault.TheVariants.{Field, NoReference}
use Rattle.acvp_registry.specs.declared.kind.Kind.{Kind}
use Rattle.acvp_registry.specs.Object.{KeptObject, object_text, is_fit, has_fields, is_readable, is_short, names_vendor}
use Rattle.acvp_registry.specs.Object.{object_fault, put_url, with_url_data}
use Rattle.acvp_registry.specs.Private.Invariant.{IsKeptText}
use Rattle.acvp_registry.specs.Url.{url_of}
use Rattle.acvp_registry.proofs.JsonLemmas.{body_json-read}

-- ---- truth values

both : (a b : Bool) → (a && b) ≡ true → (a ≡ true) × (b ≡ true)
both true b h = (refl, h)
both false b h = cc

neither : (b : Bool) → not b ≡ true → b ≡ false
neither true h = cc
neither false h = refl

at_most : (n k : ℕ) → nat_le n k ≡ true → n ≤ k
at_most n k h = grind (arith, nat_tests)

-- ---- the first condition that doesn't hold

abbrev fault_of : Bool → Bool → Option RegFault
fault_of fit vendor = option_map (λ (c : Bool × RegFault). c.1)
    (find (λ c. not c.0) ((fit, Field) ∷ (vendor, NoReference) ∷ []))

pub unfit_fields : (kind : Kind) (d : Data) → has_fields kind d ≡ false → object_fault kind d ≡ Some Field
unfolding object_fault is_fit
unfit_fields kind d h = rw h refl

pub unfit_readable : (kind : Kind) (d : Data) → has_fields kind d ≡ true → is_readable d ≡ false
    → object_fault kind d ≡ Some Field
unfolding object_fault is_fit
unfit_readable kind d fields h = rw (fields, h) refl

pub unfit_short : (kind : Kind) (d : Data) → has_fields kind d ≡ true → is_readable d ≡ true → is_short d ≡ false
    → object_fault kind d ≡ Some Field
unfolding object_fault is_fit
unfit_short kind d fields readable h = rw (fields, readable, h) refl

pub unfit_vendor : (kind : Kind) (d : Data) → has_fields kind d ≡ true → is_readable d ≡ true → is_short d ≡ true
    → names_vendor kind d ≡ false → object_fault kind d ≡ Some NoReference
unfolding object_fault is_fit
unfit_vendor kind d fields readable short h = rw (fields, readable, short, h) refl

pub fit : (kind : Kind) (d : Data) → has_fields kind d ≡ true → is_readable d ≡ true → is_short d ≡ true
    → names_vendor kind d ≡ true → object_fault kind d ≡ None
unfolding object_fault is_fit
fit kind d fields readable short h = rw (fields, readable, short, h) refl

plain_of : (d : Data) → is_readable d ≡ true → has_float d ≡ false
plain_of d h = neither (has_float d) (both (not (has_float d)) (nat_le (depth d) 127) h).0

fit-readable_at : (fields readable short vendor : Bool)
    → fault_of (fields && readable && short) vendor ≡ None → readable ≡ true
fit-readable_at true true short vendor h = refl
fit-readable_at true false short vendor h = cc
fit-readable_at false readable short vendor h = cc

-- what is kept has no float
pub fit-no_float : (kind : Kind) (d : Data) → object_fault kind d ≡ None → has_float d ≡ false
unfolding object_fault is_fit
fit-no_float kind d h =
    let readable : is_readable d ≡ true =
    fit-readable_at (has_fields kind d) (is_readable d) (is_short d) (names_vendor kind d) h in
    plain_of d readable

-- ---- the text

shallow_of : (d : Data) → is_readable d ≡ true → depth d ≤ 127
shallow_of d h = at_most (depth d) 127 (both (not (has_float d)) (nat_le (depth d) 127) h).1

long_of : (n : ℕ) → 16384 < n → nat_le n 16384 ≡ false
long_of n h = grind (arith, nat_tests)

few_of : (n : ℕ) → n ≤ 16384 → nat_le n 16384 ≡ true
few_of n h = grind (arith, nat_tests)

-- the text that was written is too long
pub is_long : (d : Data) (s : String Global) → is_readable d ≡ true
    → (has_float d ≡ false → string_bytes s ≡ compact_text d) → 16384 < string_len s → is_short d ≡ false
is_long d s readable text h =
    rw (text (plain_of d readable)) at (long_of (length (string_bytes s)) (rw s.bytes.ok.0 at h))

-- it isn't
pub is_few : (d : Data) (s : String Global) → is_readable d ≡ true
    → (has_float d ≡ false → string_bytes s ≡ compact_text d) → string_len s ≤ 16384 → is_short d ≡ true
is_few d s readable text h =
    rw (text (plain_of d readable)) at (few_of (length (string_bytes s)) (rw s.bytes.ok.0 at h))

-- an object that is made of a value and the text that was written for it
pub kept : (kind : Kind) (d e : Data) (s : String Global) → e ≡ d → object_fault kind d ≡ None → is_readable d ≡ true
    → (has_float d ≡ false → string_bytes s ≡ compact_text d) → (depth d ≤ 127 → read (string_bytes s) ≡ Some d)
    → IsKeptText (record { kind = kind; value = e }) (string_bytes s)
unfolding object_text
kept kind d e s same fault readable text reads = rw same record {
  fit = fault;
  written = text (plain_of d readable);
  reads_back = body_json-read (string_bytes s) d (IsUtf8-string_bytes s) (reads (shallow_of d readable))
      (plain_of d readable);
}

-- ---- with a URL

put-no_float_at : (o : Ordering) (k l s : List ℕ) (d : Data) (ms more : Members)
    → (has_float d || members_have_float ms) ≡ false → (has_float d || members_have_float more) ≡ false
    → members_have_float (match_ordering o (member k (string s) (member l d ms)) (member l (string s) ms)
    (member l d more)) ≡ false
put-no_float_at Less k l s d ms more h g = h
put-no_float_at Equal k l s d ms more h g = rest (has_float d) (members_have_float ms) h
  where
    rest : (a b : Bool) → (a || b) ≡ false → b ≡ false
    rest true b e = cc
    rest false b e = e
put-no_float_at Greater k l s d ms more h g = g

put-no_float : (k s : List ℕ) (ms : Members) → members_have_float ms ≡ false
    → members_have_float (put k (string s) ms) ≡ false
put-no_float k s no_members h = refl
put-no_float k s (member l d ms) h =
    put-no_float_at (slice_cmp nat_cmp k l) k l s d ms (put k (string s) ms) h
    (grown (has_float d) (members_have_float ms) (members_have_float (put k (string s) ms)) h (put-no_float k s ms))
  where
    grown : (a b e : Bool) → (a || b) ≡ false → (b ≡ false → e ≡ false) → (a || e) ≡ false
    grown true b e h g = cc
    grown false b e h g = g h

put_url-no_float : (url : List ℕ) (d : Data) → has_float d ≡ false → has_float (put_url url d) ≡ false
put_url-no_float url null h = refl
put_url-no_float url (boolean b) h = refl
put_url-no_float url (number n) h = h
put_url-no_float url (string s) h = refl
put_url-no_float url (array ds) h = h
put_url-no_float url (object ms) h = put-no_float (codes "url") url ms h

with_url-no_float_at : (url : Option (List ℕ)) (d : Data) → has_float d ≡ false
    → has_float (unwrap_or (option_map (λ u. put_url u d) url) d) ≡ false
with_url-no_float_at None d h = h
with_url-no_float_at (Some url) d h = put_url-no_float url d h

-- what is kept has no float with its URL either
pub with_url-no_float : (o : KeptObject) (n : ℕ) → object_fault o.kind o.value ≡ None
    → has_float (with_url_data o n) ≡ false
unfolding with_url_data
with_url-no_float o n fault = with_url-no_float_at (url_of o.kind n) o.value (fit-no_float o.kind o.value fault)

-- the value with a URL that was made for it
pub with_url-is : (o : KeptObject) (n : ℕ) (d : Data) (url : Option (List ℕ)) → d ≡ o.value → url ≡ url_of o.kind n
    → unwrap_or (option_map (λ u. put_url u d) url) d ≡ with_url_data o n
unfolding with_url_data
with_url-is o n d url same is = rw (same, is) refl
