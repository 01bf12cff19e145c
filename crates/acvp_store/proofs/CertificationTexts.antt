-- The text of a certification, and what it reads as.
use Rattle.std.proofs.Common.{◌≡◌, ◌≤◌, ◌<◌, ◌^◌, ℕ, List, ◌++◌, codes, decimal, Some, Ok, Err, Result, IfOk, String}
use Rattle.std.proofs.Common.{Global, string_bytes, false, refl, sym, ap, subst, ◌∙◌, arith}
use Rattle.std.proofs.lemmas.Fmt.{decimal_injective}
use Rattle.serde_json.specs.Data.{Data, depth}
use Rattle.serde_json.specs.Read.{read, max_depth}
use Rattle.serde_json.specs.Written.{has_float, compact_text}
use Rattle.acvp_caps.specs.Json.{number_at, text_at}
use Rattle.acvp_registry.specs.Url.{IsUrl, url_front}
use Rattle.acvp_registry.proofs.JsonLemmas.{body_json-read}
use Rattle.acvp_tables.specs.declared.rows.RequestBody.TheVariants as body
use Rattle.acvp_tables.specs.declared.rows.Certification.{Certification}
use Rattle.acvp_store.proofs.Words.{append_cancel_left, body_json, BodyReads, certification_data, Environment}
use Rattle.acvp_store.proofs.Words.{FitsCertification, IsUtf8-string_bytes, Kind, Module}

shallow : (c : Certification) → depth (certification_data c) ≤ max_depth
shallow c = omega arith

pub certification_reads : (c : Certification) (d : Data) (s : String Global) → c.«module» < 2 ^ 64
    → c.environment < 2 ^ 64 → d ≡ certification_data c → (has_float d ≡ false → string_bytes s ≡ compact_text d)
    → (depth d ≤ max_depth → read (string_bytes s) ≡ Some d)
    → BodyReads (body.Certification c)
certification_reads c d s fits_module fits_environment is text reads =
    let here : (e : Data) → d ≡ e → (depth e ≤ max_depth) → has_float e ≡ false → body_json (compact_text e) ≡ Some e =
    λ e same low plain. subst (λ x. body_json x ≡ Some e) (rw same at text plain)
    (body_json-read (string_bytes s) e (IsUtf8-string_bytes s) (rw same at reads low) plain) in
    (here (certification_data c) is (shallow c) refl, fits_module, fits_environment)

pub text_reads : {E : Type 0} (c : Certification) (d : Data) (r : Result (String Global) E) → c.«module» < 2 ^ 64
    → c.environment < 2 ^ 64 → d ≡ certification_data c
    → IfOk r (λ s. has_float d ≡ false → string_bytes s ≡ compact_text d)
    → IfOk r (λ s. depth d ≤ max_depth → read (string_bytes s) ≡ Some d)
    → IfOk r (λ _. BodyReads (body.Certification c))
text_reads c d (Ok s) fits_module fits_environment is text reads =
    certification_reads c d s fits_module fits_environment is text reads
text_reads c d (Err e) fits_module fits_environment is text reads = tt

-- ---- what is read of it

module_at : (c : Certification)
    → text_at (codes "moduleUrl") (certification_data c) ≡ Some (codes "/acvp/v1/modules/" ++ decimal c.«module»)
module_at c = refl

environment_at : (c : Certification)
    → text_at (codes "oeUrl") (certification_data c) ≡ Some (codes "/acvp/v1/oes/" ++ decimal c.environment)
environment_at c = refl

session_at : (c : Certification) → number_at (codes "session") (certification_data c) ≡ Some c.session
session_at c = refl

same_number : (kind : Kind) (place : List ℕ) (m n : ℕ) → url_front kind ≡ Some place → n < 2 ^ 64
    → IsUrl kind m (place ++ decimal n) → m ≡ n
same_number kind place m n at small is =
    let same : is.0 ≡ place = let both : Some is.0 ≡ Some place = sym is.1 ∙ at in cc in
    let url : place ++ decimal n ≡ place ++ decimal m = is.3 ∙ ap (λ front. front ++ decimal m) same in
    let low : m < 10 ^ 19 = is.2 in
    decimal_injective m n (omega arith) small (sym (append_cancel_left place (decimal n) (decimal m) url))

-- the value of its text is its own
value_is : (c : Certification) (d : Data) (text : List ℕ) → body_json text ≡ Some d → BodyReads (body.Certification c)
    → text ≡ compact_text (certification_data c) → d ≡ certification_data c
value_is c d text is reads written = let both : Some d ≡ Some (certification_data c) = sym is ∙ ap body_json written
    ∙ reads.0 in cc

pub same_certification : (c : Certification) (d : Data) (text : List ℕ) (m e s : ℕ) → body_json text ≡ Some d
    → ((url : List ℕ) → text_at (codes "moduleUrl") d ≡ Some url → IsUrl Module m url)
    → ((url : List ℕ) → text_at (codes "oeUrl") d ≡ Some url → IsUrl Environment e url)
    → number_at (codes "session") d ≡ Some s → BodyReads (body.Certification c)
    → text ≡ compact_text (certification_data c)
    → record { «module» = m; environment = e; session = s } ≡ c
same_certification c d text m e s is at_module at_environment at_session reads written =
    let same = value_is c d text is reads written in
    let modules = same_number Module (codes "/acvp/v1/modules/") m c.«module» refl reads.1
    (at_module _ (ap (text_at (codes "moduleUrl")) same ∙ module_at c)) in
    let environments = same_number Environment (codes "/acvp/v1/oes/") e c.environment refl reads.2
    (at_environment _ (ap (text_at (codes "oeUrl")) same ∙ environment_at c)) in
    let found : Some s ≡ Some c.session = sym at_session ∙ ap (number_at (codes "session")) same ∙ session_at c in
    let sessions : s ≡ c.session = cc in
    λ i. record { «module» = modules i; environment = environments i; session = sessions i }

-- ---- a text in which something isn't found is that of none

module _ (c : Certification) (d : Data) (text : List ℕ) (is : body_json text ≡ Some d)
    (reads : BodyReads (body.Certification c)) (fits : FitsCertification c)
    (written : text ≡ compact_text (certification_data c)) where
  pub has_module : ((url : List ℕ) → text_at (codes "moduleUrl") d ≡ Some url → (number : ℕ)
      → ¬ IsUrl Module number url) → ⊥
  has_module none = none _ (ap (text_at (codes "moduleUrl")) (value_is c d text is reads written)
      ∙ module_at c) c.«module» (codes "/acvp/v1/modules/", refl, fits.0, refl)

  pub has_environment : ((url : List ℕ) → text_at (codes "oeUrl") d ≡ Some url → (number : ℕ)
      → ¬ IsUrl Environment number url) → ⊥
  has_environment none = none _ (ap (text_at (codes "oeUrl")) (value_is c d text is reads written)
      ∙ environment_at c) c.environment (codes "/acvp/v1/oes/", refl, fits.1, refl)
