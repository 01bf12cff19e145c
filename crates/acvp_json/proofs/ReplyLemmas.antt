-- No reply holds a number that is kept as a float, so each has a compact text.
use Rattle.std.proofs.Common.{◌≡◌, ℕ, suc, ◌+◌, ◌<◌, List, [], ◌∷◌, ◌++◌, length, get_or, take, map, Bool, true, false}
use Rattle.std.proofs.Common.{if◌then◌else◌, Option, None, Some, unwrap_or, refl, sym, string_bytes, String, Global}
use Rattle.std.proofs.Common.{arith}
use Rattle.std.specs.List.{enumerate_from}
use Rattle.std.proofs.lemmas.List.{take_more, length-take, map-append}
use Rattle.std.proofs.lemmas.Simd.{map-map}
use Rattle.serde_json.specs.Data.{Data, null}
use Rattle.serde_json.specs.View.{view, items_of}
use Rattle.serde_json.specs.declared.value.Value.{Value}
use Rattle.serde_json.specs.Written.{has_float, items_have_float}
use Rattle.acvp_gen.specs.declared.group.GroupForm.{GroupForm}
use Rattle.acvp_gen.specs.declared.group.GroupForm.TheVariants.{Digest, MonteCarlo, Mac}
use Rattle.acvp_gen.specs.Prompt.{GroupValue}
use Rattle.acvp_answers.specs.Answer.{Answer}
use Rattle.acvp_json.specs.declared.page.Page.{Page}
use Rattle.acvp_json.specs.declared.reply_object.ReplyObject.{ReplyObject}
use Rattle.acvp_json.specs.declared.reply_object.ReplyObject.TheVariants.{ListSessions, NewSession, ReadSession}
use Rattle.acvp_json.specs.declared.reply_object.ReplyObject.TheVariants.{SessionResults, ListSets, ReadSet, SetResults}
use Rattle.acvp_json.specs.declared.reply_object.ReplyObject.TheVariants.{Expected, ReadObject, ListObjects, Request}
use Rattle.acvp_json.specs.declared.reply_object.ReplyObject.TheVariants.{ListRequests, Reviewers}
use Rattle.acvp_json.specs.Expected.{digest_data, expected_answer, expected_test, expected_group}
use Rattle.acvp_json.specs.Page.{link_data, next_offset, prev_offset, page_data}
use Rattle.acvp_json.specs.Registry.{registered_data, request_in}
use Rattle.acvp_json.specs.ReplyData.{reply_data}
use Rattle.acvp_json.specs.Urls.{list_path}
use Rattle.acvp_json.specs.declared.registered.Registered.{Registered}
use Rattle.acvp_registry.specs.Object.{with_url_data}
use Rattle.acvp_registry.specs.declared.request.PendingRequest.{PendingRequest}
use Rattle.acvp_registry.specs.declared.request.Status.{Status}
use Rattle.acvp_registry.specs.declared.request.Status.TheVariants.{Initial, Approved, Rejected}
use Rattle.acvp_answers.specs.declared.verdict.Verdict.{Verdict}
use Rattle.acvp_json.specs.SetResults.{result_data}
use Rattle.acvp_json.specs.VectorSet.{hash_test_data, mac_test_data, group_under, group_data}
use Rattle.acvp_json.specs.Written.{enveloped}

items-no_float : {X : Type 0} (f : X → Data) → ((x : X) → has_float (f x) ≡ false) → (xs : List X)
    → items_have_float (items_of (map f xs)) ≡ false
items-no_float f plain [] = refl
items-no_float f plain (x ∷ xs) = rw (plain x, items-no_float f plain xs) refl

group-no_float : (form : GroupForm) (group : GroupValue) → has_float (group_under form group) ≡ false
group-no_float Digest group = rw (items-no_float hash_test_data (λ t. refl) group.tests) refl
group-no_float MonteCarlo group = rw (items-no_float hash_test_data (λ t. refl) group.tests) refl
group-no_float (Mac sizes) group = rw (items-no_float mac_test_data (λ t. refl) group.tests) refl

answer-no_float : (form : GroupForm) (texts : List (List ℕ)) (n : ℕ) → has_float (expected_answer form texts n) ≡ false
answer-no_float Digest texts n = refl
answer-no_float MonteCarlo texts n = rw (items-no_float digest_data (λ t. refl) texts) refl
answer-no_float (Mac sizes) texts n = refl

expected-no_float : (standard : List Answer) (group : GroupValue) → has_float (expected_group standard group) ≡ false
expected-no_float standard group =
    rw (items-no_float (expected_test standard group.form) (λ t. answer-no_float group.form _ t.number) group.tests)
    refl

link-no_float : (path : List ℕ) (limit : ℕ) (offset : Option ℕ) → has_float (link_data path limit offset) ≡ false
link-no_float path limit None = refl
link-no_float path limit (Some offset) = refl

page-no_float : {X : Type 0} (f : X → Data) → ((x : X) → has_float (f x) ≡ false) → (path : List ℕ) (page : Page)
    (total : ℕ) (rows : List X) → has_float (page_data f path page total rows) ≡ false
page-no_float f plain path page total rows =
    rw (
      items-no_float f plain rows,
      link-no_float path page.limit (next_offset page total),
      link-no_float path page.limit (prev_offset page),
    ) refl

plain-no_float : (d : Data) (b : Bool) → has_float d ≡ b
    → has_float (unwrap_or (if b then None else Some d) null) ≡ false
plain-no_float d true is = refl
plain-no_float d false is = is

registered-no_float : (row : Registered) → has_float (registered_data row) ≡ false
registered-no_float row =
    let d = with_url_data row.object.now row.number in
    plain-no_float d (has_float d) refl

request-no_float : (status : Status) (approved : Option ℕ) (request : PendingRequest)
    → has_float (request_in status approved request) ≡ false
request-no_float Approved (Some number) request = refl
request-no_float Approved None request = refl
request-no_float Initial approved request = refl
request-no_float Rejected approved request = refl

pub reply-no_float : (reply : ReplyObject) → has_float (enveloped (reply_data reply)) ≡ false
unfolding reply_data
reply-no_float (ListSessions page total sessions) = rw (page-no_float _ (λ s. refl) _ page total sessions.now) refl
reply-no_float (NewSession token number created sets) = rw (items-no_float _ (λ vs. refl) sets.now) refl
reply-no_float (ReadSession session passed sets) = rw (items-no_float _ (λ vs. refl) sets.now) refl
reply-no_float (SessionResults passed sets) = rw (items-no_float _ (λ s. refl) sets.now) refl
reply-no_float (ListSets sets) = rw (items-no_float _ (λ vs. refl) sets.now) refl
reply-no_float (ReadSet sample prompts) =
    rw (items-no_float group_data (λ g. group-no_float g.form g) prompts.now.groups) refl
reply-no_float (SetResults vs disposition verdicts) = rw (items-no_float _ (λ t. refl) _) refl
reply-no_float (Expected prompts standard) =
    rw (items-no_float (expected_group standard.now) (λ g. expected-no_float standard.now g) prompts.now.groups) refl
reply-no_float (ReadObject object) = rw (registered-no_float object) refl
reply-no_float (ListObjects kind page total objects) =
    rw (page-no_float _ registered-no_float (list_path kind) page total objects.now) refl
reply-no_float (Request request) = rw (request-no_float request.status request.approved request) refl
reply-no_float (ListRequests page total requests) =
    rw (page-no_float _ (λ r. request-no_float r.status r.approved r) _ page total requests.now) refl
reply-no_float (Reviewers accounts) = rw (items-no_float _ (λ n. refl) accounts.now) refl
reply-no_float _ = refl

-- checkpoints, as texts of the program and as lists of bytes
pub checkpoints_of : (texts : List (String Global)) → map (λ t. digest_data (string_bytes t)) texts
    ≡ map digest_data (map string_bytes texts)
checkpoints_of texts = sym (map-map digest_data (λ (t : String Global). string_bytes t) texts)

-- ---- numbered elements

enumerate-append : {X : Type 0} (n : ℕ) (xs ys : List X)
    → enumerate_from n (xs ++ ys) ≡ enumerate_from n xs ++ enumerate_from (n + length xs) ys
enumerate-append n [] ys = rw (let e : n + 0 ≡ n = omega arith in e) refl
enumerate-append n (x ∷ xs) ys =
    let e : n + suc (length xs) ≡ (n + 1) + length xs = omega arith in
    rw (enumerate-append (n + 1) xs ys, e) refl

-- the results of one test more
pub results-more : (done new : List Value) (verdicts : List Verdict) (i : ℕ) (verdict : Verdict) (v : Value)
    → i < length verdicts → get_or verdicts i verdict ≡ verdict → view v ≡ result_data (i + 1, verdict)
    → map view done ≡ map result_data (enumerate_from 1 (take i verdicts)) → new ≡ done ++ v ∷ []
    → map view new ≡ map result_data (enumerate_from 1 (take (i + 1) verdicts))
results-more done new verdicts i verdict v within at is so pushed =
    let e : 1 + length (take i verdicts) ≡ i + 1 = omega (arith, length-take i verdicts) in
    rw (
      pushed,
      map-append view done (v ∷ []),
      take_more verdicts i verdict within,
      enumerate-append 1 (take i verdicts) (get_or verdicts i verdict ∷ []),
      map-append result_data (enumerate_from 1 (take i verdicts)) (enumerate_from (1 + length (take i verdicts)) (get_or
          verdicts i verdict ∷ [])),
      e,
      at,
      so,
      is,
    ) refl
