-- What the document of a certification says, of the records and of the seeds.
use Rattle.std.specs.Prelude.{◌≡◌, ◌<◌, ℕ, List, filter, Ok, Option, Some, option_map, option_and_then, slice_get}
use Rattle.std.specs.Prelude.{string_bytes}
use Rattle.std.specs.List.{AllZip}
use Rattle.std.specs.List.Sorted.{IsPermutation}
use Rattle.serde_json.specs.Written.{compact_text}
use Rattle.sqlite_trees.specs.Tree.{IsAscending}
use Rattle.acvp_answers.specs.declared.verdict.Disposition.TheVariants.{Passed}
use Rattle.acvp_caps.specs.Registered.{registered_text}
use Rattle.acvp_registry.specs.Object.{object_vendor, with_url_data}
use Rattle.acvp_registry.specs.declared.kind.Kind.TheVariants.{Vendor, Module, Environment}
use Rattle.acvp_store.specs.Ranges.{first_set, is_number_between, last_set}
use Rattle.acvp_tables.specs.Content.{Content, live_sets, object_at, session_at}
use Rattle.acvp_tables.specs.Graded.{GradedValue}
use Rattle.acvp_tables.specs.declared.rows.Certification.{Certification}
use Rattle.acvp_tables.specs.declared.rows.ObjectRow.{ObjectRow}
use Rattle.acvp_tables.specs.declared.rows.SetRow.{SetRow}
use Rattle.acvp_view.specs.Certificate.{answers_digest, approved_by, disposition_under}
use Rattle.acvp_view.specs.declared.certificate.Certificate.{Certificate}
use Rattle.acvp_view.specs.declared.certificate.CertifiedSet.{CertifiedSet}

-- ---- objects

-- the text of an object as its account reads it
abbrev pub read_text : ObjectRow → List ℕ
read_text row = compact_text (with_url_data row.object row.number)

-- the vendor that a module names
abbrev pub vendor_in : Content → ObjectRow → Option ObjectRow
vendor_in c row = option_and_then (λ number. object_at Vendor number c.objects) (object_vendor row.object)

-- ---- vector sets

-- What is said of a vector set is so: its capability reads back, its answers are there and have this digest, and under
-- the seed of its epoch they pass.
pub record IsCertifiedSet (seeds : List (List ℕ)) (row : SetRow) (set : CertifiedSet) : Type 0 where
  pub number : set.number ≡ row.number
  pub capability : registered_text (string_bytes set.capability) ≡ Ok (Some row.capability)
  pub passed : set.disposition ≡ Passed
  pub graded : GradedValue
  pub is_graded : row.graded ≡ Some graded
  pub digest : set.digest ≡ answers_digest graded.answers
  pub seed : List ℕ
  pub is_seed : slice_get seeds row.epoch ≡ Some seed
  pub anew : disposition_under seed row.number row.capability graded.answers ≡ Passed

-- these are the rows of an account's vector sets, in the order of their numbers
pub record AreSetsOf (c : Content) (account : ℕ) (rows : List SetRow) : Type 0 where
  pub same : IsPermutation rows
      (filter (λ row. is_number_between (first_set account) (last_set account) row.number) c.sets)
  pub rising : IsAscending (λ a b. a.number < b.number) rows

-- each of the session that wasn't cancelled, and no other
pub record AreCertified (seeds : List (List ℕ)) (c : Content) (account session : ℕ) (sets : List CertifiedSet)
    : Type 0 where
  pub rows : List SetRow
  pub are : AreSetsOf c account rows
  pub each : AllZip (IsCertifiedSet seeds) (live_sets session rows) sets

-- ---- the whole

-- what is said of the approved certification of a request's number is so
pub record IsCertificate (seeds : List (List ℕ)) (number : ℕ) (c : Content) (it : Certificate) : Type 0 where
  pub certification : Certification
  pub approved : approved_by number c ≡ Some (it.account, certification)
  pub request : it.request ≡ number
  pub session : it.session ≡ certification.session
  pub created : option_map (λ row. row.created) (session_at certification.session c.sessions) ≡ Some it.created
  pub «module» : option_map read_text (object_at Module certification.«module» c.objects)
      ≡ Some (string_bytes it.«module»)
  pub vendor : option_map read_text (option_and_then (vendor_in c) (object_at Module certification.«module» c.objects))
      ≡ Some (string_bytes it.vendor)
  pub environment : option_map read_text (object_at Environment certification.environment c.objects)
      ≡ Some (string_bytes it.environment)
  pub sets : AreCertified seeds c it.account it.session it.sets.items
