-- What is told of a request that is refused before it reaches the desk.
use Rattle.std.proofs.Common.{◌≡◌, ℕ, List, Option, None, Some, inl, inr, refl}
use Rattle.acvp_policy.specs.declared.rule.Rule.{Rule}
use Rattle.acvp_policy.specs.declared.rule.Rule.TheVariants.{NoMethod}
use Rattle.acvp_desk.specs.declared.keys.Keys.{Keys}
use Rattle.acvp_http.specs.Reply.{method_refusal, refusal}
use Rattle.acvp_http.specs.Serve.{RefusesAtOnce}
use Rattle.acvp_http.specs.Told.{Tells}
use Rattle.acvp_http.specs.declared.path.Path.{Path}
use Rattle.acvp_http.specs.declared.told.Told.{Told}

abbrev pub at_once : Rule → Told
at_once rule = record { asked = None; account = None; refused = Some rule }

module _ {T : Type 0} (t : T) (keys : Keys) (m : ℕ) (bytes reply : List ℕ) (told : Told)
    (refuses : RefusesAtOnce m bytes reply) where
  pub told_refused : (rule : Rule) (date : Option (List ℕ)) → reply ≡ refusal date rule → told ≡ at_once rule
      → Tells keys m bytes reply t t told
  told_refused rule date shown is = rw is (record { shows = inl (date, shown); names = inl (refuses, refl, refl) })

  pub told_method : (date : List ℕ) (path : Path) → reply ≡ method_refusal date path → told ≡ at_once NoMethod
      → Tells keys m bytes reply t t told
  told_method date path shown is =
      rw is (record { shows = inr (refl, date, path, shown); names = inl (refuses, refl, refl) })
