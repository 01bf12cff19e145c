-- What a change of the lists says of the tables.
use Rattle.std.proofs.Common.{◌≡◌, ◌⊎◌, Result, Ok, Err, inl, sym, ap, subst, ◌∙◌}
use Rattle.std.specs.Prelude.{IfErr, OnOk, OnErr}
use Rattle.acvp_tables.specs.Calls.{Changes}
use Rattle.acvp_tables.specs.Content.{Content}
use Rattle.acvp_tables.specs.State.{AreWellNumbered}

-- a change that is made of well numbered rows, or not at all
pub made : {X E : Type 0} (faults : E → Type 0) (result : Result X E) (old new : Content) (change : Content → Content)
    → (AreWellNumbered old → OnOk result (new ≡ change old)) → OnErr result (new ≡ old) → IfErr result faults
    → Changes {T = Content} faults
    (record {
      stands = λ t c. c ≡ t;
      is_open = λ _. Unit {0};
      is_clean = λ _. Unit {0};
      leaves = λ t c d. (t ≡ c)
          ⊎ (t ≡ d);
    }) result old new change
made faults (Ok x) old new change ok err fault = record {
  fault = tt;
  was_open = λ live. live;
  was_clean = λ clean. clean;
  stays_open = λ clean live. live;
  ok = λ live c sound is. ap change is ∙ sym (ok (subst AreWellNumbered is sound));
  err = tt;
  settled = λ clean live c d sound is. inl (ok (subst AreWellNumbered is sound) ∙ sym (ap change is));
  unsettled = tt;
}
made faults (Err e) old new change ok err fault = record {
  fault = fault;
  was_open = λ live. live;
  was_clean = λ clean. clean;
  stays_open = tt;
  ok = tt;
  err = λ live c is. is ∙ sym err;
  settled = tt;
  unsettled = λ clean live c sound is. inl (err ∙ sym is);
}
