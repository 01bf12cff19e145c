-- What the requests of well numbered rows ask to register.
use Rattle.std.proofs.Common.{inl, inr, ◌≡◌, ◌<◌, ℕ, List, [], ◌∷◌, Bool, true, false, not, refl, arith}
use Rattle.std.specs.Prelude.{◌==◌, ◌&&◌}
use Rattle.acvp_registry.specs.Object.{is_fit, object_fault}
use Rattle.acvp_tables.specs.State.{State, state_of, own, IsWellNumbered}
use Rattle.acvp_tables.specs.declared.rows.RequestBody.TheVariants as body
use Rattle.acvp_store.proofs.Words.{AllByRecursion, AreWellNumbered, cases_Bool, Certification, Content, Environment}
use Rattle.acvp_store.proofs.Words.{filter, is_some, is_sound_body, IsOfKind, KeptObject, Kind, kind_number, list_all}
use Rattle.acvp_store.proofs.Words.{Module, nat_tests, RequestBody, RequestRow, Vendor}

pub first_of : (a b : Bool) → (a && b) ≡ true → a ≡ true
first_of true b h = refl
first_of false b h = absurd (cc)

pub then_of : (a b : Bool) → (a && b) ≡ true → b ≡ true
then_of true b h = h
then_of false b h = absurd (cc)

registered_kind : (o : KeptObject) → not (is_some (object_fault o.kind o.value)) ≡ true → kind_number o.kind < 4
unfolding object_fault is_fit
registered_kind o h = go o.kind h
  where
    go : (kind : Kind) → not (is_some (object_fault kind o.value)) ≡ true → kind_number kind < 4
    go Vendor h = omega arith
    go Module h = omega arith
    go Environment h = omega arith
    go Certification h = absurd (cc)

body_kind : (mine : State) (b : RequestBody) → is_sound_body mine b ≡ true → IsOfKind b
body_kind mine (body.Registration o) h = registered_kind o (first_of _ _ h)
body_kind mine (body.Certification c) h = tt

-- a test that holds of the rows of each account, of its own rows
module _ (test : ℕ → RequestBody → Bool) where
  abbrev of_account : ℕ → List RequestRow → Bool
  of_account u rows = list_all (λ (r : RequestRow). test u r.body) (filter (λ r. r.account == u) rows)

  tail_holds : (x : RequestRow) (rows : List RequestRow) (u : ℕ) → of_account u (x ∷ rows) ≡ true
      → of_account u rows ≡ true
  tail_holds x rows u h = elim (cases_Bool (x.account == u)) [
    | inl same ↦ then_of _ _ (rw same at h)
    | inr apart ↦ rw apart at h
  ]

  head_holds : (x : RequestRow) (rows : List RequestRow) → of_account x.account (x ∷ rows) ≡ true
      → test x.account x.body ≡ true
  head_holds x rows h = let same : (x.account == x.account) ≡ true = grind (arith, nat_tests) in
      first_of _ _ (rw same at h)

  each : (rows : List RequestRow) → ((u : ℕ) → of_account u rows ≡ true)
      → AllByRecursion (λ (r : RequestRow). test r.account r.body ≡ true) rows
  each [] h = tt
  each (x ∷ rows) h = (head_holds x rows (h x.account), each rows (λ u. tail_holds x rows u (h u)))

all_kinds : (c : Content) (rows : List RequestRow)
    → AllByRecursion (λ (r : RequestRow). is_sound_body (own r.account (state_of c)) r.body ≡ true) rows
    → AllByRecursion (λ (r : RequestRow). IsOfKind r.body) rows
all_kinds c [] h = tt
all_kinds c (x ∷ rows) h = (body_kind (own x.account (state_of c)) x.body h.0, all_kinds c rows h.1)

pub kinds_of : (c : Content) → AreWellNumbered c → AllByRecursion (λ (r : RequestRow). IsOfKind r.body) c.requests
unfolding IsWellNumbered own state_of
kinds_of c sound = all_kinds c c.requests
    (each (λ u b. is_sound_body (own u (state_of c)) b) c.requests (λ u. (sound u).asked))
