-- The registration of what a request asks for.
use Rattle.std.proofs.Common.{inl, inr, ◌≡◌, ◌<◌, ◌^◌, ℕ, List, [], ◌∷◌, ◌++◌, append-nil, map, Bool, true, false}
use Rattle.std.proofs.Common.{Option, Some, None, Ok, slice_get, refl, sym, ap, subst, ◌∙◌, arith}
use Rattle.std.specs.Prelude.{◌==◌, ◌&&◌, if◌then◌else◌}
use Rattle.sqlite.specs.Source.TheVariants as source
use Rattle.acvp_tables.specs.declared.rows.RequestBody.TheVariants as body
use Rattle.acvp_store.proofs.Words.{all-filter, all-permutation, AllByRecursion, approved_objects, AreKept, body_number}
use Rattle.acvp_store.proofs.Words.{body_text, cases_Bool, cast_row, Chosen, Database, Does, edit_of, Enforced, filter}
use Rattle.acvp_store.proofs.Words.{HoldsObjects, Insert, IsOfKind, IsPermutation, IsPermutation-sym, kind_number}
use Rattle.acvp_store.proofs.Words.{Layout, nat_lt, nat_tests, new_objects, Null, object_columns, object_table}
use Rattle.acvp_store.proofs.Words.{object_tree, ObjectRow, one_permutation, overlay, Registers, request_at}
use Rattle.acvp_store.proofs.Words.{request_key, request_row, request_tree, RequestBody, RequestRow, Row, schema_of}
use Rattle.acvp_store.proofs.Words.{State, Tally, Text, Trees, whole, Writes}
use Rattle.acvp_store.proofs.Effects.{inserted_rows, under_schema}
use Rattle.acvp_store.proofs.Entries.{puts}
use Rattle.acvp_store.proofs.Idle.{applied}
use Rattle.acvp_store.proofs.Keyed.{none_left, keyed, few_keyed, keyed_same, find_is}
use Rattle.acvp_store.proofs.Parts.{cast_null, cast_whole, both_true}
use Rattle.acvp_store.proofs.SelectedRows.{test_equals, test_less, selected_by}
use Rattle.acvp_store.proofs.Writings.{Effects, ObjectRegistered, register_query, writing_command}

abbrev is_registration : RequestRow → Bool
is_registration r = nat_lt (body_number r.body) 4

abbrev row_for : ℕ → RequestRow → Row
row_for number r = Null ∷ whole (body_number r.body) ∷ whole number ∷ whole r.account ∷ Text (body_text r.body) ∷ []

abbrev row_of_body : ℕ → ℕ → RequestBody → Row
row_of_body number account b = Null ∷ whole (body_number b) ∷ whole number ∷ whole account ∷ Text (body_text b) ∷ []

passing : (n : ℕ) (xs : List RequestRow)
    → filter (λ r. (r.number == n) && is_registration r) xs ≡ filter is_registration (keyed request_key n xs)
passing n [] = refl
passing n (x ∷ xs) = elim (cases_Bool (x.number == n)) [
  | inr apart ↦ rw apart (passing n xs)
  | inl same ↦ elim (cases_Bool (is_registration x)) [
    | inl hit ↦ rw (same, hit) (ap (λ l. x ∷ l) (passing n xs))
    | inr miss ↦ rw (same, miss) (passing n xs)
  ]
]

abbrev if_registered : ℕ → ℕ → RequestBody → List Row
if_registered number account b = if nat_lt (body_number b) 4 then row_of_body number account b ∷ [] else []

mapped : (number : ℕ) (a : RequestRow)
    → map (row_for number) (filter is_registration (a ∷ [])) ≡ if_registered number a.account a.body
mapped number a = elim (cases_Bool (is_registration a)) [
  | inl hit ↦ rw hit refl
  | inr miss ↦ rw miss refl
]

cast_given : (o : ObjectRow) → cast_row (object_table 5) (Null ∷ object_columns o) ≡ Null ∷ object_columns o
cast_given o = rw (cast_null, cast_whole (kind_number o.object.kind), cast_whole o.number, cast_whole o.account) refl

module _ (layout : Layout) (number : ℕ) (trees next : Trees) (objects : List ObjectRow)
    (h : HoldsObjects (trees object_tree) objects) where
  abbrev WritesFrom : List Row → Type 0
  WritesFrom rows = Writes (schema_of layout) Enforced trees (edit_of trees (object_table 5) [] Chosen 0 rows) (Ok next)

  nothing : WritesFrom [] → HoldsObjects (next object_tree) (objects ++ [])
  nothing wrote = rw append-nil
      (subst (λ rows. HoldsObjects rows objects)
      (sym (applied layout trees next (edit_of trees (object_table 5) [] Chosen 0 []) wrote).rows) h)

  of_body : (account : ℕ) (b : RequestBody) (rows : List Row) → IsOfKind b
      → IsPermutation (if_registered number account b) rows → WritesFrom rows
      → HoldsObjects (next object_tree) (objects ++ new_objects account b number)
  of_body account (body.Registration o) rows kind same wrote =
      let hit : nat_lt (kind_number o.kind) 4 ≡ true = grind (arith, nat_tests, kind) in
      let one = one_permutation (row_of_body number account (body.Registration o)) rows (rw hit at same) in
      puts object_columns layout (object_table 5) (record { number = number; account = account; object = o })
      (cast_given (record { number = number; account = account; object = o })) trees next objects h
      (subst WritesFrom one wrote)
  of_body account (body.Certification c) rows kind same wrote = nothing (subst WritesFrom (none_left rows same) wrote)

  registered : (n : ℕ) (requests : List RequestRow)
      (held : AreKept request_key request_row (trees request_tree) requests)
      → AllByRecursion (λ (r : RequestRow). IsOfKind r.body) requests → (rows : List Row)
      → IsPermutation (map (row_for number) (filter (λ r. (r.number == n) && is_registration r) held.ordered)) rows
      → WritesFrom rows → HoldsObjects (next object_tree)
      (objects ++ approved_objects (request_at n requests) number)
  registered n requests held kinds rows found wrote =
      let same = keyed_same request_key n held.ordered requests held.rising held.same in
      let first : request_at n requests ≡ slice_get (keyed request_key n held.ordered) 0 =
      find_is request_key n requests ∙ ap (λ l. slice_get l 0) (sym same) in
      let its = subst (λ l. IsPermutation (map (row_for number) l) rows) (passing n held.ordered) found in
      elim (few_keyed request_key n held.ordered held.rising) [
        | inl none ↦
            let no_request : request_at n requests ≡ None = first ∙ ap (λ l. slice_get l 0) none in
            let no_row = none_left rows
            (subst (λ l. IsPermutation (map (row_for number) (filter is_registration l)) rows) none its) in
            subst (λ o. HoldsObjects (next object_tree) (objects ++ approved_objects o number)) (sym no_request)
            (nothing (subst WritesFrom no_row wrote))
        | inr one ↦
            let a = one.0 in
            let the_request : request_at n requests ≡ Some a = first ∙ ap (λ l. slice_get l 0) one.1 in
            let all = all-filter (λ (r : RequestRow). IsOfKind r.body) (λ r. r.number == n) held.ordered
            (all-permutation (λ (r : RequestRow). IsOfKind r.body) requests held.ordered
            (IsPermutation-sym _ _ held.same) kinds) in
            let kind : IsOfKind a.body = (subst (AllByRecursion (λ (r : RequestRow). IsOfKind r.body)) one.1 all).0 in
            let row = subst (λ l. IsPermutation l rows) (mapped number a)
            (subst (λ l. IsPermutation (map (row_for number) (filter is_registration l)) rows) one.1 its) in
            subst (λ o. HoldsObjects (next object_tree) (objects ++ approved_objects o number)) (sym the_request)
            (of_body a.account a.body rows kind row wrote)
      ]

-- ---- the statement

abbrev pub register_params : ℕ → ℕ → Row
register_params n number = whole n ∷ whole number ∷ []

registers : (layout : Layout) (limit : Option ℕ) (text : List ℕ) (n number : ℕ) → number < 2 ^ 63
    → (trees : Trees) (tally : Tally) (after : Database)
    → Does limit (record { keys = Enforced; in_doubt = false; may_wait = false }) (register_params n number)
    (record { schema = schema_of layout; trees = trees }) text None
    (Insert 4 (source.Query (record { lets = []; body = register_query }))) (Ok (tally, after))
    → Registers layout n number (record { schema = schema_of layout; trees = trees }) after
registers layout limit text n number low trees tally after does =
    let it = inserted_rows layout limit (object_table 5) (register_params n number) trees tally after 4
    (source.Query (record { lets = []; body = register_query })) does in
    record {
      schema = it.2.schema;
      fits = low;
      kept = λ requests objects kinds held h.
          let found = selected_by (register_params n number) request_row
          (λ r. (r.number == n) && is_registration r) register_query.filter
          (λ r. both_true _ _ (r.number == n) (is_registration r) (test_equals r.number n)
          (test_less (body_number r.body) 4)) register_query.collations request_tree register_query.project
          (row_for number) (λ r. refl) (overlay trees []) held.kept.ordered it.0 held.kept.rows_are
          (it.1.answer Null) in
          registered layout number trees after.trees objects h n requests held.kept kinds it.0 found it.2.writes;
      others = (applied layout trees after.trees (edit_of trees (object_table 5) [] Chosen 0 it.0) it.2.writes).tables;
    }

pub register_effect : (layout : Layout) (old : State) (n number : ℕ) → number < 2 ^ 63
    → Effects ObjectRegistered layout (register_params n number) old (Registers layout n number)
register_effect layout old n number low =
    under_schema (schema_of layout) old (register_params n number) [] (writing_command ObjectRegistered layout)
    (Registers layout n number)
    (λ limit trees tally after does. registers layout limit [] n number low trees tally after does)
