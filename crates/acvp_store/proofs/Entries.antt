-- Rows under numbers that the database chose, and the members that they are of.
use Rattle.std.proofs.Common.{inl, inr, ◌≡◌, ◌<ℤ◌, ℕ, ℤ, int_eq, is_eq, pos, List, [], ◌∷◌, ◌++◌, map, Bool, true}
use Rattle.std.proofs.Common.{false, not, Ok, refl, sym, ap, subst, ◌∙◌, arith}
use Rattle.std.specs.Prelude.{◌&&◌, ◌+ℤ◌}
use Rattle.sqlite_rules.specs.Edit.{numbered as numbered_rows}
use Rattle.acvp_store.proofs.Words.{agree, all_both, AllByRecursion, ascending-filter, cases_Bool, cast_row, Chosen}
use Rattle.acvp_store.proofs.Words.{clashes, differ, edit_of, Enforced, Entry, entry_row, filter, filter-map, fold}
use Rattle.acvp_store.proofs.Words.{HoldsEntries, id_in, ids_of, Int, ints, IsAscending, IsPermutation}
use Rattle.acvp_store.proofs.Words.{IsPermutation-append, IsPermutation-filter, IsPermutation-refl, Layout, list_any}
use Rattle.acvp_store.proofs.Words.{list_any-IsPermutation, map-map, next_rowid, Null, plain, pull_back, put_all}
use Rattle.acvp_store.proofs.Words.{put_row, Row, rowid, schema_of, Table, Trees, value_cmp-Int, without_all}
use Rattle.acvp_store.proofs.Words.{without_rowid, Writes}
use Rattle.acvp_store.proofs.Idle.{applied}
use Rattle.acvp_store.proofs.Parts.{and_true}
use Rattle.acvp_store.proofs.SelectedRows.{above_is, below_is, itself_is, test_differs}

module _ {A : Type 0} (columns : A → Row) where
  abbrev stored : Entry A → Row
  stored = entry_row columns

  abbrev pub Rising : List (Entry A) → Type 0
  Rising = IsAscending (λ a b. a.id <ℤ b.id)

  -- ---- the number that is chosen

  abbrev pub next_from : ℤ → List (Entry A) → ℤ
  next_from d [] = d
  next_from d (e ∷ es) = next_from (e.id +ℤ pos 1) es

  next_is_from : (d : ℤ) (es : List (Entry A)) → fold (λ _ r. id_in (rowid r) +ℤ pos 1) d (map stored es)
      ≡ next_from d es
  next_is_from d [] = refl
  next_is_from d (e ∷ es) = next_is_from (e.id +ℤ pos 1) es

  next_is : (es : List (Entry A)) → next_rowid (map stored es) ≡ next_from (pos 1) es
  next_is es = next_is_from (pos 1) es

  over_last : (d m : ℤ) (es : List (Entry A)) → m <ℤ d → AllByRecursion (λ b. m <ℤ b.id) es → m <ℤ next_from d es
  over_last d m [] low h = low
  over_last d m (e ∷ es) low h = over_last (e.id +ℤ pos 1) m es (let k = h.0 in omega (arith, ints)) h.1

  -- it is above all others
  all_below_from : (d : ℤ) (es : List (Entry A)) → Rising es → AllByRecursion (λ e. e.id <ℤ next_from d es) es
  all_below_from d [] rise = tt
  all_below_from d (e ∷ es) rise =
      (over_last (e.id +ℤ pos 1) e.id es (omega (arith, ints)) rise.0, all_below_from (e.id +ℤ pos 1) es rise.1)

  put_last : (new : Entry A) (es : List (Entry A)) → AllByRecursion (λ e. e.id <ℤ new.id) es
      → put_row (stored new) (map stored es) ≡ map stored (es ++ new ∷ [])
  put_last new [] h = refl
  put_last new (e ∷ es) h =
      rw (value_cmp-Int e.id new.id, below_is e.id new.id h.0) (ap (λ rows. stored e ∷ rows) (put_last new es h.1))

  rising_last : (new : Entry A) (es : List (Entry A)) → Rising es → AllByRecursion (λ e. e.id <ℤ new.id) es
      → Rising (es ++ new ∷ [])
  rising_last new [] rise h = (tt, tt)
  rising_last new (e ∷ es) rise h = (beyond es rise.0, rising_last new es rise.1 h.1)
    where
      beyond : (es : List (Entry A)) → AllByRecursion (λ b. e.id <ℤ b.id) es
          → AllByRecursion (λ b. e.id <ℤ b.id) (es ++ new ∷ [])
      beyond [] k = (h.0, tt)
      beyond (x ∷ es) k = (k.0, beyond es k.1)

  rows_last : (new : Entry A) (es : List (Entry A))
      → map (λ (e : Entry A). e.row) (es ++ new ∷ []) ≡ map (λ (e : Entry A). e.row) es ++ new.row ∷ []
  rows_last new [] = refl
  rows_last new (e ∷ es) = ap (λ r. e.row ∷ r) (rows_last new es)

  pub map_last : (new : Entry A) (es : List (Entry A)) → map stored (es ++ new ∷ []) ≡ map stored es ++ stored new ∷ []
  map_last new [] = refl
  map_last new (e ∷ es) = ap (λ r. stored e ∷ r) (map_last new es)

  numbered_next : (r : Row) (new : A) (es : List (Entry A)) (rows : List Row) → rows ≡ map stored es
      → r ≡ Null ∷ columns new → numbered_rows Chosen rows (r ∷ [])
      ≡ stored (record { id = next_from (pos 1) es; row = new }) ∷ []
  numbered_next r new es rows has is = rw (is, has, next_is es) refl

  -- ---- a row that is put in

  abbrev pub entry_for : List (Entry A) → A → Entry A
  entry_for es new = record { id = next_from (pos 1) es; row = new }

  module _ (layout : Layout) (table : Table) (new : A)
      (casts : cast_row table (Null ∷ columns new) ≡ Null ∷ columns new) (trees next : Trees) (list : List A)
      (h : HoldsEntries columns (trees table.tree) list)
      (wrote : Writes (schema_of layout) Enforced trees (edit_of trees table [] Chosen 0 ((Null ∷ columns new) ∷ []))
      (Ok next)) where
    below : AllByRecursion (λ e. e.id <ℤ (entry_for h.entries new).id) h.entries
    below = all_below_from (pos 1) h.entries h.rising

    pub rows_put : next table.tree ≡ map stored (h.entries ++ entry_for h.entries new ∷ [])
    rows_put =
        let it = applied layout trees next (edit_of trees table [] Chosen 0 ((Null ∷ columns new) ∷ [])) wrote in
        let news = numbered_next (cast_row table (Null ∷ columns new)) new h.entries
        (trees table.tree) h.rows_are casts in
        it.rows ∙ ap (put_all (trees table.tree)) news
        ∙ rw h.rows_are (put_last (entry_for h.entries new) h.entries below)

    pub puts : HoldsEntries columns (next table.tree) (list ++ new ∷ [])
    puts = record {
      entries = h.entries ++ entry_for h.entries new ∷ [];
      rows_are = rows_put;
      rising = rising_last (entry_for h.entries new) h.entries h.rising below;
      same = rw (rows_last (entry_for h.entries new) h.entries)
          (IsPermutation-append _ _ (new ∷ []) (new ∷ []) h.same (IsPermutation-refl _));
    }

    -- where no row clashes with it, none of the members had its key
    module _ (places : List ℕ) (same : A → Bool) (agrees : (a : A) (i j : ℤ)
        → agree plain places (Int i ∷ columns a) places (Int j ∷ columns new) ≡ same a) where
      clash_is : (e : Entry A) → e.id <ℤ (entry_for h.entries new).id
          → (agree plain places (stored e) places (stored (entry_for h.entries new)) && differ (rowid (stored e))
          (rowid (stored (entry_for h.entries new)))) ≡ same e.row
      clash_is e low = rw (
        agrees e.row e.id (entry_for h.entries new).id,
        test_differs e.id (entry_for h.entries new).id low,
      ) (and_true (same e.row))

      none_clash : (es : List (Entry A)) (more : List Row)
          → AllByRecursion (λ e. e.id <ℤ (entry_for h.entries new).id) es
          → clashes plain places (map stored es ++ more) (stored (entry_for h.entries new)) ≡ false
          → list_any same (map (λ (e : Entry A). e.row) es) ≡ false
      none_clash [] more low clear = refl
      none_clash (e ∷ es) more low clear = elim (cases_Bool (same e.row)) [
        | inl there ↦ absurd (let k = rw (clash_is e low.0, there) at clear in cc)
        | inr apart ↦ rw apart (none_clash es more low.1 (rw (clash_is e low.0, apart) at clear))
      ]

      pub was_free : clashes plain places (next table.tree) (stored (entry_for h.entries new)) ≡ false
          → list_any same list ≡ false
      was_free clear =
          let rows = rows_put ∙ map_last (entry_for h.entries new) h.entries in
          sym (list_any-IsPermutation same _ list h.same)
          ∙ none_clash h.entries (stored (entry_for h.entries new) ∷ []) below (rw rows at clear)

  -- ---- rows that are taken out

  without_id : (k : ℤ) (es : List (Entry A))
      → without_rowid k (map stored es) ≡ map stored (filter (λ e. not (int_eq e.id k)) es)
  without_id k [] = refl
  without_id k (e ∷ es) = elim (cases_Bool (int_eq e.id k)) [
    | inl same ↦ rw (ap is_eq (value_cmp-Int e.id k) ∙ same, same) (without_id k es)
    | inr apart ↦ rw (ap is_eq (value_cmp-Int e.id k) ∙ apart, apart) (ap (λ rows. stored e ∷ rows) (without_id k es))
  ]

  abbrev gone : List ℤ → List (Entry A) → List (Entry A)
  gone [] es = es
  gone (k ∷ ks) es = gone ks (filter (λ e. not (int_eq e.id k)) es)

  gone_rows : (ks : List ℤ) (es : List (Entry A)) → without_all (map stored es) ks ≡ map stored (gone ks es)
  gone_rows [] es = refl
  gone_rows (k ∷ ks) es = ap (λ rows. without_all rows ks) (without_id k es)
      ∙ gone_rows ks (filter (λ e. not (int_eq e.id k)) es)

  abbrev has_id : List ℤ → Entry A → Bool
  has_id ks e = list_any (λ k. int_eq e.id k) ks

  fused : (k : ℤ) (ks : List ℤ) (es : List (Entry A))
      → filter (λ e. not (has_id ks e)) (filter (λ e. not (int_eq e.id k)) es)
      ≡ filter (λ e. not (has_id (k ∷ ks) e)) es
  fused k ks [] = refl
  fused k ks (e ∷ es) = elim (cases_Bool (int_eq e.id k)) [
    | inl same ↦ rw same (fused k ks es)
    | inr apart ↦ elim (cases_Bool (has_id ks e)) [
      | inl there ↦ rw (apart, there) (fused k ks es)
      | inr none ↦ rw (apart, none) (ap (λ l. e ∷ l) (fused k ks es))
    ]
  ]

  none_gone : (es : List (Entry A)) → es ≡ filter (λ e. not (has_id [] e)) es
  none_gone [] = refl
  none_gone (e ∷ es) = ap (λ l. e ∷ l) (none_gone es)

  gone_is : (ks : List ℤ) (es : List (Entry A)) → gone ks es ≡ filter (λ e. not (has_id ks e)) es
  gone_is [] es = none_gone es
  gone_is (k ∷ ks) es = gone_is ks (filter (λ e. not (int_eq e.id k)) es) ∙ fused k ks es

  abbrev ids : List (Entry A) → List ℤ
  ids es = map (λ (e : Entry A). e.id) es

  none_above : (m : ℤ) (p : Entry A → Bool) (es : List (Entry A)) → AllByRecursion (λ e. m <ℤ e.id) es
      → list_any (λ k. int_eq m k) (ids (filter p es)) ≡ false
  none_above m p [] h = refl
  none_above m p (e ∷ es) h = elim (cases_Bool (p e)) [
    | inl hit ↦ rw (hit, below_is m e.id h.0) (none_above m p es h.1)
    | inr miss ↦ rw miss (none_above m p es h.1)
  ]

  -- a number is among those of the members that pass where its own passes
  id_passes : (p : Entry A → Bool) (es : List (Entry A)) → Rising es
      → AllByRecursion (λ e. has_id (ids (filter p es)) e ≡ p e) es
  id_passes p [] rise = tt
  id_passes p (x ∷ es) rise = elim (cases_Bool (p x)) [
    | inl hit ↦
        let rest : filter p (x ∷ es) ≡ x ∷ filter p es = rw hit refl in
        let own : has_id (x.id ∷ ids (filter p es)) x ≡ true = rw (itself_is x.id) refl in
        subst (λ l. AllByRecursion (λ e. has_id (ids l) e ≡ p e) (x ∷ es)) (sym rest) (
          own ∙ sym hit,
          all_both (λ (e : Entry A). x.id <ℤ e.id) (λ e. has_id (ids (filter p es)) e ≡ p e)
              (λ e. has_id (x.id ∷ ids (filter p es)) e ≡ p e)
              (λ e low is. rw (above_is x.id e.id low) is) es rise.0 (id_passes p es rise.1),
        )
    | inr miss ↦
        let rest : filter p (x ∷ es) ≡ filter p es = rw miss refl in
        subst (λ l. AllByRecursion (λ e. has_id (ids l) e ≡ p e) (x ∷ es)) (sym rest)
        (none_above x.id p es rise.0 ∙ sym miss, id_passes p es rise.1)
  ]

  all_not : (p : Entry A → Bool) (ks : List ℤ) (es : List (Entry A)) → AllByRecursion (λ e. has_id ks e ≡ p e) es
      → filter (λ e. not (has_id ks e)) es ≡ filter (λ e. not (p e)) es
  all_not p ks [] h = refl
  all_not p ks (e ∷ es) h = elim (cases_Bool (p e)) [
    | inl hit ↦ rw (h.0 ∙ hit, hit) (all_not p ks es h.1)
    | inr miss ↦ rw (h.0 ∙ miss, miss) (ap (λ l. e ∷ l) (all_not p ks es h.1))
  ]

  same_ids : (p : Entry A → Bool) (ks : List ℤ) (es : List (Entry A)) → Rising es → IsPermutation (ids (filter p es)) ks
      → (all : List (Entry A)) → AllByRecursion (λ e. has_id (ids (filter p es)) e ≡ p e) all
      → AllByRecursion (λ e. has_id ks e ≡ p e) all
  same_ids p ks es rise same [] h = tt
  same_ids p ks es rise same (e ∷ all) h =
      (sym (list_any-IsPermutation (λ k. int_eq e.id k) _ ks same) ∙ h.0, same_ids p ks es rise same all h.1)

  ids_are : (ks : List ℤ) → ids_of (map (λ k. Int k ∷ []) ks) ≡ ks
  ids_are [] = refl
  ids_are (k ∷ ks) = ap (λ l. k ∷ l) (ids_are ks)

  -- the rows whose numbers a query shows
  pub removed : (p : Entry A → Bool) (es : List (Entry A)) (rows : List Row) → Rising es
      → IsPermutation (map (λ (e : Entry A). Int e.id ∷ []) (filter p es)) rows
      → without_all (map stored es) (ids_of rows) ≡ map stored (filter (λ e. not (p e)) es)
  removed p es rows rise found =
      let back = pull_back (λ k. Int k ∷ []) _ rows found (ids (filter p es))
      (sym (map-map (λ k. Int k ∷ []) (λ (e : Entry A). e.id) (filter p es))) in
      ap (without_all (map stored es)) (ap ids_of back.2 ∙ ids_are back.0) ∙ gone_rows back.0 es
      ∙ ap (map stored) (gone_is back.0 es
      ∙ all_not p back.0 es (same_ids p back.0 es rise back.1 es (id_passes p es rise)))

  pub takes : (p : A → Bool) (trees next : Trees) (tree : ℕ) (list : List A)
      (h : HoldsEntries columns (trees tree) list) → next tree ≡ map stored (filter (λ e. not (p e.row)) h.entries)
      → HoldsEntries columns (next tree) (filter (λ a. not (p a)) list)
  takes p trees next tree list h is = record {
    entries = filter (λ e. not (p e.row)) h.entries;
    rows_are = is;
    rising = ascending-filter (λ a b. a.id <ℤ b.id) (λ e. not (p e.row)) h.entries h.rising;
    same = subst (λ xs. IsPermutation xs (filter (λ a. not (p a)) list))
        (filter-map (λ a. not (p a)) (λ (e : Entry A). e.row) h.entries)
        (IsPermutation-filter (λ a. not (p a)) _ list h.same);
  }
