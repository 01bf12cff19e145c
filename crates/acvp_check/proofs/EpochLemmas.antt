-- Epochs among the vector sets of an account, and among all.
use Rattle.std.proofs.Common.{◌≡◌, ℕ, zero, suc, ◌+◌, ◌≤◌, ◌<◌, Bool, true, false}
use Rattle.std.proofs.Common.{List, [], ◌∷◌, Some, refl, ap, sym, ◌∙◌, length, arith}
use Rattle.std.specs.Prelude.{drop, filter, ◌&&◌, ◌==◌, nat_le, nat_lt}
use Rattle.std.specs.List.{flat_map, list_all, slice_index_or}
use Rattle.std.proofs.lemmas.Bool.Decides.{nat_tests}
use Rattle.acvp_mac.specs.Conditions.{first_broken, judged}
use Rattle.acvp_desk.specs.Epochs.{AreInEpochs, is_in_its_epoch, is_no_earlier}
use Rattle.acvp_tables.specs.Content.{Content}
use Rattle.acvp_tables.specs.State.{owner_of}
use Rattle.acvp_tables.specs.declared.rows.SetRow.{SetRow}
use Rattle.acvp_tables.proofs.KeptLemmas.{list_all_weaker, list_all-filter}
use Rattle.acvp_tables.proofs.Numbers.{by_class, eqb_same}
use Rattle.acvp_check.specs.Conditions.{epoch_conditions, epoch_row_conditions, finding, is_beyond_kept}
use Rattle.acvp_check.specs.declared.finding.Finding.{Finding}
use Rattle.acvp_check.specs.declared.finding.RowKey.TheVariants as key
use Rattle.acvp_check.specs.declared.finding.Wrong.TheVariants as wrong
use Rattle.acvp_check.specs.Near.{Ascend}
use Rattle.acvp_check.specs.Order.{HaveSameRows}
use Rattle.acvp_check.specs.Rows.{rows_of}
use Rattle.acvp_check.proofs.AccountLemmas.{of_each, to_each}
use Rattle.acvp_check.proofs.CertificationLemmas.{of_kind, one}
use Rattle.acvp_check.proofs.HeldLemmas.{last_holds}
use Rattle.acvp_check.proofs.NearLemmas.{is_at_least, is_below}
use Rattle.acvp_check.proofs.Holds.{both, holds, joint}
use Rattle.acvp_check.proofs.Joins.{same_at}
use Rattle.acvp_check.proofs.OrderLemmas.{Alike, alike_all, permuted}

-- ---- vector sets of which none can be wrong

-- What is known of the vector sets before a place while they are walked over: those from a start on are of the last
-- one's session and epoch, none is of a later one, and those before the start are in their epochs.
pub record IsWalked (sets : List SetRow) (start place session epoch : ℕ) : Type 0 where
  pub bound : start ≤ place
  pub sessions : (k : ℕ) (d : SetRow) → k < place → (slice_index_or sets k d).session ≤ session
  pub epochs : (k : ℕ) (d : SetRow) → k < place → (slice_index_or sets k d).epoch ≤ epoch
  pub last : (k : ℕ) (d : SetRow) → start ≤ k → k < place → epoch ≤ (slice_index_or sets k d).epoch
  pub held : (k : ℕ) (d : SetRow) → k < start → is_in_its_epoch sets (slice_index_or sets k d) ≡ true

pub none_walked : (sets : List SetRow) → IsWalked sets 0 0 0 0
none_walked sets = record {
  bound = omega arith;
  sessions = λ k d few. absurd (omega (arith, few));
  epochs = λ k d few. absurd (omega (arith, few));
  last = λ k d behind few. absurd (omega (arith, few));
  held = λ k d few. absurd (omega (arith, few));
}

-- a row that is no earlier than each at its place is in its epoch
in_epoch : (sets : List SetRow) (row : SetRow)
    → ((k : ℕ) (d : SetRow) → k < length sets → is_no_earlier (slice_index_or sets k d) row ≡ true)
    → is_in_its_epoch sets row ≡ true
in_epoch [] row each = refl
in_epoch (s ∷ sets) row each =
    joint (is_no_earlier s row) (is_in_its_epoch sets row) (each 0 s (omega arith))
    (in_epoch sets row (λ k d few. each (suc k) d (omega (arith, few))))

by_epoch : (first second : SetRow) → first.epoch ≤ second.epoch → is_no_earlier first second ≡ true
by_epoch first second is = grind (arith, nat_tests, is)

by_session : (first second : SetRow) → second.session < first.session → is_no_earlier first second ≡ true
by_session first second is = grind (arith, nat_tests, is)

module _ (sets : List SetRow) (start place session epoch : ℕ) (walked : IsWalked sets start place session epoch) where
  -- where those from the place on are of later sessions, all before it are in their epochs
  pub all_held : ((k : ℕ) (d : SetRow) → place ≤ k → k < length sets → session < (slice_index_or sets k d).session)
      → (k : ℕ) (d : SetRow) → k < place → is_in_its_epoch sets (slice_index_or sets k d) ≡ true
  all_held later k d few = by_start (nat_lt k start) refl
    where
      each : start ≤ k → (j : ℕ) (e : SetRow) → j < length sets → (before : Bool) → nat_lt j place ≡ before
          → is_no_earlier (slice_index_or sets j e) (slice_index_or sets k d) ≡ true
      each behind j e inside true is =
          let most = walked.epochs j e (is_below j place is) in
          let least = walked.last k d behind few in
          by_epoch (slice_index_or sets j e) (slice_index_or sets k d) (omega (arith, most, least))
      each behind j e inside false is =
          let above = later j e (is_at_least j place is) inside in
          let below = walked.sessions k d few in
          by_session (slice_index_or sets j e) (slice_index_or sets k d) (omega (arith, above, below))

      by_start : (front : Bool) → nat_lt k start ≡ front → is_in_its_epoch sets (slice_index_or sets k d) ≡ true
      by_start true is = walked.held k d (is_below k start is)
      by_start false is = in_epoch sets (slice_index_or sets k d)
          (λ j e inside. each (is_at_least k start is) j e inside (nat_lt j place) refl)

  module _ (row : SetRow) (few : place < length sets) (there : row ≡ slice_index_or sets place row) where
    at : (d : SetRow) → slice_index_or sets place d ≡ row
    at d = same_at sets place d row few ∙ sym there

    here : (k : ℕ) → k < place + 1 → nat_lt k place ≡ false → k ≡ place
    here k few is = grind (arith, nat_tests, few, is)

    -- one more of the same session and epoch
    pub walked_same : ((row.session == session) && (row.epoch == epoch)) ≡ true
        → IsWalked sets start (place + 1) row.session row.epoch
    walked_same is = record {
      bound = omega (arith, walked.bound);
      sessions = λ k d few. sessions k d few (nat_lt k place) refl;
      epochs = λ k d few. epochs k d few (nat_lt k place) refl;
      last = λ k d behind few. last k d behind few (nat_lt k place) refl;
      held = walked.held;
    }
      where
        of_session : row.session ≡ session
        of_session = grind (arith, nat_tests, (both (row.session == session) (row.epoch == epoch) is).0)

        of_epoch : row.epoch ≡ epoch
        of_epoch = grind (arith, nat_tests, (both (row.session == session) (row.epoch == epoch) is).1)

        sessions : (k : ℕ) (d : SetRow) → k < place + 1 → (before : Bool) → nat_lt k place ≡ before
            → (slice_index_or sets k d).session ≤ row.session
        sessions k d few true is = omega (arith, walked.sessions k d (is_below k place is), of_session)
        sessions k d few false is = rw (here k few is, at d) (omega arith)

        epochs : (k : ℕ) (d : SetRow) → k < place + 1 → (before : Bool) → nat_lt k place ≡ before
            → (slice_index_or sets k d).epoch ≤ row.epoch
        epochs k d few true is = omega (arith, walked.epochs k d (is_below k place is), of_epoch)
        epochs k d few false is = rw (here k few is, at d) (omega arith)

        last : (k : ℕ) (d : SetRow) → start ≤ k → k < place + 1 → (before : Bool) → nat_lt k place ≡ before
            → row.epoch ≤ (slice_index_or sets k d).epoch
        last k d behind few true is = omega (arith, walked.last k d behind (is_below k place is), of_epoch)
        last k d behind few false is = rw (here k few is, at d) (omega arith)

    -- one more of a later session, whose epoch is no earlier: those before it are in their epochs
    pub walked_later : (nat_lt session row.session && nat_le epoch row.epoch) ≡ true → Ascend (λ set. set.session) sets
        → IsWalked sets place (place + 1) row.session row.epoch
    walked_later is ascends = record {
      bound = omega arith;
      sessions = λ k d few. sessions k d few (nat_lt k place) refl;
      epochs = λ k d few. epochs k d few (nat_lt k place) refl;
      last = λ k d behind few. let same : k ≡ place = omega (arith, behind, few) in rw (same, at d) (omega arith);
      held = all_held (λ k d behind inside. above k d behind inside);
    }
      where
        later : session < row.session
        later = is_below session row.session (both (nat_lt session row.session) (nat_le epoch row.epoch) is).0

        no_earlier : epoch ≤ row.epoch
        no_earlier = grind (arith, nat_tests, (both (nat_lt session row.session) (nat_le epoch row.epoch) is).1)

        above : (k : ℕ) (d : SetRow) → place ≤ k → k < length sets → session < (slice_index_or sets k d).session
        above k d behind inside =
            let first : (slice_index_or sets place d).session ≤ (slice_index_or sets k d).session =
            ascends place k d behind inside in
            let same : (slice_index_or sets place d).session ≡ row.session = ap (λ set. set.session) (at d) in
            omega (arith, first, same, later)

        sessions : (k : ℕ) (d : SetRow) → k < place + 1 → (before : Bool) → nat_lt k place ≡ before
            → (slice_index_or sets k d).session ≤ row.session
        sessions k d few true is = omega (arith, walked.sessions k d (is_below k place is), later)
        sessions k d few false is = rw (here k few is, at d) (omega arith)

        epochs : (k : ℕ) (d : SetRow) → k < place + 1 → (before : Bool) → nat_lt k place ≡ before
            → (slice_index_or sets k d).epoch ≤ row.epoch
        epochs k d few true is = omega (arith, walked.epochs k d (is_below k place is), no_earlier)
        epochs k d few false is = rw (here k few is, at d) (omega arith)

-- what is judged of all is what is judged of those from a place on, where those before it are in their epochs
rest_of : (mine : Content) (rows : List SetRow) (n : ℕ)
    → ((k : ℕ) (d : SetRow) → k < n → is_in_its_epoch mine.sets (slice_index_or rows k d) ≡ true) → n ≤ length rows
    → judged (flat_map (epoch_row_conditions mine) (drop n rows)) (tt {0})
    ≡ judged (flat_map (epoch_row_conditions mine) rows) (tt {0})
rest_of mine [] zero held bound = refl
rest_of mine [] (suc n) held bound = absurd (omega (arith, bound))
rest_of mine (row ∷ rows) zero held bound = refl
rest_of mine (row ∷ rows) (suc n) held bound =
    let first : is_in_its_epoch mine.sets row ≡ true = held 0 row (omega arith) in
    rw first (rest_of mine rows n (λ k d few. held (suc k) d (omega (arith, few))) (omega (arith, bound)))

pub judged_rest : (mine : Content) (n : ℕ)
    → ((k : ℕ) (d : SetRow) → k < n → is_in_its_epoch mine.sets (slice_index_or mine.sets k d) ≡ true)
    → n ≤ length mine.sets
    → judged (flat_map (epoch_row_conditions mine) (drop n mine.sets)) (tt {0})
    ≡ judged (flat_map (epoch_row_conditions mine) mine.sets) (tt {0})
judged_rest mine n held bound = rest_of mine mine.sets n held bound

-- ---- an account's vector sets, and all

-- where an account's vector sets are in their epochs, each condition on them holds
rising_holds : (mine : Content) → list_all (is_in_its_epoch mine.sets) mine.sets ≡ true
    → holds (flat_map (epoch_row_conditions mine) mine.sets) ≡ true
rising_holds mine up = to_each (epoch_row_conditions mine) mine.sets
    (last_holds (is_in_its_epoch mine.sets) mine.sets up)

-- the vector sets of other accounts matter to none
of_own : (row : SetRow) (sets : List SetRow)
    → is_in_its_epoch (filter (λ s. owner_of s.session == owner_of row.session) sets) row ≡ true
    → is_in_its_epoch sets row ≡ true
of_own row [] is = refl
of_own row (s ∷ sets) is = grind (arith, nat_tests, is, of_own row sets)

pub all_in_epochs : (c : Content) → ((u : ℕ) → holds (epoch_conditions (rows_of u c)) ≡ true) → AreInEpochs c
unfolding epoch_conditions rows_of
all_in_epochs c is = record {
  rising = list_all_weaker
      (λ row. is_in_its_epoch (filter (λ s. owner_of s.session == owner_of row.session) c.sets) row)
      (is_in_its_epoch c.sets) (λ row own. of_own row c.sets own) c.sets
      (by_class (λ a b. a == b) (λ (row : SetRow). owner_of row.session)
      (λ u row. is_in_its_epoch (filter (λ s. owner_of s.session == u) c.sets) row) eqb_same c.sets
      (λ u. let mine = rows_of u c in
      one (is_in_its_epoch mine.sets) mine.sets (of_each (epoch_row_conditions mine) mine.sets (is u))));
}

pub epochs_hold : (c : Content) → AreInEpochs c → (u : ℕ) → holds (epoch_conditions (rows_of u c)) ≡ true
unfolding epoch_conditions rows_of
epochs_hold c in_epochs u =
    let is_own : SetRow → Bool = λ row. owner_of row.session == u in
    rising_holds (rows_of u c)
    (list_all_weaker (is_in_its_epoch c.sets) (is_in_its_epoch (filter is_own c.sets))
    (λ row is. list_all-filter (λ other. is_no_earlier other row) is_own c.sets is) (filter is_own c.sets)
    (list_all-filter (is_in_its_epoch c.sets) is_own c.sets in_epochs.rising))

-- ---- which condition is broken

pub epoch_found : (mine : Content) (found : Finding)
    → first_broken (epoch_conditions mine) ≡ Some found → is_beyond_kept found.wrong ≡ true
unfolding epoch_conditions
epoch_found mine found is = of_kind (is_in_its_epoch mine.sets)
    (λ (row : SetRow). finding (key.Set row.number) wrong.Epoch) mine.sets (λ row. refl) found is

-- ---- rows in another order

pub epochs_in_order : (c d : Content) → HaveSameRows c d → AreInEpochs c → AreInEpochs d
epochs_in_order c d same is = record {
  rising = list_all_weaker (is_in_its_epoch c.sets) (is_in_its_epoch d.sets)
      (λ row own. alike_all (λ other. is_no_earlier other row) c.sets d.sets sets own) d.sets
      (alike_all (is_in_its_epoch c.sets) c.sets d.sets sets is.rising);
}
  where
    sets : Alike c.sets d.sets
    sets = permuted c.sets d.sets same.sets
