-- What is wrong with rows tells that no run leaves a content that they stand for.
use Rattle.std.proofs.Common.{ℕ, ℤ, Bool, List}
use Rattle.sqlite_trees.specs.Tree.{Trees}
use Rattle.sqlite_trees.proofs.ListLemmas.{all-slice_get}
use Rattle.acvp_desk.specs.Kept.{IsKept}
use Rattle.acvp_tables.specs.Content.{Content}
use Rattle.acvp_store.specs.Ranges.{KeepsSets}
use Rattle.acvp_store.specs.Schema.{Layout}
use Rattle.acvp_store.specs.Stands.{Stands, set_tree}
use Rattle.acvp_store.proofs.ObjectRanges.{objects_tree}
use Rattle.acvp_store.proofs.RangeJoins.{sessions_tree, accounts_tree, accounts_full}
use Rattle.acvp_store.proofs.RequestRanges.{requests_tree, requests_full}
use Rattle.acvp_store.proofs.ReviewerRanges.{reviewers_tree}
use Rattle.acvp_store.proofs.SetRanges.{sets_tree}
use Rattle.acvp_audit.specs.Checked.{IsRefuted}
use Rattle.acvp_audit.specs.Read.{AreInTrees}
use Rattle.acvp_audit.specs.Wrong.{AreWithin, IsInside, IsWithin, IsDamaged, IsDamagedIn, HasOutside, HasStray}
use Rattle.acvp_audit.specs.Wrong.{table_rows}
use Rattle.acvp_audit.specs.Private.Looks.{IsOutside}
use Rattle.acvp_audit.specs.declared.table.Table.{Table}
use Rattle.acvp_audit.specs.declared.table.Table.TheVariants as table
use Rattle.acvp_audit.specs.declared.damage.Damage.{Damage}
use Rattle.acvp_audit.specs.declared.damage.Damage.TheVariants as damage
use Rattle.acvp_audit.proofs.Kept.{kept_are_within, are_registrable, fit_accounts, fit_sessions, fit_sets, fit_objects}
use Rattle.acvp_audit.proofs.Kept.{fit_requests, fit_reviewers}
use Rattle.acvp_audit.proofs.Mine.{selects, ordered, same_rows, not_kept, not_left}

-- where a row is outside, not all are inside
not_within : (layout : Layout) (trees : Trees) (t : Table) (number : ℤ) → HasOutside t number layout trees
    → ¬ IsWithin t layout trees
not_within layout trees t number has all =
    has.outside (all-slice_get (IsInside t) (table_rows t layout trees) has.at has.row has.there all)

module _ (layout : Layout) (trees : Trees) (c : Content) (stand : Stands layout trees c) where
  pub in_trees : AreInTrees layout trees
  in_trees = record {
    accounts = accounts_tree _ c.accounts stand.accounts;
    full_accounts = accounts_full _ c.accounts stand.accounts;
    sessions = sessions_tree _ c.sessions stand.sessions;
    sets = sets_tree _ c.sets stand.sets;
    objects = objects_tree _ c.objects stand.objects;
    requests = requests_tree _ c.requests stand.requests;
    full_requests = requests_full _ c.requests stand.requests;
    reviewers = reviewers_tree _ c.reviewers stand.reviewers;
  }

  -- a stray row is of no member of kept records
  no_stray : (seeds : List (List ℕ)) → KeepsSets (trees (set_tree layout)) c.sets → IsKept seeds c
      → (t : Table) (u : ℕ) (number : ℤ) → HasStray t u number layout trees → ⊥
  no_stray seeds texts is table.Account u number stray = stray.none c.accounts (fit_accounts seeds c is) stand.accounts
  no_stray seeds texts is table.Session u number stray = stray.none c.sessions (fit_sessions seeds c is) stand.sessions
  no_stray seeds texts is table.Set u number stray = stray.none c.sets (fit_sets seeds c is) texts
  no_stray seeds texts is table.Object u number stray =
      stray.none c.objects (fit_objects seeds c is) (record { kept = stand.objects; numbers = stand.object_numbers })
  no_stray seeds texts is table.Request u number stray = stray.none c.requests (fit_requests seeds c is) stand.requests
  no_stray seeds texts is table.Reviewer u number stray =
      stray.none c.reviewers (fit_reviewers seeds c is) stand.reviewers

pub damaged_in : (grades : Bool) (seeds : List (List ℕ)) (layout : Layout) (trees : Trees) (found : Damage)
    → AreWithin layout trees → IsDamaged grades seeds layout trees found → IsDamagedIn grades seeds layout trees found
damaged_in grades seeds layout trees (damage.Outside t number) within is = is
damaged_in grades seeds layout trees (damage.Stray u t number) within is = is
damaged_in grades seeds layout trees (damage.Broken u found) within is = (within, is)

pub outside_in : (grades : Bool) (seeds : List (List ℕ)) (layout : Layout) (trees : Trees) (found : Damage)
    → IsOutside layout trees found → IsDamagedIn grades seeds layout trees found
outside_in grades seeds layout trees (damage.Outside t number) is = is
outside_in grades seeds layout trees (damage.Stray u t number) is = absurd is
outside_in grades seeds layout trees (damage.Broken u found) is = absurd is

pub refuted_by : (grades : Bool) (seeds : List (List ℕ)) (layout : Layout) (trees : Trees) (found : Damage)
    → (AreInTrees layout trees → IsDamagedIn grades seeds layout trees found)
    → IsRefuted grades seeds layout trees found
refuted_by grades seeds layout trees (damage.Outside t number) is = record {
  so = is;
  told = λ c stand texts registrable. is (in_trees layout trees c stand);
  refuted = λ c stand texts left. not_within layout trees t number (is (in_trees layout trees c stand))
      (kept_are_within seeds c left.kept layout trees stand t);
  unkept = λ other c stand texts kept. not_within layout trees t number (is (in_trees layout trees c stand))
      (kept_are_within seeds c kept layout trees stand t);
}
refuted_by grades seeds layout trees (damage.Stray u t number) is = record {
  so = is;
  told = λ c stand texts registrable. is (in_trees layout trees c stand);
  refuted = λ c stand texts left. no_stray layout trees c stand seeds texts left.kept t u number
      (is (in_trees layout trees c stand));
  unkept = λ other c stand texts kept. no_stray layout trees c stand seeds texts kept t u number
      (is (in_trees layout trees c stand));
}
refuted_by grades seeds layout trees (damage.Broken u found) is = record {
  so = is;
  told = λ c stand texts registrable.
      let inside = in_trees layout trees c stand in
      let it = is inside in
      let mine = it.1.0 in (
        mine,
        same_rows layout trees inside it.0 u mine it.1.1 c stand registrable,
        ordered layout trees inside it.0 u mine it.1.1,
        it.1.2,
      );
  refuted = λ c stand texts left.
      let inside = in_trees layout trees c stand in
      let it = is inside in
      let mine = it.1.0 in
      not_left grades seeds u c mine
      (same_rows layout trees inside it.0 u mine it.1.1 c stand (are_registrable seeds c left.kept))
      (ordered layout trees inside it.0 u mine it.1.1)
      (selects layout trees inside it.0 u mine it.1.1) found it.1.2 left;
  unkept = λ other c stand texts kept.
      let inside = in_trees layout trees c stand in
      let it = is inside in
      let mine = it.1.0 in
      not_kept grades seeds u c mine
      (same_rows layout trees inside it.0 u mine it.1.1 c stand (are_registrable seeds c kept))
      (ordered layout trees inside it.0 u mine it.1.1)
      (selects layout trees inside it.0 u mine it.1.1) found it.1.2 other kept;
}
