-- What every run leaves of answers is so after a request and after an order.
use Rattle.std.proofs.Common.{◌≡◌, ℕ, ◌+◌, ◌≤◌, List, [], ◌∷◌, length, true, Some, refl}
use Rattle.std.proofs.lemmas.List.Sums.{AllPass-from_list_all, list_all-from_AllPass}
use Rattle.std.specs.Prelude.{filter, option_map}
use Rattle.std.specs.List.{list_all}
use Rattle.acvp_caps.specs.Capability.{CapabilityValue}
use Rattle.acvp_tables.specs.Changes.{after, after_order, cancelled_set, changed, is_set, new_sets, with_graded}
use Rattle.acvp_tables.specs.Content.{Content, set_at}
use Rattle.acvp_tables.specs.State.{AreWellNumbered, set_record, set_record_at, state_of}
use Rattle.acvp_tables.specs.declared.change.Change.{Change}
use Rattle.acvp_tables.specs.declared.change.Change.TheVariants as change
use Rattle.acvp_tables.specs.declared.rows.SetRow.{SetRow}
use Rattle.acvp_tables.proofs.CountedLemmas.{all_append}
use Rattle.acvp_tables.proofs.KeptLemmas.{list_all-changed}
use Rattle.acvp_desk.specs.Answer.{content_effect}
use Rattle.acvp_desk.specs.Answered.{AreAnswered, has_own_answers}
use Rattle.acvp_desk.specs.Kept.{IsKept}
use Rattle.acvp_desk.specs.Orders.{content_order_effect}
use Rattle.acvp_desk.specs.Request.{RequestValue}
use Rattle.acvp_desk.specs.declared.keys.Keys.{Keys}
use Rattle.acvp_desk.specs.declared.order.Order.{Order}
use Rattle.acvp_desk.proofs.KeptAnswers.{one_changed}
use Rattle.acvp_desk.proofs.MadeChanges.{IsMade, after_each_order, after_request}

-- new vector sets have no answers
new_answered : (seeds : List (List ℕ)) (session epoch i : ℕ) (capabilities : List CapabilityValue)
    → list_all (has_own_answers seeds) (new_sets session epoch i capabilities) ≡ true
unfolding has_own_answers
new_answered seeds session epoch i [] = refl
new_answered seeds session epoch i (capability ∷ rest) = new_answered seeds session epoch (i + 1) rest

once_cancelled : (seeds : List (List ℕ)) (row : SetRow)
    → has_own_answers seeds (cancelled_set row) ≡ has_own_answers seeds row
unfolding has_own_answers
once_cancelled seeds row = refl

module _ (once : (n : ℕ) (c : Content) → AreWellNumbered c → length (filter (is_set n) c.sets) ≤ 1) where
  change_answered : (seeds : List (List ℕ)) (c : Content) (it : Change) → IsKept seeds c → IsMade seeds c (Some it)
      → AreAnswered seeds c → AreAnswered seeds (after it c)
  unfolding after
  change_answered seeds c (change.NewSession s) kept made is = record {
    tests = all_append (has_own_answers seeds) c.sets (new_sets s.number s.epoch 1 s.registration.capabilities)
        is.tests (new_answered seeds s.number s.epoch 1 s.registration.capabilities);
  }
  change_answered seeds c (change.KeepAnswers k) kept made is =
      let own = AllPass-from_list_all (has_own_answers seeds) c.sets is.tests in
      record {
        tests = list_all-from_AllPass (has_own_answers seeds) (changed (is_set k.set) (with_graded k.graded) c.sets)
            (one_changed (λ row. has_own_answers seeds row ≡ true) (is_set k.set) (with_graded k.graded) c.sets
            made.row (once k.set c kept.sound) made.there made.own own);
      }
  change_answered seeds c (change.CancelSet x) kept made is = record {
    tests = rw (list_all-changed (has_own_answers seeds) (is_set x.set) cancelled_set (once_cancelled seeds) c.sets)
        is.tests;
  }
  change_answered seeds c _ kept made is = record { tests = is.tests }

  pub request_answered : ((n : ℕ) (c : Content)
      → set_record_at n (state_of c).sets ≡ option_map set_record (set_at n c.sets)) → (keys : Keys) (m : ℕ)
      (r : RequestValue) (c : Content) → IsKept keys.seed c → AreAnswered keys.seed c
      → AreAnswered keys.seed (content_effect keys m r c)
  request_answered follows keys m r c kept is =
      after_request follows (λ d. AreAnswered keys.seed d) keys m r c
      (λ it made. change_answered keys.seed c it kept made is) is

-- no order changes a vector set
pub order_answered : (seeds : List (List ℕ)) (it : Order) (c : Content) → AreAnswered seeds c
    → AreAnswered seeds (content_order_effect it c)
unfolding after_order
order_answered seeds it c is =
    after_each_order (λ d. AreAnswered seeds d) it c (λ it. record { tests = is.tests }) is
