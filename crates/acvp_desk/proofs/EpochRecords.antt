-- What every run leaves of epochs is so after a request and after an order.
use Rattle.std.proofs.Common.{◌≡◌, ℕ, List, Some, refl}
use Rattle.std.specs.Prelude.{option_map}
use Rattle.acvp_tables.specs.Changes.{after, after_order, cancelled_set, is_set, with_graded}
use Rattle.acvp_tables.specs.Content.{Content, set_at}
use Rattle.acvp_tables.specs.State.{IsWellNumbered, own, set_record, set_record_at, state_of}
use Rattle.acvp_tables.specs.declared.change.Change.{Change}
use Rattle.acvp_tables.specs.declared.change.Change.TheVariants as change
use Rattle.acvp_desk.specs.Answer.{content_effect}
use Rattle.acvp_desk.specs.Epochs.{AreInEpochs}
use Rattle.acvp_desk.specs.Kept.{IsKept}
use Rattle.acvp_desk.specs.Orders.{content_order_effect}
use Rattle.acvp_desk.specs.Request.{RequestValue}
use Rattle.acvp_desk.specs.declared.keys.Keys.{Keys}
use Rattle.acvp_desk.specs.declared.order.Order.{Order}
use Rattle.acvp_desk.proofs.EpochRows.{all_before, none_later, rising_once_changed, rising_with_sets}
use Rattle.acvp_desk.proofs.MadeChanges.{IsMade, after_each_order, after_request}

change_in_epochs : (seeds : List (List ℕ)) (c : Content) (it : Change) → IsKept seeds c → IsMade seeds c (Some it)
    → AreInEpochs c → AreInEpochs (after it c)
unfolding after IsWellNumbered own state_of
change_in_epochs seeds c (change.NewSession s) kept new is =
    let well = kept.sound s.account in
    let before = all_before s.account s.number new.owned (own s.account (state_of c)).sessions new.next well.sessions
    c.sets well.set_sessions in
    let no_later = none_later seeds s.epoch c.sets new.epoch kept.graded in
    record {
      rising = rising_with_sets s.number s.epoch c.sets no_later before s.registration.capabilities is.rising;
    }
change_in_epochs seeds c (change.KeepAnswers k) kept made is = record {
  rising = rising_once_changed (is_set k.set) (with_graded k.graded) (λ r. refl) (λ r. refl) c.sets is.rising;
}
change_in_epochs seeds c (change.CancelSet x) kept made is = record {
  rising = rising_once_changed (is_set x.set) cancelled_set (λ r. refl) (λ r. refl) c.sets is.rising;
}
change_in_epochs seeds c _ kept made is = record { rising = is.rising }

pub request_in_epochs : ((n : ℕ) (c : Content)
    → set_record_at n (state_of c).sets ≡ option_map set_record (set_at n c.sets)) → (keys : Keys) (m : ℕ)
    (r : RequestValue) (c : Content) → IsKept keys.seed c → AreInEpochs c → AreInEpochs (content_effect keys m r c)
request_in_epochs follows keys m r c kept is =
    after_request follows (λ d. AreInEpochs d) keys m r c
    (λ it made. change_in_epochs keys.seed c it kept made is) is

-- no order changes a vector set
pub order_in_epochs : (it : Order) (c : Content) → AreInEpochs c → AreInEpochs (content_order_effect it c)
unfolding after_order
order_in_epochs it c is = after_each_order (λ d. AreInEpochs d) it c (λ it. record { rising = is.rising }) is
