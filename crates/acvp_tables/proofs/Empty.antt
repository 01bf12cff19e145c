-- Without a row the records are well numbered.
use Rattle.std.proofs.Common.{ℕ, refl, arith}
use Rattle.acvp_tables.specs.Content.{no_rows}
use Rattle.acvp_tables.specs.State.{state_of, own, IsWellNumberedFor, IsWellNumbered, AreWellNumbered}

none_for : (u : ℕ) → IsWellNumberedFor u (own u (state_of no_rows))
unfolding own state_of
none_for u = record {
  once = omega arith;
  accounts = refl;
  there = λ e. cc;
  sessions = refl;
  few_sessions = omega arith;
  requests = refl;
  few_requests = omega arith;
  objects = λ kind. refl;
  asked_for = λ kind. omega arith;
  registered = refl;
  given = refl;
  sets = λ s. refl;
  few_sets = λ s. omega arith;
  some_sets = refl;
  set_sessions = refl;
  certified = refl;
  asked = refl;
  kept = refl;
  created = refl;
  reviewed = refl;
  reviewers = refl;
  few_reviewers = λ s. omega arith;
  pairs_once = λ s a. omega arith;
}

pub none_sound : AreWellNumbered no_rows
unfolding IsWellNumbered
none_sound = λ u. none_for u
