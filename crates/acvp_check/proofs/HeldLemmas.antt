-- Where an account's rows are well numbered, counted and graded, each condition on them holds.
use Rattle.std.proofs.Common.{◌≡◌, ℕ, ◌≤◌, Bool, true, List, ◌++◌, length, map, refl, sym, subst, ◌∙◌}
use Rattle.std.specs.Prelude.{filter, ◌&&◌, ◌==◌, nat_le, nat_lt, is_some, slice_get}
use Rattle.std.specs.List.{flat_map, list_all, list_any}
use Rattle.std.proofs.lemmas.List.{length-map}
use Rattle.acvp_registry.specs.declared.kind.Kind.{Kind}
use Rattle.acvp_registry.specs.declared.kind.Kind.TheVariants.{Vendor, Module, Environment, Certification}
use Rattle.acvp_tables.specs.Content.{Content, session_at}
use Rattle.acvp_tables.specs.Counted.{is_counted}
use Rattle.acvp_tables.specs.State.{SetRecord, session_record, set_record, state_of, first_of_account, first_of_session}
use Rattle.acvp_tables.specs.State.{objects_in}
use Rattle.acvp_tables.specs.State.{is_account_number, has_registered, has_registered_as, of_all, session_record_at}
use Rattle.acvp_tables.specs.State.{is_sound_object, is_sound_body, has_all_given, certifies, IsNumbered}
use Rattle.acvp_tables.specs.State.{IsWellNumberedFor}
use Rattle.acvp_tables.specs.declared.rows.SessionRow.{SessionRow}
use Rattle.acvp_tables.specs.declared.rows.SetRow.{SetRow}
use Rattle.acvp_tables.specs.declared.rows.ReviewerRow.{ReviewerRow}
use Rattle.acvp_tables.proofs.KeptLemmas.{list_all_weaker}
use Rattle.acvp_check.specs.declared.finding.RowKey.TheVariants as key
use Rattle.acvp_check.specs.Conditions.{own_row_conditions, numbered, sets_of, is_certified, session_own_conditions}
use Rattle.acvp_check.specs.Conditions.{session_count_conditions, session_counter_conditions, set_numbers}
use Rattle.acvp_check.specs.Conditions.{session_row_conditions, session_conditions}
use Rattle.acvp_check.specs.Conditions.{is_disposed, set_row_conditions, set_conditions, request_row_conditions}
use Rattle.acvp_check.specs.Conditions.{request_conditions, object_row_conditions, object_key, kind_conditions}
use Rattle.acvp_check.specs.Conditions.{all_kinds_conditions, object_conditions}
use Rattle.acvp_check.specs.Conditions.{reviewers_in, reviewers_at, reviewer_own_conditions, reviewer_count_conditions}
use Rattle.acvp_check.specs.Conditions.{reviewer_row_conditions, reviewer_conditions, kept_conditions}
use Rattle.acvp_check.proofs.Joins.{session_there}
use Rattle.acvp_check.proofs.Holds.{holds, joint, all_both, rising_numbers, numbered_rows, each_passes}
use Rattle.acvp_check.proofs.AccountLemmas.{join, to_each, rows_all, records_any, set_records, is_within, whole}
use Rattle.acvp_check.proofs.AccountLemmas.{holds_own}

-- a row with one more condition that holds
pub last_holds : {R : Type 0} (p : R → Bool) (rows : List R) → list_all p rows ≡ true
    → list_all (λ r. p r && true) rows ≡ true
last_holds p rows e = all_both p (λ _. true) rows e (each_passes (λ _. true) (λ _. refl) rows)

module _ (u : ℕ) (mine : Content) (well : IsWellNumberedFor u (state_of mine)) where
  holds_sessions : list_all (is_counted mine.sets) mine.sessions ≡ true → holds (session_conditions u mine) ≡ true
  unfolding session_conditions state_of session_own_conditions session_count_conditions session_counter_conditions
  holds_sessions counted =
      let created : list_all (λ (r : SessionRow). nat_lt r.created 4102444800) mine.sessions ≡ true =
      rows_all session_record (λ row. nat_lt row.created 4102444800) mine.sessions well.created in
      let certified : list_all (is_certified mine.requests) mine.sessions ≡ true =
      rows_all session_record (λ row.
      of_all (λ n. list_any (λ request. (request.number == n) && certifies row.number request.body) mine.requests)
      row.last_request) mine.sessions well.certified in
      let some : list_all (λ (r : SessionRow). list_any (λ set. set.session == r.number) mine.sets) mine.sessions
      ≡ true =
      list_all_weaker (λ (r : SessionRow). list_any (λ set. set.session == r.number) (map set_record mine.sets))
      (λ r. list_any (λ set. set.session == r.number) mine.sets)
      (λ r h. sym (records_any set_record (λ set. set.session == r.number) mine.sets) ∙ h) mine.sessions
      (rows_all session_record (λ row. list_any (λ set. set.session == row.number) (map set_record mine.sets))
      mine.sessions well.some_sets) in
      let few_of : (s : ℕ) → length (sets_of s mine.sets) ≤ 20 =
      λ s. subst (λ n. n ≤ 20) (length-map (sets_of s mine.sets) set_record)
      (subst (λ rows. length rows ≤ 20) (set_records s mine.sets) (well.few_sets s)) in
      let few : list_all (λ (r : SessionRow). nat_le (length (sets_of r.number mine.sets)) 20) mine.sessions ≡ true =
      each_passes (λ (r : SessionRow). nat_le (length (sets_of r.number mine.sets)) 20)
      (λ r. is_within (length (sets_of r.number mine.sets)) 20 (few_of r.number)) mine.sessions in
      let numbers_of : (s : ℕ) → holds (set_numbers s mine.sets) ≡ true =
      λ s. rising_numbers (λ (set : SetRow). set.number) (λ set. key.Set set.number) (first_of_session s)
      (sets_of s mine.sets)
      (numbered_rows set_record (λ row. row.number) (first_of_session s) (sets_of s mine.sets)
      (subst (λ rows. IsNumbered (λ (row : SetRecord). row.number) (first_of_session s) rows) (set_records s mine.sets)
      (well.sets s))) in
      let numbers : list_all (λ (r : SessionRow). holds (set_numbers r.number mine.sets)) mine.sessions ≡ true =
      each_passes (λ (r : SessionRow). holds (set_numbers r.number mine.sets))
      (λ r. numbers_of r.number) mine.sessions in
      let two = all_both (is_counted mine.sets)
      (λ r. holds (set_numbers r.number mine.sets)) mine.sessions counted numbers in
      let three = all_both (λ (r : SessionRow). nat_le (length (sets_of r.number mine.sets)) 20)
      (λ r. is_counted mine.sets r && holds (set_numbers r.number mine.sets)) mine.sessions few two in
      let four = all_both (λ (r : SessionRow). list_any (λ set. set.session == r.number) mine.sets)
      (λ r. nat_le (length (sets_of r.number mine.sets)) 20 &&
      (is_counted mine.sets r && holds (set_numbers r.number mine.sets))) mine.sessions some three in
      let five = all_both (is_certified mine.requests)
      (λ r. list_any (λ set. set.session == r.number) mine.sets &&
      (nat_le (length (sets_of r.number mine.sets)) 20 &&
      (is_counted mine.sets r && holds (set_numbers r.number mine.sets)))) mine.sessions certified four in
      let rows = all_both (λ (r : SessionRow). nat_lt r.created 4102444800)
      (λ r. is_certified mine.requests r &&
      (list_any (λ set. set.session == r.number) mine.sets &&
      (nat_le (length (sets_of r.number mine.sets)) 20 &&
      (is_counted mine.sets r && holds (set_numbers r.number mine.sets))))) mine.sessions created five in
      let length_is : length (map session_record mine.sessions) ≡ length mine.sessions =
      length-map mine.sessions session_record in
      joint (nat_le (length mine.sessions) 999999)
      (holds (numbered (λ row. row.number) (λ row. key.Session row.number) (first_of_account u) mine.sessions
      ++ flat_map (session_row_conditions mine) mine.sessions))
      (is_within (length mine.sessions) 999999 (subst (λ n. n ≤ 999999) length_is well.few_sessions))
      (join (numbered (λ row. row.number) (λ row. key.Session row.number) (first_of_account u) mine.sessions)
      (flat_map (session_row_conditions mine) mine.sessions)
      (rising_numbers (λ row. row.number) (λ row. key.Session row.number) (first_of_account u) mine.sessions
      (numbered_rows session_record (λ row. row.number) (first_of_account u) mine.sessions well.sessions))
      (to_each (session_row_conditions mine) mine.sessions rows))

  holds_sets : (seeds : List (List ℕ)) → list_all (λ row. is_some (slice_get seeds row.epoch)) mine.sets ≡ true
      → list_all (λ row. of_all is_disposed row.graded) mine.sets ≡ true
      → holds (set_conditions seeds mine) ≡ true
  unfolding set_conditions state_of
  holds_sets seeds seeded disposed =
      let there : list_all (λ (r : SetRow). is_some (session_at r.session mine.sessions)) mine.sets ≡ true =
      list_all_weaker (λ (r : SetRow). is_some (session_record_at r.session (map session_record mine.sessions)))
      (λ r. is_some (session_at r.session mine.sessions))
      (λ r h. sym (session_there r.session mine.sessions) ∙ h) mine.sets
      (rows_all set_record (λ set. is_some (session_record_at set.session (map session_record mine.sessions))) mine.sets
      well.set_sessions) in
      to_each (set_row_conditions seeds mine) mine.sets
      (all_both (λ r. is_some (session_at r.session mine.sessions))
      (λ r. is_some (slice_get seeds r.epoch) && (of_all is_disposed r.graded && true)) mine.sets there
      (all_both (λ r. is_some (slice_get seeds r.epoch)) (λ r. of_all is_disposed r.graded && true) mine.sets seeded
      (last_holds (λ r. of_all is_disposed r.graded) mine.sets disposed)))

  holds_requests : holds (request_conditions u mine) ≡ true
  unfolding request_conditions state_of
  holds_requests =
      joint (nat_le (length mine.requests) 999999)
      (holds (numbered (λ row. row.number) (λ row. key.Request row.number) (first_of_account u) mine.requests
      ++ flat_map (request_row_conditions mine) mine.requests))
      (is_within (length mine.requests) 999999 well.few_requests)
      (join (numbered (λ row. row.number) (λ row. key.Request row.number) (first_of_account u) mine.requests)
      (flat_map (request_row_conditions mine) mine.requests)
      (rising_numbers (λ row. row.number) (λ row. key.Request row.number)
      (first_of_account u) mine.requests well.requests)
      (to_each (request_row_conditions mine) mine.requests
      (all_both (λ r. is_sound_body (state_of mine) r.body)
      (λ r. has_all_given mine.objects r && true) mine.requests well.asked
      (last_holds (has_all_given mine.objects) mine.requests well.given))))

  holds_kind : (kind : Kind) → holds (kind_conditions u mine kind) ≡ true
  unfolding state_of
  holds_kind kind =
      joint (nat_le (length (objects_in kind mine.objects)) (length (filter (has_registered kind) mine.requests)))
      (holds (numbered (λ row. row.number) object_key (first_of_account u) (objects_in kind mine.objects)))
      (is_within (length (objects_in kind mine.objects)) (length (filter (has_registered kind) mine.requests))
      (well.asked_for kind))
      (rising_numbers (λ row. row.number) object_key (first_of_account u) (objects_in kind mine.objects)
      (well.objects kind))

  holds_objects : holds (object_conditions u mine) ≡ true
  unfolding object_conditions all_kinds_conditions state_of
  holds_objects =
      let two = kind_conditions u mine Vendor ++ kind_conditions u mine Module in
      let three = two ++ kind_conditions u mine Environment in
      let a = join (kind_conditions u mine Vendor) (kind_conditions u mine Module) (holds_kind Vendor)
      (holds_kind Module) in
      let b = join two (kind_conditions u mine Environment) a (holds_kind Environment) in
      let d = join three (kind_conditions u mine Certification) b (holds_kind Certification) in
      join (three ++ kind_conditions u mine Certification) (flat_map (object_row_conditions mine) mine.objects) d
      (to_each (object_row_conditions mine) mine.objects
      (all_both (λ object. list_any (has_registered_as object) mine.requests)
      (λ r. is_sound_object mine.objects r.object && true) mine.objects well.registered
      (last_holds (λ r. is_sound_object mine.objects r.object) mine.objects well.kept)))

  holds_reviewers : holds (reviewer_conditions mine) ≡ true
  unfolding reviewer_conditions reviewer_own_conditions reviewer_count_conditions state_of
  holds_reviewers =
      let named : list_all (λ (r : ReviewerRow). is_some (session_at r.session mine.sessions)) mine.reviewers ≡ true =
      list_all_weaker (λ (r : ReviewerRow). is_some (session_record_at r.session (map session_record mine.sessions)))
      (λ r. is_some (session_at r.session mine.sessions))
      (λ r h. sym (session_there r.session mine.sessions) ∙ h) mine.reviewers well.reviewed in
      let few : list_all (λ (r : ReviewerRow). nat_le (length (reviewers_in r.session mine.reviewers)) 16)
      mine.reviewers ≡ true =
      each_passes (λ (r : ReviewerRow). nat_le (length (reviewers_in r.session mine.reviewers)) 16)
      (λ r. is_within (length (reviewers_in r.session mine.reviewers)) 16 (well.few_reviewers r.session))
      mine.reviewers in
      let once : list_all (λ (r : ReviewerRow). nat_le (length (reviewers_at r.session r.account mine.reviewers)) 1)
      mine.reviewers ≡ true =
      each_passes (λ (r : ReviewerRow). nat_le (length (reviewers_at r.session r.account mine.reviewers)) 1)
      (λ r. is_within (length (reviewers_at r.session r.account mine.reviewers)) 1
      (well.pairs_once r.session r.account)) mine.reviewers in
      let two = all_both (λ (r : ReviewerRow). nat_le (length (reviewers_in r.session mine.reviewers)) 16)
      (λ r. nat_le (length (reviewers_at r.session r.account mine.reviewers)) 1 && true) mine.reviewers few
      (last_holds (λ (r : ReviewerRow). nat_le (length (reviewers_at r.session r.account mine.reviewers)) 1)
      mine.reviewers once) in
      let three = all_both (λ (r : ReviewerRow). is_account_number r.account)
      (λ r. nat_le (length (reviewers_in r.session mine.reviewers)) 16 &&
      (nat_le (length (reviewers_at r.session r.account mine.reviewers)) 1 && true)) mine.reviewers well.reviewers
      two in
      to_each (reviewer_row_conditions mine) mine.reviewers
      (all_both (λ (r : ReviewerRow). is_some (session_at r.session mine.sessions))
      (λ r. is_account_number r.account &&
      (nat_le (length (reviewers_in r.session mine.reviewers)) 16 &&
      (nat_le (length (reviewers_at r.session r.account mine.reviewers)) 1 && true))) mine.reviewers named three)

  holds_own_row : holds (own_row_conditions u mine) ≡ true
  unfolding state_of
  holds_own_row = holds_own u mine (record { once = well.once; there = well.there; rows = well.accounts })

pub held : (seeds : List (List ℕ)) (u : ℕ) (mine : Content) → IsWellNumberedFor u (state_of mine)
    → list_all (is_counted mine.sets) mine.sessions ≡ true
    → list_all (λ row. is_some (slice_get seeds row.epoch)) mine.sets ≡ true
    → list_all (λ row. of_all is_disposed row.graded) mine.sets ≡ true
    → holds (kept_conditions seeds u mine) ≡ true
held seeds u mine well counted seeded disposed = whole seeds u mine (record {
  own = holds_own_row u mine well;
  sessions = holds_sessions u mine well counted;
  sets = holds_sets u mine well seeds seeded disposed;
  requests = holds_requests u mine well;
  objects = holds_objects u mine well;
  reviewers = holds_reviewers u mine well;
})
