use Rattle.std.proofs.Common.{◌∙◌}
use Rattle.std.specs.List.{filter}
use Rattle.sqlite.specs.Held.{state}
use Rattle.acvp_store.specs.Ranges.{IsRange, first_number, last_number, is_column_between}
use Rattle.acvp_store.specs.Stands.{request_tree, request_key, HoldsRequests, reviewer_tree, HoldsReviewers}
use Rattle.acvp_audit.proofs.Reading.{earlier, of_found}
use Rattle.acvp_audit.proofs.reads.entries_of.Goals as goal

pub returns-clause-rows : goal.returns-clause-rows
returns-clause-rows g c = λ opened layout schema inside.
    let u = c.args.account in
    let old = state g.S.Store c.args.tables.now in
    let one = state g.S.Store c.objects_of.new.tables in
    let two = state g.S.Store c.requests_numbered.new.self in
    let open_two = c.reviewers_numbered.ensures.read.stays.was_open opened in
    let open_one = c.requests_numbered.ensures.read.stays.was_open open_two in
    let now_one = c.in_ok-objects.ensures.read.stays.now open_one in
    let now_two = c.requests_numbered.ensures.read.stays.now open_two in
    let requests = of_found _ _ _ c.in_ok-requests.ensures.same (c.requests_numbered.ensures.rows open_two) in
    let reviewers = of_found _ _ _ c.in_ok-reviewers.ensures.same (c.reviewers_numbered.ensures.rows opened) in
    record {
      of_kinds = c.in_ok-objects.ensures.rows open_one layout schema inside;
      request_range = earlier old one
          (λ layout trees. IsRange HoldsRequests request_key (first_number u) (last_number u)
          (trees request_tree) c.in_ok-requests.requests.items) now_one
          (λ layout schema inside. requests inside.requests inside.full_requests) layout schema inside;
      reviewer_rows = earlier old two
          (λ layout trees. HoldsReviewers
          (filter (is_column_between 1 (first_number u) (last_number u)) (trees (reviewer_tree layout)))
          c.in_ok-reviewers.reviewers.items) (now_two ∙ now_one)
          (λ layout schema inside. reviewers layout schema inside.reviewers) layout schema inside;
    }
