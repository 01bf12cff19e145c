use Rattle.std.proofs.Common.{◌∙◌}
use Rattle.sqlite.specs.Held.{state}
use Rattle.acvp_store.specs.Ranges.{IsRange, KeepsSets, set_number, first_number, last_number, first_set, last_set}
use Rattle.acvp_store.specs.Rows.{session_tree, session_key, HoldsSessions}
use Rattle.acvp_store.specs.Stands.{set_tree}
use Rattle.acvp_audit.proofs.Reading.{earlier, of_found}
use Rattle.acvp_audit.proofs.reads.tests_of.Goals as goal

pub returns-clause-rows : goal.returns-clause-rows
returns-clause-rows g c = λ opened layout schema inside.
    let u = c.args.account in
    let old = state g.S.Store c.args.tables.now in
    let one = state g.S.Store c.accounts_between.new.self in
    let two = state g.S.Store c.sessions_numbered.new.self in
    let open_two = c.sets_numbered.ensures.read.stays.was_open opened in
    let open_one = c.sessions_numbered.ensures.read.stays.was_open open_two in
    let now_one = c.accounts_between.ensures.read.stays.now open_one in
    let now_two = c.sessions_numbered.ensures.read.stays.now open_two in
    let accounts = of_found _ _ _ c.in_ok-accounts.ensures.same (c.accounts_between.ensures.rows open_one) in
    let sessions = of_found _ _ _ c.in_ok-sessions.ensures.same (c.sessions_numbered.ensures.rows open_two) in
    let sets = of_found _ _ _ c.in_ok-sets.ensures.same (c.sets_numbered.ensures.rows opened) in
    record {
      account_range = accounts inside.accounts inside.full_accounts;
      session_range = earlier old one
          (λ layout trees. IsRange HoldsSessions session_key (first_number u) (last_number u)
          (trees session_tree) c.in_ok-sessions.sessions.items) now_one
          (λ layout schema inside. sessions inside.sessions) layout schema inside;
      set_range = earlier old two
          (λ layout trees. IsRange KeepsSets set_number (first_set u) (last_set u)
          (trees (set_tree layout)) c.in_ok-sets.sets.items) (now_two ∙ now_one)
          (λ layout schema inside. sets layout schema inside.sets) layout schema inside;
    }
