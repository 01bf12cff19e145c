use Rattle.std.proofs.Common.{None, arith}
use Rattle.std.proofs.lemmas.Bool.Decides.{nat_tests}
use Rattle.sqlite.specs.Held.{state}
use Rattle.acvp_tables.specs.State.{objects_in}
use Rattle.acvp_audit.specs.Read.{AreEntries}
use Rattle.acvp_audit.proofs.Lists.{climbing}
use Rattle.acvp_audit.proofs.Reading.{earlier}
use Rattle.acvp_audit.proofs.reads.rows_of.Goals as goal

pub returns-clause-rows : goal.returns-clause-rows
returns-clause-rows g c = λ live layout schema inside.
    let it = c.in_ok-entries.entries in
    let old = state g.S.Store c.args.tables.now in
    let one = state g.S.Store c.tests_of.new.tables in
    let live_one = c.in_ok-entries.ensures.read.stays.was_open live in
    let now_one = c.in_ok-tests.ensures.read.stays.now live_one in
    record {
      tests = c.in_ok-tests.ensures.rows live_one layout schema inside;
      entries = earlier old one
          (λ layout trees. AreEntries layout trees c.args.account it.objects.items it.requests.items it.reviewers.items)
          now_one (c.in_ok-entries.ensures.rows live) layout schema inside;
      in_order = λ kind. climbing (λ row. row.number) (objects_in kind it.objects.items) None
          (rw c.deref.ensures.value at (c.all_climb.ensures (grind (arith, nat_tests, c.if-not-all_climb.false))) kind);
      registrable = rw c.deref-2.ensures.value at c.are_registrable.ensures;
    }
