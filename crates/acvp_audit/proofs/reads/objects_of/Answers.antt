use Rattle.std.proofs.Common.{◌≡◌, ◌++◌, ◌∙◌}
use Rattle.sqlite.specs.Held.{state}
use Rattle.acvp_audit.specs.Read.{AreOfKind}
use Rattle.acvp_audit.proofs.Reading.{earlier, told_more}
use Rattle.acvp_audit.proofs.reads.objects_of.Goals as goal

pub returns-clause-rows : goal.returns-clause-rows
returns-clause-rows g c = λ opened.
    let u = c.args.account in
    let vendors = c.in_ok-vendors.vendors.items in
    let modules = c.in_ok-modules.modules.items in
    let environments = c.in_ok-environments.environments.items in
    let old = state g.S.Store c.args.tables.now in
    let one = state g.S.Store c.of_kind.new.tables in
    let two = state g.S.Store c.of_kind-2.new.tables in
    let open_two = c.in_ok-environments.ensures.read.stays.was_open opened in
    let open_one = c.in_ok-modules.ensures.read.stays.was_open open_two in
    let now_one = c.in_ok-vendors.ensures.read.stays.now open_one in
    let now_two = c.in_ok-modules.ensures.read.stays.now open_two in
    told_more c.joined.result (λ found. found.items ≡ (vendors ++ modules) ++ environments) _
    (λ found is layout schema inside. record {
      vendors = vendors;
      modules = modules;
      environments = environments;
      joined = is;
      of_vendors = c.in_ok-vendors.ensures.rows open_one layout schema inside;
      of_modules = earlier old one (λ layout trees. AreOfKind 2 trees u modules) now_one
          (c.in_ok-modules.ensures.rows open_two) layout schema inside;
      of_environments = earlier old two (λ layout trees. AreOfKind 3 trees u environments) (now_two ∙ now_one)
          (c.in_ok-environments.ensures.rows opened) layout schema inside;
    }) c.joined.ensures.rows
