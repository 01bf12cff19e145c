use Rattle.std.proofs.Common.{subst}
use Rattle.std.proofs.lemmas.Result.{IfOk-weaker}
use Rattle.std.specs.List.{AllZip}
use Rattle.acvp_tables.specs.Content.{live_sets}
use Rattle.acvp_view.specs.Certified.{IsCertifiedSet}
use Rattle.acvp_view.proofs.certified.certified_of.Goals as goal

pub returns-clause-sets : goal.returns-clause-sets
returns-clause-sets g c = λ live. IfOk-weaker c.certified_sets.result _ _
    (λ sets each content h. record {
      rows = c.in_ok-rows.rows.items;
      are = c.in_ok-rows.ensures.rows live content h;
      each = subst (λ rows. AllZip (IsCertifiedSet c.args.seeds.now) (live_sets c.args.session rows) sets.items)
          c.deref.ensures.value each;
    }) c.certified_sets.ensures
