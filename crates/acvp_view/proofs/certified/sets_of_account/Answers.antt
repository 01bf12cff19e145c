use Rattle.std.proofs.Common.{Ok}
use Rattle.acvp_store.proofs.OneList.{same_sets}
use Rattle.acvp_store.proofs.SetRanges.{sets_tree}
use Rattle.acvp_store.specs.Ranges.{first_set, last_set}
use Rattle.acvp_view.proofs.ReadLemmas.{read_looks}
use Rattle.acvp_audit.proofs.Parts.{sets_part}
use Rattle.acvp_view.proofs.certified.sets_of_account.Goals as goal

pub returns-in-Ok-clause-rows : goal.returns-in-Ok-clause-rows
returns-in-Ok-clause-rows g c = λ live content (layout, schema, holds, serves).
    let first = first_set c.args.account in
    let last = last_set c.args.account in
    let range = c.in-Ok.ensures.rows live layout schema (sets_tree _ content.sets holds.sets) in record {
      same = same_sets _ c.in-Ok.rows.items _ range.holds.kept (sets_part first last _ content.sets holds.sets);
      rising = range.rising;
    }

pub returns-in-Ok-clause-looks : goal.returns-in-Ok-clause-looks
returns-in-Ok-clause-looks g c = read_looks g.S.Store c.args.tables.now c.sets_numbered.new.self
    (λ db live may. g.met.S.Store.settled c.args.tables.now.store db live may) (Ok c.in-Ok.rows) (Ok c.in-Ok.rows)
    (λ clean live. (c.in-Ok.ensures.read.stays_open clean).1) c.in-Ok.ensures.read
