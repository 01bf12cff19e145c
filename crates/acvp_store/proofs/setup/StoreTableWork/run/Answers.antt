use Rattle.acvp_store.proofs.Words.{[], before, Makes, text_of, state}
use Rattle.acvp_store.proofs.Texts.{is_making}
use Rattle.acvp_store.proofs.Together.{inside}
use Rattle.acvp_store.proofs.MadeTables.{make_effect}
use Rattle.acvp_store.proofs.setup.StoreTableWork.run.Goals as goal

pub returns-clause-inside : goal.returns-clause-inside
returns-clause-inside g c =
    let old = state g.S.Store c.args.tx.now.conn.now in
    let t = c.args.self.now in
    let text = is_making t in
    inside (before t) (text_of t) [] _ _ _ (text.0, text.3) (λ count w. w) (Makes t) (make_effect old t) _
    (rw c.text.ensures at c.perform.ensures.performed)
