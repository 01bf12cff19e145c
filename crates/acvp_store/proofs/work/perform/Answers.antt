use Rattle.acvp_store.proofs.Words.{ap, state}
use Rattle.acvp_store.proofs.QueryLeaves.{clean_if_open}
use Rattle.acvp_store.proofs.Together.{kept_same}
use Rattle.acvp_store.proofs.work.perform.Goals as goal

pub returns-clause-performed : goal.returns-clause-performed
returns-clause-performed g c = record {
  outcome = c.execute.result;
  ok = c.done.ensures;
  open_is_clean = clean_if_open _ _ (g.met.S.Store.shut_if_dirty c.execute.new.self.conn.now.store);
  ran = c.execute.ensures.runs;
  ended = λ off. kept_same _ _ (ap (state g.S.Store) (c.execute.ensures.ended off).1);
  survives = c.execute.ensures.survives;
}
