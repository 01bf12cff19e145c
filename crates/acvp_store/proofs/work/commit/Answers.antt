use Rattle.std.proofs.Common.{◌≡◌, IsTrue, Ok, Err, ap, subst, rules}
use Rattle.acvp_store.proofs.Words.{Held, IsWritten, state, Trees}
use Rattle.acvp_store.proofs.QueryLeaves.{clean_if_open}
use Rattle.acvp_store.proofs.Together.{dropped, uncommitted, committed}
use Rattle.acvp_store.proofs.work.commit.Goals as goal

pub returns-in-Err : goal.returns-in-Err
returns-in-Err g c =
    let st = state g.S.Store in
    let old = c.args.conn.now in
    let end = c.drop-tx.new.self.0 in
    let settled = λ (h : Held _) (db : Trees) (live : IsTrue (st h).is_open) (may : (st h).may_leave db).
    g.met.S.Store.settled h.store db live may in
    let clean = clean_if_open (st end).is_clean (st end).is_open (g.met.S.Store.shut_if_dirty end.store) in
    let whole = dropped (st old) (st c.transaction-tx.result.conn.now) (st c.run.new.tx.conn.now) (st end)
    (ap st c.transaction-tx.ensures.begun) (g.W.Work.change c.args.work.now) c.requires clean (settled old)
    (settled end) c.in-Err.fault c.in-Err.fault c.in-Err.ensures.inside c.drop-tx.ensures.undone
    c.drop-tx.ensures.survives in
    let same : end ≡ c.conn-1.given.0 = search rules in
    subst (λ h. IsWritten (Err c.in-Err.fault) (st old) (st h) (g.W.Work.change c.args.work.now)) same whole

pub returns-in-Ok-commit : goal.returns-in-Ok-commit
returns-in-Ok-commit g c =
    let st = state g.S.Store in
    let old = c.args.conn.now in
    let end = c.commit.new.self.0 in
    let settled = λ (h : Held _) (db : Trees) (live : IsTrue (st h).is_open) (may : (st h).may_leave db).
    g.met.S.Store.settled h.store db live may in
    let clean = clean_if_open (st end).is_clean (st end).is_open (g.met.S.Store.shut_if_dirty end.store) in
    let whole = committed (st old) (st c.transaction-tx.result.conn.now) (st c.run.new.tx.conn.now) (st end)
    (ap st c.transaction-tx.ensures.begun) (g.W.Work.change c.args.work.now) c.requires clean (settled old)
    (settled end) tt c.in-Ok.ensures.inside c.commit.ensures.survives tt
    (λ sure. (c.in-Ok-commit.ensures.ok sure).1) in
    let same : end ≡ c.conn-2-1.given.0 = search rules in
    subst (λ h. IsWritten (Ok tt) (st old) (st h) (g.W.Work.change c.args.work.now)) same whole

pub returns-in-Err-commit : goal.returns-in-Err-commit
returns-in-Err-commit g c =
    let st = state g.S.Store in
    let old = c.args.conn.now in
    let end = c.commit.new.self.0 in
    let settled = λ (h : Held _) (db : Trees) (live : IsTrue (st h).is_open) (may : (st h).may_leave db).
    g.met.S.Store.settled h.store db live may in
    let clean = clean_if_open (st end).is_clean (st end).is_open (g.met.S.Store.shut_if_dirty end.store) in
    let whole = uncommitted (st old) (st c.transaction-tx.result.conn.now) (st c.run.new.tx.conn.now) (st end)
    (ap st c.transaction-tx.ensures.begun) (g.W.Work.change c.args.work.now) c.requires clean (settled old)
    (settled end) tt c.in-Ok.ensures.inside c.commit.ensures.survives c.fault_of.result c.in-Err-commit.error
    c.in-Err-commit.ensures.err in
    let same : end ≡ c.conn-2-1.given.0 = search rules in
    subst (λ h. IsWritten (Err c.fault_of.result) (st old) (st h) (g.W.Work.change c.args.work.now)) same whole
