-- A query of the rows is a look at the tables.
use Rattle.std.proofs.Common.{◌≡◌, Result, Err, IsTrue}
use Rattle.std.specs.Prelude.{OnOk}
use Rattle.sqlite.specs.Held.{Held, state}
use Rattle.sqlite_trees.specs.declared.store.Store.{Ghosts}
use Rattle.sqlite_trees.specs.Tree.{Trees}
use Rattle.acvp_desk.specs.Serves.{Looks}
use Rattle.acvp_store.specs.Connection.{IsRead}
use Rattle.acvp_store.specs.Store.{is_clean, meaning_of}
use Rattle.acvp_store.proofs.KeptPromises.{reads}
use Rattle.acvp_tables.specs.declared.tables.StoreFault.{StoreFault}
use Rattle.acvp_tables.specs.declared.tables.StoreFault.TheVariants.{Memory}

module _ {S : Type 0} (g : Ghosts S) (a b : Held S)
    (settled : (db : Trees) → IsTrue (state g a).is_open → (state g a).may_leave db
    → db ≡ (state g a).committed.trees) where
  pub read_looks : {X Y E F : Type 0} (r : Result X E) (s : Result Y F)
      → OnOk s (is_clean g b → IsTrue (state g a).is_open → IsTrue (state g b).is_open)
      → IsRead r (state g a) (state g b) → Looks (meaning_of g) s a b
  read_looks r s stays h = record {
    was_open = h.stays.was_open;
    was_clean = h.was_clean;
    stays_open = stays;
    same = λ live c st. (reads g a b st.3 settled {X = StoreFault} (Err Memory) plain).same live c st;
    left = λ clean live c d st. (reads g a b st.3 settled {X = StoreFault} (Err Memory) plain).left clean live c d st;
    kept = λ clean c d was clean' db may. was (h.was_clean clean) db (h.left clean db may);
  }
    where
      plain : IsRead {X = StoreFault} {E = StoreFault} (Err Memory) (state g a) (state g b)
      plain = record {
        stays = h.stays;
        was_clean = h.was_clean;
        stays_open = tt;
        limit = h.limit;
        left = h.left;
      }
