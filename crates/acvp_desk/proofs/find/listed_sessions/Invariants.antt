use Rattle.std.proofs.Common.{List, map, Ok}
use Rattle.std.specs.Prelude.{take}
use Rattle.acvp_tables.specs.State.{session_record}
use Rattle.acvp_tables.specs.declared.tables.StoreFault.{StoreFault}
use Rattle.acvp_desk.specs.Place.{listed_session}
use Rattle.acvp_desk.specs.Serves.{Looks, Sees}
use Rattle.acvp_desk.specs.declared.found.ListedSession.{ListedSession}
use Rattle.acvp_desk.proofs.find.listed_sessions.Given as goal

abbrev pub invariant-loop-row : goal.invariant-loop-row
invariant-loop-row g l =
    Looks g.T.Tables.meaning {X = List ListedSession} {E = StoreFault} (Ok l.sessions.items) l.fn.tables l.tables
    × Sees g.T.Tables.meaning {E = StoreFault} (Ok l.sessions.items) l.fn.tables l.tables
    (λ seeds c. map (λ row. listed_session c.requests (session_record row)) (take l.row-index l.fn.rows))
