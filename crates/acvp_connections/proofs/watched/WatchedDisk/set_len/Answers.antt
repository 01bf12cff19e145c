use Rattle.acvp_connections.proofs.watched.WatchedDisk.set_len.Goals as goal

-- of a machine that has stopped: what holds of the file that the call is passed on to
pub returns-clause-frozen : goal.returns-clause-frozen
returns-clause-frozen g c frozen =
    let (failed, stays) = c.set_len.ensures.frozen frozen in (
      failed,
      record {
        frozen = stays.frozen;
        same = stays.same;
        clean = stays.clean;
        no_more = stays.no_more;
        no_fewer = stays.no_fewer;
      },
    )
