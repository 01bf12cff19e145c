use Rattle.acvp_http.proofs.LeftRuns.{life_left, over_left}
use Rattle.acvp_http.proofs.life.lives_leave_records.Goals as goal

pub returns : goal.returns
returns c =
    let request = c.left_records_are_left.ensures.request in
    let order = c.left_records_are_left.ensures.order in record {
      run = over_left request order;
      life = life_left request order c.records_outlast_keys.ensures.left;
    }
