use Rattle.std.proofs.Common.{◌≡◌, map, take}
use Rattle.std.specs.List.{enumerate_from}
use Rattle.serde_json.specs.View.{view}
use Rattle.acvp_json.specs.SetResults.{result_data}
use Rattle.acvp_json.proofs.set_results.result_values.Given as goal

abbrev pub invariant-loop-place : goal.invariant-loop-place
invariant-loop-place l = map view l.values.items ≡ map result_data (enumerate_from 1 (take l.place l.verdicts))
