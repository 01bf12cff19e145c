use Rattle.std.proofs.Common.{inl}
use Rattle.acvp_keys.proofs.KeysLemmas.{only_long}
use Rattle.acvp_keys.proofs.reading.lines_of.Goals as goal

pub returns-in_default : goal.returns-in_default
returns-in_default c = only_long c.args.text.now c.read_long.result c.in_default.ensures c.read_long.ensures

pub returns : goal.returns
returns c = rw c.short.ensures (inl c.in-Some.ensures)
