-- What a desk holds.
use Rattle.std.specs.Prelude.{ℕ, ◌<◌, List, length, Option, IfSome, Result, Ok, Err}
use Rattle.acvp_desk.specs.declared.desk.NewFault.{NewFault}
use Rattle.acvp_token.specs.Keys.{Ring}
use Rattle.acvp_desk.specs.declared.keys.Keys.{Keys}

-- the keys, by the tokens' and the seeds
abbrev pub keys_of : Ring → List (List ℕ) → Keys
keys_of ring seeds = record { token = ring; seed = seeds }

-- the keys, the records, and how many vector sets the cache holds something of
pub record DeskValue (T : Type 0) : Type 0 where
  pub keys : Keys
  pub tables : T
  pub cached : ℕ

-- the seed of the greatest epoch is there, and so is that of each other
abbrev pub HasSeeds : List (List ℕ) → Option ℕ → Type 0
HasSeeds seeds greatest = IfSome greatest (λ epoch. epoch < length seeds)

-- the records, in a desk or handed back
abbrev pub tables_of : {T : Type 0} → Result (DeskValue T) (T × NewFault) → T
tables_of (Ok desk) = desk.tables
tables_of (Err fault) = fault.0
