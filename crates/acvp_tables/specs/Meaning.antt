-- What a state of the tables means, however they are kept.
use Rattle.acvp_tables.specs.Content.{Content}

pub record Meaning (T : Type 0) : Type 1 where
  -- it stands for this content, and where it is open nothing in it waits to be committed
  pub stands : T → Content → Type 0
  -- the store is open
  pub is_open : T → Type 0
  -- the disk is clean: it has told no lie so far
  pub is_clean : T → Type 0
  -- What an open finds after a crash at this moment stands for one of the two contents, where the disk is clean.
  -- Only the store itself says so.
  pub leaves : T → Content → Content → Type 0

-- the same of those contents alone that meet a condition
abbrev pub narrowed : {T : Type 0} → Meaning T → (Content → Type 0) → Meaning T
narrowed meaning holds = record meaning { stands = λ t c. meaning.stands t c × holds c }
