-- How much of an input its request needs.
use Rattle.std.specs.Prelude.{◌≡◌, ◌<◌, ◌⊎◌, ℕ, ◌+◌, List, [], ◌++◌, length, take, nat_lt, MatchBool, Result, Ok, Err}
use Rattle.acvp_policy.specs.declared.rule.Rule.{Rule}
use Rattle.acvp_desk.specs.Answer.{end_of_moments}
use Rattle.acvp_http.specs.Asks.{FramedHead, HasNoEmptyLine, IsBlockEnd, ReadsBlock, head_limit, window}

-- so many bytes are needed behind a block: the body, or nothing where the block is refused whatever follows it
abbrev pub needed_size : Result FramedHead Rule → ℕ
needed_size (Err rule) = 0
needed_size (Ok framed) = framed.size

abbrev pub NeedsBody : List ℕ → ℕ → Type 0
NeedsBody block size = (read : Result FramedHead Rule) × ReadsBlock block read × (size ≡ needed_size read)

-- The front of an input that its request needs: as much as a head may be where there is no empty line, else the block
-- of the head with its body, as far as these are there.
abbrev pub IsNeeded : List ℕ → List ℕ → Type 0
IsNeeded input front =
    (HasNoEmptyLine (window input) × (front ≡ window input))
    ⊎ ((n : ℕ) × (size : ℕ) × IsBlockEnd (window input) n × NeedsBody (take n input) size
    × (front ≡ take (n + size) input))

-- and at a moment: nothing where the moment isn't served
abbrev pub IsNeededAt : ℕ → List ℕ → List ℕ → Type 0
IsNeededAt moment input front = MatchBool (nat_lt moment end_of_moments) (IsNeeded input front) (front ≡ [])

-- what its request needs of an input begins with this
abbrev pub IsWithinNeeded : List ℕ → List ℕ → Type 0
IsWithinNeeded input part = (front : List ℕ) → IsNeeded input front → (rest : List ℕ) × (front ≡ part ++ rest)

-- no empty line is there, and fewer bytes than a head may have
abbrev pub IsShortOfHead : List ℕ → Type 0
IsShortOfHead bytes = HasNoEmptyLine bytes × (length bytes < head_limit)
