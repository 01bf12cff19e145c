-- What reads of a request do, and why they stop.
use Rattle.std.specs.Prelude.{◌≡◌, ◌<◌, ◌≤◌, ℕ, List, [], ◌∷◌, ◌++◌, length, take, Bool, true, false, Option, MatchBool}
use Rattle.std.specs.Io.KnownBytes.{IsAtEnd}
use Rattle.acvp_http.specs.declared.receiving.ReceiveFault.{ReceiveFault}
use Rattle.acvp_http.specs.declared.receiving.ReceiveFault.TheVariants.{Memory, Read}
use Rattle.acvp_http.specs.declared.connection.ServeFault.{ServeFault}
use Rattle.acvp_http.specs.declared.connection.ServeFault.TheVariants.{Turns, Read as Unread, Write as Unwritten}
use Rattle.acvp_http.specs.Asks.{ends_empty, head_limit}
use Rattle.acvp_http.specs.Connection.{most_request_reads}
use Rattle.acvp_http.specs.Private.Reading.{StopsReading}
use Rattle.acvp_http.specs.Source.{InputStream, Gives, ReadsTooOften}

-- so many bytes at most were taken
abbrev pub TakesFew : ℕ → InputStream → InputStream → Type 0
TakesFew most old new = (part : List ℕ) × Gives old new part × (length part ≤ most)

-- The text is no longer than a head may be, and no shorter front of it ends in an empty line.
pub record IsHeadBegun (text : List ℕ) : Type 0 where
  pub few : length text ≤ head_limit
  pub first : (k : ℕ) → k < length text → ends_empty (take k text) ≡ false

abbrev pub TakesOfHead : InputStream → InputStream → Type 0
TakesOfHead old new = (part : List ℕ) × Gives old new part × IsHeadBegun part

-- a read has failed or there were too many, or memory was refused
abbrev pub StopsReceiving : ReceiveFault → InputStream → ℕ → Type 0
StopsReceiving Memory new limit = new.failed ≡ false
StopsReceiving (Read fault) new limit = StopsReading fault new limit

-- one more byte was taken, or there was none
abbrev pub TakesByte : Bool → InputStream → InputStream → List ℕ → List ℕ → Type 0
TakesByte more old new before after = MatchBool more
    ((byte : ℕ) × (after ≡ before ++ byte ∷ []) × Gives old new (byte ∷ []))
    ((after ≡ before) × Gives old new [] × IsAtEnd new.held)

-- so many more bytes were taken, and no more than wanted; none only at the end, or where none is wanted
abbrev pub TakesPiece : ℕ → ℕ → InputStream → InputStream → List ℕ → List ℕ → Type 0
TakesPiece wanted count old new before after =
    (part : List ℕ) × (after ≡ before ++ part) × Gives old new part × (length part ≡ count) × (count ≤ wanted)
    × (count ≡ 0 → 0 < wanted → IsAtEnd new.held)

-- The text is the block of a head, or there is no empty line in it and no more of it is to be taken; so much is left.
pub record IsHeadTaken (left : Option (List ℕ)) (text : List ℕ) : Type 0 where
  pub few : length text ≤ head_limit
  pub first : (k : ℕ) → k < length text → ends_empty (take k text) ≡ false
  pub whole : ends_empty text ≡ false → length text < head_limit → IsAtEnd left

-- So many more bytes were taken, or as many as there were.
pub record IsBodyTaken (wanted : ℕ) (left : Option (List ℕ)) (part : List ℕ) : Type 0 where
  pub few : length part ≤ wanted
  pub whole : length part < wanted → IsAtEnd left

-- a read has failed, or there were too many
abbrev pub StopsConnection : ServeFault → InputStream → InputStream → Type 0
StopsConnection Unread old new = new.failed ≡ true
StopsConnection Turns old new = (new.failed ≡ false) × ReadsTooOften most_request_reads old new
StopsConnection Unwritten old new = ⊥
