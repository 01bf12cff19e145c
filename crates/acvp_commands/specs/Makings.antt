-- What files of keys and of secrets hold that are made.
use Rattle.std.specs.Prelude.{◌≡◌, ◌⊎◌, ℕ, List, [], ◌∷◌, Some}
use Rattle.std.specs.declared.io.ErrorKind.{ErrorKind}
use Rattle.acvp_keys.specs.Changes.{CantBeChanged, IsChanged}
use Rattle.acvp_keys.specs.KeysFile.{IsLine, IsLongText}
use Rattle.acvp_keys.specs.declared.changing.Change.{Change}
use Rattle.acvp_keys.specs.declared.changing.Change.TheVariants.{AddToken, RetireToken, AddSeed}
use Rattle.acvp_commands.specs.Files.{IsUnread}
use Rattle.acvp_commands.specs.declared.asked.Making.{Making}
use Rattle.acvp_commands.specs.declared.asked.Making.TheVariants as making
use Rattle.acvp_commands.specs.declared.fault.Fault.{Fault}
use Rattle.acvp_commands.specs.declared.fault.Fault.TheVariants as fault
use Rattle.acvp_commands.specs.declared.making.Drawn.{Drawn}

module _ (holds : List ℕ → List ℕ → Type 0) where
  -- the text says the keys of a file behind a change
  abbrev pub IsChangedFile : List ℕ → Change → List ℕ → Type 0
  IsChangedFile path change text = (old : List ℕ) × holds path old × IsChanged change old text

  -- the text of a file that is made, of what was drawn for it
  abbrev pub IsTextOf : Making → Drawn → List ℕ → Type 0
  IsTextOf (making.Keys to) drawn text = IsLongText text (Some drawn.first ∷ []) (drawn.second ∷ [])
  IsTextOf (making.TokenMore from to) drawn text = IsChangedFile from.now (AddToken drawn.first) text
  IsTextOf (making.TokenLess from to) drawn text = IsChangedFile from.now RetireToken text
  IsTextOf (making.SeedMore from to) drawn text = IsChangedFile from.now (AddSeed drawn.second) text
  IsTextOf (making.Secret to) drawn text = IsLine text drawn.first

module _ (holds : List ℕ → List ℕ → Type 0) (fails : List ℕ → ErrorKind → Type 0) where
  -- the keys of a file can't be changed so: it couldn't be read, what it says forbids it, or memory ran out
  abbrev pub IsUnchanged : List ℕ → Change → Fault → Type 0
  IsUnchanged path change told =
      (told ≡ fault.Memory) ⊎ IsUnread fails path fault.Keys told
      ⊎ ((old : List ℕ) × holds path old × (told ≡ fault.Keys) × CantBeChanged change old)

  -- so there is no text of a file that is to be made
  abbrev pub HasNoText : Making → Drawn → Fault → Type 0
  HasNoText (making.Keys to) drawn told = told ≡ fault.Memory
  HasNoText (making.TokenMore from to) drawn told = IsUnchanged from.now (AddToken drawn.first) told
  HasNoText (making.TokenLess from to) drawn told = IsUnchanged from.now RetireToken told
  HasNoText (making.SeedMore from to) drawn told = IsUnchanged from.now (AddSeed drawn.second) told
  HasNoText (making.Secret to) drawn told = told ≡ fault.Memory
