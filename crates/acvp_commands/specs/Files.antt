-- What the files of a command say, where it is told what they hold.
use Rattle.std.specs.Prelude.{◌≡◌, ◌⊎◌, ℕ, List}
use Rattle.std.specs.declared.io.ErrorKind.{ErrorKind}
use Rattle.acvp_token.specs.Keys.{Ring}
use Rattle.acvp_commands.specs.Faults.{fault_of_kind}
use Rattle.acvp_keys.specs.KeysFile.{IsKeysText, IsLine}
use Rattle.acvp_commands.specs.declared.fault.Fault.{Fault}
use Rattle.acvp_commands.specs.declared.fault.Fault.TheVariants as fault
use Rattle.acvp_desk.specs.declared.keys.Keys.{Keys}

module _ (holds : List ℕ → List ℕ → Type 0) where
  -- the keys are those of the text in a file
  abbrev pub HoldsKeys : List ℕ → Keys → Type 0
  HoldsKeys path keys = (text : List ℕ) × holds path text × IsKeysText text keys.token keys.seed

  -- the secret is that of the line in a file
  abbrev pub HoldsSecret : List ℕ → List ℕ → Type 0
  HoldsSecret path secret = (text : List ℕ) × holds path text × IsLine text secret

-- the file couldn't be read, and that is told as this fault, or as want of memory where that was the reason
abbrev pub IsUnread : (List ℕ → ErrorKind → Type 0) → List ℕ → Fault → Fault → Type 0
IsUnread fails path of told = (kind : ErrorKind) × fails path kind × (told ≡ fault_of_kind of kind)

module _ (holds : List ℕ → List ℕ → Type 0) (fails : List ℕ → ErrorKind → Type 0) where
  -- the file couldn't be read, or what it holds is of neither form
  abbrev pub HasNoKeys : List ℕ → Fault → Type 0
  HasNoKeys path told = IsUnread fails path fault.Keys told ⊎ ((text : List ℕ) × holds path text × (told ≡ fault.Keys)
      × ((ring : Ring) (seeds : List (List ℕ)) → IsKeysText text ring seeds → ⊥))

  -- the file couldn't be read, or what it holds is no such line
  abbrev pub HasNoSecret : List ℕ → Fault → Type 0
  HasNoSecret path told = IsUnread fails path fault.Secret told
      ⊎ ((text : List ℕ) × holds path text × (told ≡ fault.Secret) × ((bytes : List ℕ) → IsLine text bytes → ⊥))
