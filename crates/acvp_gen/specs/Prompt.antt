-- Prompts as contracts see them: the groups of a vector set and their tests.
use Rattle.std.specs.Prelude.{ℕ, List, Option, None, Some}
use Rattle.acvp_caps.specs.declared.algorithm.Algorithm.{Algorithm}
use Rattle.acvp_gen.specs.declared.group.GroupForm.{GroupForm}
use Rattle.acvp_gen.specs.declared.group.GroupForm.TheVariants as form
use Rattle.acvp_gen.specs.declared.group.GroupKind.{GroupKind}
use Rattle.acvp_gen.specs.declared.group.GroupKind.TheVariants as kind
use Rattle.acvp_gen.specs.declared.group.Sizes.{Sizes}

-- a test: its number, the bits of its message, the message, and the key (empty for a hash function)
pub record TestValue : Type 0 where
  pub number : ℕ
  pub bits : ℕ
  pub message : List ℕ
  pub key : List ℕ

-- a group: its number, its form (of HMAC with the bits of keys, messages and MACs), and its tests
pub record GroupValue : Type 0 where
  pub number : ℕ
  pub form : GroupForm
  pub tests : List TestValue

-- what the tests of a group ask for
abbrev pub kind_of : GroupForm → GroupKind
kind_of form.Digest = kind.Functional
kind_of form.MonteCarlo = kind.MonteCarlo
kind_of (form.Mac sizes) = kind.Functional

-- the sizes that a group of HMAC has
abbrev pub sizes_of : GroupForm → Option Sizes
sizes_of form.Digest = None
sizes_of form.MonteCarlo = None
sizes_of (form.Mac sizes) = Some sizes

-- the prompts of a vector set: its number, its algorithm and its groups
pub record PromptsValue : Type 0 where
  pub vs : ℕ
  pub algorithm : Algorithm
  pub groups : List GroupValue
