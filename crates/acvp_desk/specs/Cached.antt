-- What holds of each entry of the cache.
use Rattle.std.specs.Prelude.{◌≡◌, ℕ, List, [], Some, get_or, Contains, IfSome}
use Rattle.acvp_gen.specs.Prompts.{prompts_of}
use Rattle.acvp_answers.specs.Standards.{standard_of}
use Rattle.acvp_caps.specs.Capability.{CapabilityValue}
use Rattle.acvp_answers.specs.Answer.{Answer}
use Rattle.acvp_json.specs.VectorSet.{vector_set_data}
use Rattle.acvp_desk.specs.Answer.{IsReply}
use Rattle.acvp_desk.specs.declared.entry.Entry.{Entry}
use Rattle.acvp_desk.specs.declared.standard.Standard.{Standard}

-- the seed of an epoch that has one
abbrev pub seed_at : List (List ℕ) → ℕ → List ℕ
seed_at seeds epoch = get_or seeds epoch []

-- the standard answers, where they were made, are those to the prompts
abbrev pub HasItsStandard : Entry → Type 0
HasItsStandard e = IfSome e.standard (λ s. s ≡ standard_of e.prompts)

-- the reply that shows the prompts, where it was written, shows these
abbrev pub HasItsReply : Entry → Type 0
HasItsReply e = IfSome e.shown (λ s. IsReply s.reply.items (Some (vector_set_data s.sample e.prompts)))

-- the entry is what the vector set of this number has, by the entry's capability and its epoch's seed
pub record IsTrueTo (seeds : List (List ℕ)) (number : ℕ) (e : Entry) : Type 0 where
  pub prompts : e.prompts ≡ prompts_of (seed_at seeds e.epoch) number e.capability
  pub standard : HasItsStandard e
  pub reply : HasItsReply e

-- the standard answers are those of the vector set of a number, by a capability and under an epoch's seed
abbrev pub AreStandard : List (List ℕ) → ℕ → CapabilityValue → ℕ → List Answer → Type 0
AreStandard seeds number capability epoch answers =
    answers ≡ standard_of (prompts_of (seed_at seeds epoch) number capability)

-- kept standard answers are those of the vector set of this number
abbrev pub IsStandardOf : List (List ℕ) → ℕ → Standard → Type 0
IsStandardOf seeds number s = AreStandard seeds number s.capability s.epoch s.answers

-- kept standard answers are those that an entry has
pub record IsStandardIn (e : Entry) (s : Standard) : Type 0 where
  pub capability : s.capability ≡ e.capability
  pub epoch : s.epoch ≡ e.epoch
  pub answers : e.standard ≡ Some s.answers

-- each of what is cached is true to the number that it is cached under
pub record HoldsOfEach {E : Type 0} (P : ℕ → E → Type 0) (es : List (ℕ × E)) : Type 0 where
  pub each : (number : ℕ) (e : E) → Contains es (number, e) → P number e

abbrev pub AreTrueTo : List (List ℕ) → List (ℕ × Entry) → Type 0
AreTrueTo seeds = HoldsOfEach (IsTrueTo seeds)

abbrev pub AreStandards : List (List ℕ) → List (ℕ × Standard) → Type 0
AreStandards seeds = HoldsOfEach (IsStandardOf seeds)

-- the entry stays true to what it was true to
abbrev pub StaysTrue : Entry → Entry → Type 0
StaysTrue old new = (seeds : List (List ℕ)) (number : ℕ) → IsTrueTo seeds number old → IsTrueTo seeds number new
