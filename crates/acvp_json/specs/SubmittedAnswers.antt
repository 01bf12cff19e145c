-- What a body of answers says, whatever the vector set's prompts are.
use Rattle.std.specs.Prelude.{ℕ, List, codes, Option, Some, None, option_map, option_and_then}
use Rattle.serde_json.specs.Data.{Data}
use Rattle.serde_json.specs.Find.{get, as_array}
use Rattle.acvp_json.specs.Elements.{each}
use Rattle.acvp_json.specs.Members.{number_at, text_at, optional_text}

-- an answer that is given: the numbers of the group that it stands in and of the test, and its texts by their members
pub record GivenValue : Type 0 where
  pub group : ℕ
  pub test : ℕ
  pub md : Option (List ℕ)
  pub mac : Option (List ℕ)
  pub checkpoints : Option (List (List ℕ))

-- the whole: the vector set's number, the algorithm and the revision where they are told, and the answers, by groups
pub record SubmissionValue : Type 0 where
  pub vs : ℕ
  pub algorithm : Option (List ℕ)
  pub revision : Option (List ℕ)
  pub groups : List (List GivenValue)

-- what a reading finds of each element of a member that is an array
abbrev pub each_in : {X : Type 0} → (Data → Option X) → Option Data → Option (List X)
each_in f member = option_and_then (each f) (option_and_then as_array member)

-- the results of a Monte Carlo test: absent, or an array of objects with a text `md`
abbrev pub optional_checkpoints : Option Data → Option (Option (List (List ℕ)))
optional_checkpoints None = Some None
optional_checkpoints (Some d) = option_map Some (each_in (text_at (codes "md")) (Some d))

-- an answer in the group of a number
abbrev pub given_of : ℕ → Data → Option GivenValue
given_of group d =
    option_and_then (λ test. option_and_then (λ md. option_and_then (λ mac. option_map (λ checkpoints. record {
      group = group;
      test = test;
      md = md;
      mac = mac;
      checkpoints = checkpoints;
    })
    (optional_checkpoints (get (codes "resultsArray") d))) (optional_text (get (codes "mac") d)))
    (optional_text (get (codes "md") d))) (number_at (codes "tcId") d)

-- the answers in a group
abbrev pub group_of : Data → Option (List GivenValue)
group_of d = option_and_then (λ group. each_in (given_of group) (get (codes "tests") d)) (number_at (codes "tgId") d)

-- what the object of a body of answers says, where it has its form
abbrev pub submission_of : Data → Option SubmissionValue
submission_of d =
    option_and_then (λ vs. option_and_then (λ algorithm. option_and_then (λ revision. option_map (λ groups. record {
      vs = vs;
      algorithm = algorithm;
      revision = revision;
      groups = groups;
    })
    (each_in group_of (get (codes "testGroups") d))) (optional_text (get (codes "revision") d)))
    (optional_text (get (codes "algorithm") d))) (number_at (codes "vsId") d)
