-- The object of a vector set's expected answers: the standard's, in the places that a client's take.
use Rattle.std.specs.Prelude.{ℕ, List, [], ◌∷◌, codes, unwrap_or}
use Rattle.serde_json.specs.Data.{Data, string, object, no_members, member}
use Rattle.acvp_caps.specs.Algorithms.{name_of}
use Rattle.acvp_gen.specs.declared.group.GroupForm.{GroupForm}
use Rattle.acvp_gen.specs.declared.group.GroupForm.TheVariants.{Digest, MonteCarlo, Mac}
use Rattle.acvp_gen.specs.Prompt.{TestValue, GroupValue, PromptsValue}
use Rattle.acvp_answers.specs.Answer.{Answer}
use Rattle.acvp_answers.specs.Verdicts.{answer_to}
use Rattle.acvp_json.specs.Values.{count, array_of}

-- the texts that answer the test of a number, of which there may be none
abbrev pub texts_at : List Answer → ℕ → List (List ℕ)
texts_at standard n = unwrap_or (answer_to standard n) []

-- the first of some texts, empty where there is none
abbrev pub first_text : List (List ℕ) → List ℕ
first_text [] = []
first_text (text ∷ more) = text

-- a digest
abbrev pub digest_data : List ℕ → Data
digest_data text = object (member (codes "md") (string text) no_members)

-- a functional test of a hash function, by its texts and its number
abbrev pub expected_digest : List (List ℕ) → ℕ → Data
expected_digest texts n =
    object (member (codes "md") (string (first_text texts))
    (member (codes "tcId") (count n) no_members))

-- a Monte Carlo test: each checkpoint
abbrev pub expected_checkpoints : List (List ℕ) → ℕ → Data
expected_checkpoints texts n =
    object (member (codes "resultsArray") (array_of digest_data texts)
    (member (codes "tcId") (count n) no_members))

-- a test of HMAC
abbrev pub expected_mac : List (List ℕ) → ℕ → Data
expected_mac texts n =
    object (member (codes "mac") (string (first_text texts))
    (member (codes "tcId") (count n) no_members))

-- a test of a group of this form
abbrev pub expected_answer : GroupForm → List (List ℕ) → ℕ → Data
expected_answer Digest texts n = expected_digest texts n
expected_answer MonteCarlo texts n = expected_checkpoints texts n
expected_answer (Mac sizes) texts n = expected_mac texts n

abbrev pub expected_test : List Answer → GroupForm → TestValue → Data
expected_test standard form test = expected_answer form (texts_at standard test.number) test.number

-- a group: the answers to its tests, and its number
abbrev pub expected_group : List Answer → GroupValue → Data
expected_group standard group =
    object (member (codes "tests") (array_of (expected_test standard group.form) group.tests)
    (member (codes "tgId") (count group.number) no_members))

-- the answers to a vector set: its algorithm, its revision, its groups and its number
abbrev pub expected_data : PromptsValue → List Answer → Data
expected_data prompts standard =
    object (member (codes "algorithm") (string (name_of prompts.algorithm))
    (member (codes "revision") (string (codes "1.0"))
    (member (codes "testGroups") (array_of (expected_group standard) prompts.groups)
    (member (codes "vsId") (count prompts.vs) no_members))))
