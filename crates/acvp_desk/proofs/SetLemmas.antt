-- What is read of the answers to a vector set is what the records hold of them; and what is shown where it has none.
use Rattle.std.proofs.Common.{◌≡◌, ℕ, List, [], ◌∷◌, ◌++◌, map, Bool, true, false, Option, None, Some, refl, sym, ap}
use Rattle.std.proofs.Common.{◌∙◌, length, ◌≤◌, append-nil}
use Rattle.std.specs.Prelude.{◌/◌, ◌==◌, drop, is_some, option_map, option_and_then, IfSome}
use Rattle.std.specs.List.{All, flat_map}
use Rattle.std.proofs.Math.ListN.{drop_of_length-le}
use Rattle.std.proofs.lemmas.List.{map-append}
use Rattle.std.proofs.lemmas.List.Elements.{All-head, All-tail}
use Rattle.acvp_answers.specs.Answer.{Answer}
use Rattle.acvp_answers.specs.Standards.{group_answers, standard_of, texts_on}
use Rattle.acvp_answers.specs.Verdicts.{answer_to, verdict_on, verdicts_of}
use Rattle.acvp_answers.specs.declared.verdict.Verdict.{Verdict}
use Rattle.acvp_answers.specs.declared.verdict.Verdict.TheVariants.{Missing}
use Rattle.acvp_gen.specs.Algorithms.{hash_of}
use Rattle.acvp_gen.specs.Prompt.{GroupValue, PromptsValue, TestValue}
use Rattle.acvp_mac.specs.declared.HashName.{HashName}
use Rattle.acvp_tables.specs.Content.{Content, set_at, set_summary, set_verdicts}
use Rattle.acvp_tables.specs.Graded.{GradedValue}
use Rattle.acvp_policy.specs.declared.facts.SessionFacts.{SessionFacts}
use Rattle.acvp_tables.specs.State.{State, SetRecord, state_of, set_record, set_record_at, IsWellNumbered}
use Rattle.acvp_tables.specs.declared.rows.SetRow.{SetRow}
use Rattle.acvp_desk.specs.Kept.{IsGradedSet, IsRightly, IsKept}
use Rattle.acvp_tables.specs.declared.summary.SetSummary.{SetSummary}
use Rattle.acvp_desk.specs.Private.SetRows.{set_facts_from, source_from}
use Rattle.acvp_desk.specs.Sets.{facts_of_set, if_in_session, set_facts, set_in_session, source_of, verdicts_under}
use Rattle.acvp_desk.specs.Sets.{verdicts_on_set}
use Rattle.acvp_desk.proofs.Elsewhere.{no_set_in}

module _ (follows : (n : ℕ) (c : Content)
    → set_record_at n (state_of c).sets ≡ option_map set_record (set_at n c.sets)) where
  -- ---- the verdicts that are kept are those that are worked out anew

  verdicts_right : (row : SetRow) (seed : List ℕ) (graded : Option GradedValue) → IfSome graded (IsRightly seed row)
      → option_map (λ (g : GradedValue). g.verdicts) graded ≡ verdicts_under (set_record row) (Some seed)
      (option_map (λ (g : GradedValue). g.answers) graded)
  verdicts_right row seed None rightly = refl
  verdicts_right row seed (Some g) rightly = ap Some rightly.verdicts

  graded_verdicts : (seeds : List (List ℕ)) (row : SetRow) → IsGradedSet seeds row
      → set_verdicts row ≡ verdicts_on_set seeds (set_record row)
  unfolding IsGradedSet verdicts_on_set
  graded_verdicts seeds row right = rw (right.1) (verdicts_right row right.0 row.graded right.2)

  verdicts_among : (seeds : List (List ℕ)) (n : ℕ) (sets : List SetRow) → All (IsGradedSet seeds) sets
      → option_and_then set_verdicts (set_at n sets) ≡ option_and_then (verdicts_on_set seeds)
      (option_map set_record (set_at n sets))
  verdicts_among seeds n [] graded = refl
  verdicts_among seeds n (row ∷ sets) graded =
      go (row.number == n) refl (graded_verdicts seeds row (All-head (IsGradedSet seeds) row sets graded))
      (verdicts_among seeds n sets (All-tail (IsGradedSet seeds) row sets graded))
    where
      go : (b : Bool) → (row.number == n) ≡ b → set_verdicts row ≡ verdicts_on_set seeds (set_record row)
          → option_and_then set_verdicts (set_at n sets) ≡ option_and_then (verdicts_on_set seeds)
          (option_map set_record (set_at n sets))
          → option_and_then set_verdicts (set_at n (row ∷ sets)) ≡ option_and_then (verdicts_on_set seeds)
          (option_map set_record (set_at n (row ∷ sets)))
      go true is same later = rw is same
      go false is same later = rw is later

  pub verdicts_found : (seeds : List (List ℕ)) (c : Content) (n : ℕ) (found : Option (List Verdict)) → IsKept seeds c
      → found ≡ option_and_then set_verdicts (set_at n c.sets)
      → found ≡ option_and_then (verdicts_on_set seeds) (set_record_at n (state_of c).sets)
  verdicts_found seeds c n found kept is = is ∙ verdicts_among seeds n c.sets kept.graded
      ∙ sym (ap (option_and_then (verdicts_on_set seeds)) (follows n c))

  -- ---- by the row that is read of a set

  -- how it stands in a session
  facts_found : (c : Content) (session n : ℕ) (of : SessionFacts) (row : Option SetSummary)
      → row ≡ option_map set_summary (set_at n c.sets)
      → set_facts_from session of row ≡ option_map (facts_of_set of) (set_in_session session n (state_of c).sets)
  facts_found c session n of row read = rw (read, follows n c) (go (set_at n c.sets))
    where
      go : (kept : Option SetRow)
          → set_facts_from session of (option_map set_summary kept) ≡ option_map (facts_of_set of)
          (option_and_then (if_in_session session) (option_map set_record kept))
      go None = refl
      go (Some kept) = on (kept.session == session) refl
        where
          answered : (graded : Option GradedValue) → is_some (option_map (λ (g : GradedValue). g.disposition) graded)
              ≡ is_some (option_map (λ (g : GradedValue). g.answers) graded)
          answered None = refl
          answered (Some g) = refl

          on : (b : Bool) → (kept.session == session) ≡ b
              → set_facts_from session of (Some (set_summary kept)) ≡ option_map (facts_of_set of)
              (if_in_session session (set_record kept))
          on true is = rw (is, answered kept.graded) refl
          on false is = rw is refl

  pub facts_stand : (c : Content) (session n : ℕ) (facts : Option SessionFacts) (of : SessionFacts)
      (row : Option SetSummary) → Some of ≡ facts
      → row ≡ option_map set_summary (set_at n c.sets)
      → set_facts_from session of row ≡ set_facts facts session n (state_of c).sets
  unfolding set_facts
  facts_stand c session n facts of row some read = rw (← some) (facts_found c session n of row read)

  -- what its prompts are made from
  pub source_found : (c : Content) (n : ℕ) (row : Option SetSummary) → row ≡ option_map set_summary (set_at n c.sets)
      → source_from row (set_at n c.sets) ≡ option_map source_of (set_record_at n (state_of c).sets)
  source_found c n row read = rw (read, follows n c) (go (set_at n c.sets))
    where
      go : (kept : Option SetRow)
          → source_from (option_map set_summary kept) kept ≡ option_map source_of (option_map set_record kept)
      go None = refl
      go (Some kept) = refl

-- where there is no capability there is no row
pub no_row : (set : SetSummary) (kept : Option SetRow) → None ≡ source_from (Some set) kept
    → None ≡ option_map set_summary kept
no_row set None e = refl
no_row set (Some kept) e = absurd (cc)

-- ---- which sets are of a session

-- a set whose number names another session isn't there
pub no_set_elsewhere : (names : (n : ℕ) (state : State) (row : SetRecord) → IsWellNumbered state
    → set_record_at n state.sets ≡ Some row → row.session ≡ n / 100)
    → (facts : Option SessionFacts) (session n : ℕ) (state : State) → IsWellNumbered state
    → ((n / 100) == session) ≡ false
    → None ≡ set_facts facts session n state.sets
unfolding set_facts
no_set_elsewhere names facts session n state well apart = none facts
  where
    none : (facts : Option SessionFacts)
        → None ≡ option_and_then (λ of. option_map (facts_of_set of) (set_in_session session n state.sets)) facts
    none None = refl
    none (Some of) = rw (no_set_in names session n state well apart) refl

-- ---- where there are no answers

-- a verdict on each test of some groups
abbrev pub missing_in : List GroupValue → List Verdict
missing_in groups = flat_map (λ g. map (λ t. Missing) g.tests) groups

missing_tests : (name : HashName) (g : GroupValue) (tests : List TestValue)
    → map (λ (s : Answer). verdict_on (answer_to [] s.0) s.1) (map (λ t. (t.number, texts_on name g.form t)) tests)
    ≡ map (λ t. Missing) tests
missing_tests name g [] = refl
missing_tests name g (t ∷ tests) = ap (λ rest. Missing ∷ rest) (missing_tests name g tests)

missing_groups : (name : HashName) (groups : List GroupValue)
    → verdicts_of (flat_map (group_answers name) groups) [] ≡ missing_in groups
missing_groups name [] = refl
missing_groups name (g ∷ groups) =
    map-append (λ (s : Answer). verdict_on (answer_to [] s.0) s.1) (group_answers name g)
    (flat_map (group_answers name) groups)
    ∙ ap (λ front. front ++ verdicts_of (flat_map (group_answers name) groups) []) (missing_tests name g g.tests)
    ∙ ap (λ rest. map (λ t. Missing) g.tests ++ rest) (missing_groups name groups)

all_missing : (prompts : PromptsValue) → missing_in prompts.groups ≡ verdicts_of (standard_of prompts) []
all_missing prompts = sym (missing_groups (hash_of prompts.algorithm) prompts.groups)

-- where the verdicts on all groups are told
pub all_told : (prompts : PromptsValue) (told : List Verdict) (i : ℕ) → length prompts.groups ≤ i
    → told ++ missing_in (drop i prompts.groups) ≡ missing_in prompts.groups
    → told ≡ verdicts_of (standard_of prompts) []
all_told prompts told i past so =
    let none : drop i prompts.groups ≡ [] = drop_of_length-le prompts.groups past in
    let so' : told ++ [] ≡ missing_in prompts.groups = rw none at so in
    sym (append-nil told) ∙ so' ∙ all_missing prompts
