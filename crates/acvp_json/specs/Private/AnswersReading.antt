-- For private clauses: the same reading of answers one by one, over the answers read so far.
use Rattle.std.specs.Prelude.{◌≡◌, ◌⊎◌, List, [], ◌∷◌, Result, Ok, Err}
use Rattle.std.specs.List.{filter_map}
use Rattle.std.specs.Map.{keys_of}
use Rattle.acvp_gen.specs.Prompt.{PromptsValue}
use Rattle.acvp_answers.specs.Answer.{Answer}
use Rattle.acvp_json.specs.declared.fault.BodyFault.{BodyFault}
use Rattle.acvp_json.specs.declared.fault.BodyFault.TheVariants.{Memory}
use Rattle.acvp_json.specs.AnswersBody.{given_conditions, answer_given, placed}
use Rattle.acvp_json.specs.SubmittedAnswers.{GivenValue}
use Rattle.acvp_caps.specs.Conditions.{judged}

-- the answers after one that is given, or the fault of the first condition that it breaks
abbrev pub after_given : PromptsValue → List Answer → GivenValue → Result (List Answer) BodyFault
after_given prompts answers given =
    judged (given_conditions prompts (keys_of answers) given)
    (placed answers (filter_map (answer_given prompts) (given ∷ [])))

abbrev pub and_then_all : (List Answer → Result (List Answer) BodyFault) → Result (List Answer) BodyFault
    → Result (List Answer) BodyFault
and_then_all more (Ok answers) = more answers
and_then_all more (Err fault) = Err fault

abbrev pub after_all : PromptsValue → List Answer → List GivenValue → Result (List Answer) BodyFault
after_all prompts answers [] = Ok answers
after_all prompts answers (given ∷ more) =
    and_then_all (λ before. after_all prompts before more) (after_given prompts answers given)

-- what a call leaves is what was to come, or it answers the fault; or memory was refused
abbrev pub LeadsTo : Result (Unit {0}) BodyFault → List Answer → Result (List Answer) BodyFault → Type 0
LeadsTo (Ok done) answers wanted = wanted ≡ Ok answers
LeadsTo (Err fault) answers wanted = (fault ≡ Memory) ⊎ (wanted ≡ Err fault)
