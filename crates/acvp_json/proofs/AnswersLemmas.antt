-- Lemmas on a body of answers: its tests as one list are what reading its answers one by one finds.
use Rattle.std.proofs.Common.{◌≡◌, ℕ, List, [], ◌∷◌, ◌++◌, Bool, true, false, nat_eq, ◌||◌, Option, None, Some, inl}
use Rattle.std.proofs.Common.{inr, refl, sym, ◌∙◌, ap, append_assoc, add-one, option_map, ◌+◌, ◌<◌, length, get_or}
use Rattle.std.proofs.Common.{drop, arith}
use Rattle.std.specs.Prelude.{◌⊎◌, not, is_some, Result, Ok, Err}
use Rattle.std.specs.BTreeMap.{insert_entry}
use Rattle.std.specs.List.{list_any, filter_map}
use Rattle.std.specs.Map.{keys_of}
use Rattle.std.specs.Ordering.{nat_cmp, match_ordering}
use Rattle.std.specs.declared.cmp.Ordering.{Ordering}
use Rattle.std.specs.declared.cmp.Ordering.TheVariants.{Less, Equal, Greater}
use Rattle.std.proofs.lemmas.Bool.Decides.{nat_tests}
use Rattle.std.proofs.lemmas.Cmp.{ranked}
use Rattle.std.proofs.lemmas.List.Folds.{list_any-append}
use Rattle.serde_json.specs.Data.{Data, item}
use Rattle.serde_json.specs.View.{view, items_view}
use Rattle.serde_json.specs.declared.value.Value.{Value}
use Rattle.std.proofs.Math.Seq.{drop-cons}
use Rattle.acvp_gen.specs.Prompt.{GroupValue, PromptsValue}
use Rattle.acvp_answers.specs.Answer.{Answer, is_answered}
use Rattle.acvp_json.specs.declared.fault.BodyFault.{BodyFault}
use Rattle.acvp_json.specs.declared.fault.BodyFault.TheVariants.{UnknownTest, DuplicateTest, BodyField, Memory}
use Rattle.acvp_json.specs.AnswersBody.{is_for_set, answers_body_conditions, answers_body_of, answers_from, group_for}
use Rattle.acvp_json.specs.AnswersBody.{texts_given, given_conditions, all_given_conditions, answer_given, placed}
use Rattle.acvp_json.specs.Elements.{each, joined}
use Rattle.acvp_json.specs.SubmittedAnswers.{GivenValue, SubmissionValue, submission_of}
use Rattle.acvp_json.specs.Private.AnswersReading.{after_given, after_all, and_then_all}
use Rattle.acvp_caps.specs.Conditions.{Condition, first_broken, judged, unless}
use Rattle.acvp_caps.proofs.ConditionLemmas.{after, front}

-- ---- one after another

pub all_of_both : (prompts : PromptsValue) (answers : List Answer) (given more : List GivenValue)
    → after_all prompts answers (given ++ more) ≡ and_then_all (λ before. after_all prompts before more)
    (after_all prompts answers given)
all_of_both prompts answers [] more = refl
all_of_both prompts answers (g ∷ given) more =
    first (λ before. all_of_both prompts before given more) (after_given prompts answers g)
  where
    first : ((before : List Answer)
        → after_all prompts before (given ++ more) ≡ and_then_all (λ before. after_all prompts before more)
        (after_all prompts before given)) → (r : Result (List Answer) BodyFault)
        → and_then_all (λ before. after_all prompts before (given ++ more)) r
        ≡ and_then_all (λ before. after_all prompts before more)
        (and_then_all (λ before. after_all prompts before given) r)
    first later (Ok before) = later before
    first later (Err fault) = refl

-- ---- the numbers of the answers before

same_number : (a b : ℕ) → nat_eq a b ≡ true → a ≡ b
same_number a b h = grind (arith, nat_tests)

equal_numbers : (a b : ℕ) → nat_cmp a b ≡ Equal → a ≡ b
equal_numbers a b is = ranked a b Equal (sym is)

one_key_more : (es : List Answer) (n m : ℕ) (v : List (List ℕ))
    → list_any (λ k. nat_eq k m) (keys_of (insert_entry nat_cmp es n v)) ≡ (list_any (λ k. nat_eq k m) (keys_of es)
    || nat_eq n m)
one_key_more [] n m v = at (nat_eq n m)
  where
    at : (b : Bool) → (b || false) ≡ (false || b)
    at true = refl
    at false = refl
one_key_more (e ∷ es) n m v = at (nat_cmp n e.0) refl (one_key_more es n m v)
  where
    less : (a b c : Bool) → (a || (b || c)) ≡ ((b || c) || a)
    less true true c = refl
    less true false true = refl
    less true false false = refl
    less false true c = refl
    less false false true = refl
    less false false false = refl

    equal : (a b : Bool) → (a || b) ≡ ((a || b) || a)
    equal true b = refl
    equal false true = refl
    equal false false = refl

    greater : (a b c d : Bool) → c ≡ (b || d) → (a || c) ≡ ((a || b) || d)
    greater true b c d is = refl
    greater false b c d is = is

    at : (o : Ordering) → nat_cmp n e.0 ≡ o → list_any (λ k. nat_eq k m) (keys_of (insert_entry nat_cmp es n v))
        ≡ (list_any (λ k. nat_eq k m) (keys_of es) || nat_eq n m) →
        list_any (λ k. nat_eq k m)
        (keys_of (match_ordering o ((n, v) ∷ e ∷ es) ((e.0, v) ∷ es) (e ∷ insert_entry nat_cmp es n v)))
        ≡ ((nat_eq e.0 m || list_any (λ k. nat_eq k m) (keys_of es)) || nat_eq n m)
    at Less is more = less (nat_eq n m) (nat_eq e.0 m) (list_any (λ k. nat_eq k m) (keys_of es))
    at Equal is more =
        let same : n ≡ e.0 = equal_numbers n e.0 is in
        rw same (equal (nat_eq e.0 m) (list_any (λ k. nat_eq k m) (keys_of es)))
    at Greater is more = greater (nat_eq e.0 m) (list_any (λ k. nat_eq k m) (keys_of es))
        (list_any (λ k. nat_eq k m) (keys_of (insert_entry nat_cmp es n v))) (nat_eq n m) more

one_before_more : (before : List ℕ) (n m : ℕ)
    → list_any (λ k. nat_eq k m) (before ++ n ∷ []) ≡ (list_any (λ k. nat_eq k m) before || nat_eq n m)
one_before_more before n m = list_any-append (λ k. nat_eq k m) before (n ∷ [])
    ∙ at (list_any (λ k. nat_eq k m) before) (nat_eq n m)
  where
    at : (a b : Bool) → (a || (b || false)) ≡ (a || b)
    at true b = refl
    at false true = refl
    at false false = refl

-- ---- one answer

-- an answer to a test that was answered before
pub given_twice : (prompts : PromptsValue) (answers : List Answer) (given : GivenValue) (group : GroupValue)
    → Some group ≡ group_for prompts given → true ≡ is_answered answers given.test
    → after_given prompts answers given ≡ Err DuplicateTest
given_twice prompts answers given group found before =
    at (is_some (group_for prompts given)) (ap (λ o. is_some o) (sym found)) (is_answered answers given.test)
    (sym before)
  where
    at : (a : Bool) → a ≡ true → (b : Bool) → b ≡ true →
        judged ((a, UnknownTest) ∷ (not b, DuplicateTest) ∷ (is_some (texts_given prompts given), BodyField)
        ∷ []) (placed answers (filter_map (answer_given prompts) (given ∷ []))) ≡ Err DuplicateTest
    at true is true is' = refl
    at true is false is' = cc
    at false is b is' = cc

-- where all conditions on an answer hold it has its texts, and else the fault is told
holds_last : (a b c : Bool) (f g h : BodyFault) → first_broken ((a, f) ∷ (b, g) ∷ (c, h) ∷ []) ≡ None → c ≡ true
holds_last true true true f g h none = refl
holds_last true true false f g h none = cc
holds_last true false c f g h none = cc
holds_last false b c f g h none = cc

-- the answers after one more
placed_more : (prompts : PromptsValue) (answers : List Answer) (given : GivenValue) (more : List GivenValue) →
    placed answers (filter_map (answer_given prompts) (given ∷ more))
    ≡ placed (placed answers (filter_map (answer_given prompts) (given ∷ [])))
    (filter_map (answer_given prompts) more)
placed_more prompts answers given more = at (answer_given prompts given) refl
  where
    at : (o : Option Answer) → answer_given prompts given ≡ o →
        placed answers (filter_map (answer_given prompts) (given ∷ more))
        ≡ placed (placed answers (filter_map (answer_given prompts) (given ∷ [])))
        (filter_map (answer_given prompts) more)
    at None is = rw is refl
    at (Some a) is = rw is refl

-- the numbers after one more that has its texts
same_numbers : (prompts : PromptsValue) (answers : List Answer) (before : List ℕ) (given : GivenValue)
    → ((m : ℕ) → list_any (λ k. nat_eq k m) before ≡ list_any (λ k. nat_eq k m) (keys_of answers))
    → is_some (texts_given prompts given) ≡ true →
    (m : ℕ) → list_any (λ k. nat_eq k m) (before ++ given.test ∷ []) ≡ list_any (λ k. nat_eq k m)
    (keys_of (placed answers (filter_map (answer_given prompts) (given ∷ []))))
same_numbers prompts answers before given same there m = at (texts_given prompts given) refl there
  where
    at : (o : Option (List (List ℕ))) → texts_given prompts given ≡ o → is_some o ≡ true →
        list_any (λ k. nat_eq k m) (before ++ given.test ∷ []) ≡ list_any (λ k. nat_eq k m)
        (keys_of (placed answers (filter_map (answer_given prompts) (given ∷ []))))
    at None is there = cc
    at (Some texts) is there = one_before_more before given.test m
        ∙ rw (same m) (sym (rw is (one_key_more answers given.test m texts)))

-- the tests of one answer speak of the numbers before it alone
same_given_conditions : (prompts : PromptsValue) (before keys : List ℕ) (given : GivenValue)
    → ((m : ℕ) → list_any (λ k. nat_eq k m) before ≡ list_any (λ k. nat_eq k m) keys)
    → given_conditions prompts before given ≡ given_conditions prompts keys given
same_given_conditions prompts before keys given same = rw (same given.test) refl

-- the tests of all answers as one list
pub one_list : (prompts : PromptsValue) (given : List GivenValue) (before : List ℕ) (answers : List Answer)
    → ((m : ℕ) → list_any (λ k. nat_eq k m) before ≡ list_any (λ k. nat_eq k m) (keys_of answers)) →
    judged (all_given_conditions prompts before given) (placed answers (filter_map (answer_given prompts) given))
    ≡ after_all prompts answers given
one_list prompts [] before answers same = refl
one_list prompts (g ∷ more) before answers same =
    let rest = all_given_conditions prompts (before ++ g.test ∷ []) more in
    ap (λ ts. judged (ts ++ rest) (placed answers (filter_map (answer_given prompts) (g ∷ more))))
    (same_given_conditions prompts before (keys_of answers) g same)
    ∙ ap (λ v. judged (given_conditions prompts (keys_of answers) g ++ rest) v) (placed_more prompts answers g more)
    ∙ first (first_broken (given_conditions prompts (keys_of answers) g)) refl
    (λ there. one_list prompts more (before ++ g.test
    ∷ []) (placed answers (filter_map (answer_given prompts) (g ∷ [])))
    (same_numbers prompts answers before g same there))
  where
    first : (o : Option BodyFault) → first_broken (given_conditions prompts (keys_of answers) g) ≡ o →
        (is_some (texts_given prompts g) ≡ true →
        judged (all_given_conditions prompts (before ++ g.test ∷ []) more)
        (placed (placed answers (filter_map (answer_given prompts) (g ∷ [])))
        (filter_map (answer_given prompts) more))
        ≡ after_all prompts (placed answers (filter_map (answer_given prompts) (g ∷ []))) more) →
        judged (given_conditions prompts (keys_of answers) g ++ all_given_conditions prompts (before ++ g.test
        ∷ []) more) (placed (placed answers (filter_map (answer_given prompts) (g ∷ [])))
        (filter_map (answer_given prompts) more))
        ≡ and_then_all (λ before. after_all prompts before more) (after_given prompts answers g)
    first None is later =
        let there : is_some (texts_given prompts g) ≡ true =
        holds_last (is_some (group_for prompts g)) (not (list_any (λ n. nat_eq n g.test) (keys_of answers)))
        (is_some (texts_given prompts g)) UnknownTest DuplicateTest BodyField is in
        let both = after (given_conditions prompts (keys_of answers) g)
        (all_given_conditions prompts (before ++ g.test ∷ []) more) is in
        rw (both, is) (later there)
    first (Some fault) is later =
        rw (
          front (given_conditions prompts (keys_of answers) g) (all_given_conditions prompts (before ++ g.test
              ∷ []) more) fault is,
          is,
        ) refl

-- ---- groups

pub groups_go_on : (prompts : PromptsValue) (answers new : List Answer) (g : List GivenValue)
    (gs here : List (List GivenValue)) (total : Result (List Answer) BodyFault) → here ≡ g ∷ gs →
    after_all prompts answers g ≡ Ok new → after_all prompts answers (joined here) ≡ total
    → after_all prompts new (joined gs) ≡ total
groups_go_on prompts answers new g gs here total next read so =
    let so' : after_all prompts answers (g ++ joined gs) ≡ total = rw next at so in
    let both : after_all prompts answers (g ++ joined gs) ≡ after_all prompts new (joined gs) =
    all_of_both prompts answers g (joined gs)
    ∙ ap (λ r. and_then_all (λ before. after_all prompts before (joined gs)) r) read in
    sym both ∙ so'

pub groups_end : (prompts : PromptsValue) (answers : List Answer) (g : List GivenValue)
    (gs here : List (List GivenValue)) (total : Result (List Answer) BodyFault) (fault : BodyFault) → here ≡ g ∷ gs →
    (fault ≡ Memory) ⊎ (after_all prompts answers g ≡ Err fault)
    → after_all prompts answers (joined here) ≡ total → (fault ≡ Memory) ⊎ (total ≡ Err fault)
groups_end prompts answers g gs here total fault next read so = elim read [
  | inl memory ↦ inl memory
  | inr stopped ↦ inr (told stopped)
]
  where
    told : after_all prompts answers g ≡ Err fault → total ≡ Err fault
    told stopped =
        let so' : after_all prompts answers (g ++ joined gs) ≡ total = rw next at so in
        let both : after_all prompts answers (g ++ joined gs) ≡ Err fault =
        all_of_both prompts answers g (joined gs)
        ∙ ap (λ r. and_then_all (λ before. after_all prompts before (joined gs)) r) stopped in
        sym so' ∙ both

-- ---- the whole body

abbrev as_some : Result (List Answer) BodyFault → Result (Option (List Answer)) BodyFault
as_some (Ok answers) = Ok (Some answers)
as_some (Err fault) = Err fault

judged_some : (ts : List (Condition BodyFault)) (answers : List Answer)
    → judged ts (Some answers) ≡ as_some (judged ts answers)
judged_some ts answers = at (first_broken ts)
  where
    at : (o : Option BodyFault) → unless o (Some answers) ≡ as_some (unless o answers)
    at None = refl
    at (Some fault) = refl

whole_body : (d : Data) (prompts : PromptsValue) (submission : SubmissionValue) → submission_of d ≡ Some submission
    → is_for_set submission prompts ≡ true
    → judged (answers_body_conditions d prompts) (answers_body_of d prompts)
    ≡ as_some (after_all prompts [] (joined submission.groups))
whole_body d prompts submission form set =
    rw (form, set) (judged_some (all_given_conditions prompts [] (joined submission.groups))
    (answers_from prompts (joined submission.groups))
    ∙ ap as_some (one_list prompts (joined submission.groups) [] [] (λ m. refl)))

pub body_read : (d : Data) (prompts : PromptsValue) (submission : SubmissionValue) (answers : List Answer)
    → submission_of d ≡ Some submission → is_for_set submission prompts ≡ true
    → after_all prompts [] (joined submission.groups) ≡ Ok answers →
    judged (answers_body_conditions d prompts) (answers_body_of d prompts) ≡ Ok (Some answers)
body_read d prompts submission answers form set read = whole_body d prompts submission form set ∙ ap as_some read

pub body_unread : (d : Data) (prompts : PromptsValue) (submission : SubmissionValue) (fault : BodyFault)
    → submission_of d ≡ Some submission → is_for_set submission prompts ≡ true
    → (fault ≡ Memory) ⊎ (after_all prompts [] (joined submission.groups) ≡ Err fault) →
    (fault ≡ Memory) ⊎ (judged (answers_body_conditions d prompts) (answers_body_of d prompts) ≡ Err fault)
body_unread d prompts submission fault form set unread = elim unread [
  | inl memory ↦ inl memory
  | inr stopped ↦ inr (whole_body d prompts submission form set ∙ ap as_some stopped)
]

-- ---- one element more is read

pub regrouped : {X : Type 0} (done : List X) (x : X) (o : Option (List X))
    → option_map (λ more. (done ++ x ∷ []) ++ more) o ≡ option_map (λ more. done ++ more) (option_map (λ more. x
    ∷ more) o)
regrouped done x None = refl
regrouped done x (Some more) = ap Some (append_assoc done (x ∷ []) more)

pub each-more : {X : Type 0} (f : Data → Option X) (vs : List Value) (k : ℕ) (v : Value) (done : List X) (x : X)
    (whole : Option (List X)) → k < length vs → v ≡ get_or vs k v → f (view v) ≡ Some x
    → option_map (λ more. done ++ more) (each f (items_view (drop k vs))) ≡ whole
    → option_map (λ more. (done ++ x ∷ []) ++ more) (each f (items_view (drop (k + 1) vs))) ≡ whole
each-more {X = X} f vs k v done x whole within here reads so =
    let cut : drop k vs ≡ v ∷ drop (k + 1) vs = rw (drop-cons vs k v within, ← here, add-one) refl in
    let so' : option_map (λ more. done ++ more) (each f (item (view v) (items_view (drop (k + 1) vs)))) ≡ whole =
    rw cut at so in
    let step : each f (item (view v) (items_view (drop (k + 1) vs))) ≡ option_map (λ more. x
    ∷ more) (each f (items_view (drop (k + 1) vs))) = rw reads refl in
    regrouped done x (each f (items_view (drop (k + 1) vs)))
    ∙ ap (λ (o : Option (List X)). option_map (λ more. done ++ more) o) (sym step) ∙ so'
