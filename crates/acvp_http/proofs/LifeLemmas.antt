-- The headline over a life, from that of each run.
use Rattle.std.proofs.Common.{◌≡◌, ◌∙◌, ◌⊎◌, ◌+◌, List, [], ◌∷◌, ◌++◌, length, ap, ap₂, append_assoc, inl, inr, refl}
use Rattle.std.proofs.Common.{suc, subst, sym}
use Rattle.std.proofs.lemmas.List.{length-append}
use Rattle.acvp_tables.specs.Content.{Content}
use Rattle.acvp_tables.specs.State.{state_of}
use Rattle.acvp_desk.specs.declared.keys.Keys.{Keys}
use Rattle.acvp_http.specs.Event.{EventAnswer, Turn}
use Rattle.acvp_http.specs.Headline.{AnswersTurn, Headline, HeadlineLeft}
use Rattle.acvp_http.specs.Life.{GoesOver, Life, Passes, Run}
use Rattle.acvp_http.specs.LifePromise.{IsAnsweredInLife, LeftByRuns, answers_in, turns_in}
use Rattle.acvp_http.specs.Serve.{Runs}

-- an item of two joined lists is in the first, or in the second
parted : {A : Type 0} (xs ys earlier later : List A) (x : A) → xs ++ ys ≡ earlier ++ x ∷ later
    → ((rest : List A) × (xs ≡ earlier ++ x ∷ rest))
    ⊎ ((more : List A) × (earlier ≡ xs ++ more) × (ys ≡ more ++ x ∷ later))
parted [] ys earlier later x is = inr (earlier, refl, is)
parted (y ∷ xs) ys [] later x is = let same : y ≡ x = cc in inl (xs, ap (λ z. z ∷ xs) same)
parted {A = A} (y ∷ xs) ys (z ∷ earlier) later x is =
    let same : y ≡ z = cc in
    let then : xs ++ ys ≡ earlier ++ x ∷ later = cc in
    go same (parted xs ys earlier later x then)
  where
    go : y ≡ z → ((rest : List A) × (xs ≡ earlier ++ x ∷ rest))
        ⊎ ((more : List A) × (earlier ≡ xs ++ more) × (ys ≡ more ++ x ∷ later))
        → ((rest : List A) × (y ∷ xs ≡ z ∷ earlier ++ x ∷ rest))
        ⊎ ((more : List A) × (z ∷ earlier ≡ y ∷ xs ++ more) × (ys ≡ more ++ x ∷ later))
    go same (inl (rest, is)) = inl (rest, ap₂ (λ a b. a ∷ b) same is)
    go same (inr (more, is, then)) = inr (more, ap₂ (λ a b. a ∷ b) (sym same) is, then)

-- a run has as many answers as turns
as_many : (keys : Keys) (turns : List Turn) (old new : Content) (answers : List EventAnswer)
    → Runs keys turns old new answers → length answers ≡ length turns
as_many keys [] old new [] same = refl
as_many keys [] old new (answer ∷ answers) runs = absurd runs
as_many keys (turn ∷ turns) old new [] runs = absurd runs
as_many keys (turn ∷ turns) old new (answer ∷ answers) (next, takes, runs) =
    ap (λ n. suc n) (as_many keys turns next new answers runs)

-- no item stands in an empty list
nowhere : {A : Type 0} (earlier later : List A) (x : A) → [] ≡ earlier ++ x ∷ later → ⊥
nowhere [] later x is = cc
nowhere (y ∷ earlier) later x is = cc

module _ (headline : Headline) (left : HeadlineLeft) where
  pub life_left : (runs : List Run) (old new : Content) → Life runs old new
      → LeftByRuns runs (state_of old) (state_of new)
  life_left [] old new same = ap state_of same
  life_left (run ∷ runs) old new (next, start, goes, passes, life) =
      (next, start, left run.keys run.turns old next run.answers goes.runs, passes, life_left runs start new life)

  -- a turn of the first run
  here : (run : Run) (runs : List Run) (earlier rest : List Turn) (turn : Turn) (old next : Content)
      → GoesOver run old next → run.turns ≡ earlier ++ turn ∷ rest
      → AnswersTurn run.keys earlier turn (state_of old) run.answers
      → IsAnsweredInLife (run ∷ runs) earlier turn (state_of old)
  here run runs earlier rest turn old next goes is (told, answer, after, now, later, split, many, went, answered) =
      record {
        past = [];
        run = run;
        coming = runs;
        is_among = refl;
        within = earlier;
        rest = rest;
        is_within = is;
        is_behind = refl;
        begun = state_of old;
        now = now;
        next = later;
        left = refl;
        went = went;
        answer = answer;
        answered = answered;
        told = told;
        after = after ++ answers_in runs;
        is_told = ap (λ answers. answers ++ answers_in runs) split ∙ append_assoc told (answer ∷ after) (answers_in runs);
        in_place = many;
      }

  -- a turn of a later one
  there : (run : Run) (runs : List Run) (earlier more : List Turn) (turn : Turn) (old next start : Content)
      → GoesOver run old next → Passes run next start → earlier ≡ run.turns ++ more
      → IsAnsweredInLife runs more turn (state_of start) → IsAnsweredInLife (run ∷ runs) earlier turn (state_of old)
  there run runs earlier more turn old next start goes passes is it = record {
    past = run ∷ it.past;
    run = it.run;
    coming = it.coming;
    is_among = ap (λ others. run ∷ others) it.is_among;
    within = it.within;
    rest = it.rest;
    is_within = it.is_within;
    is_behind = is ∙ ap (λ turns. run.turns ++ turns) it.is_behind
        ∙ sym (append_assoc run.turns (turns_in it.past) it.within);
    begun = it.begun;
    now = it.now;
    next = it.next;
    left = (next, start, left run.keys run.turns old next run.answers goes.runs, passes, it.left);
    went = it.went;
    answer = it.answer;
    answered = it.answered;
    told = run.answers ++ it.told;
    after = it.after;
    is_told = ap (λ answers. run.answers ++ answers) it.is_told
        ∙ sym (append_assoc run.answers it.told (it.answer ∷ it.after));
    in_place = length-append run.answers it.told
        ∙ ap₂ (λ m n. m + n) (as_many run.keys run.turns old next run.answers goes.runs) it.in_place
        ∙ sym (length-append run.turns more) ∙ ap length (sym is);
  }

  pub life_answered : (runs : List Run) (earlier later : List Turn) (turn : Turn) (old new : Content)
      → Life runs old new → turns_in runs ≡ earlier ++ turn ∷ later
      → IsAnsweredInLife runs earlier turn (state_of old)
  life_answered [] earlier later turn old new life is = absurd (nowhere earlier later turn is)
  life_answered (run ∷ runs) earlier later turn old new (next, start, goes, passes, life) is =
      go (λ more then. life_answered runs more later turn start new life then)
      (parted run.turns (turns_in runs) earlier later turn is)
    where
      go : ((more : List Turn) → turns_in runs ≡ more ++ turn ∷ later
          → IsAnsweredInLife runs more turn (state_of start))
          → ((rest : List Turn) × (run.turns ≡ earlier ++ turn ∷ rest))
          ⊎ ((more : List Turn) × (earlier ≡ run.turns ++ more) × (turns_in runs ≡ more ++ turn ∷ later))
          → IsAnsweredInLife (run ∷ runs) earlier turn (state_of old)
      go answered (inl (rest, is)) = here run runs earlier rest turn old next goes is
          (headline run.keys earlier rest turn old next run.answers
          (subst (λ turns. Runs run.keys turns old next run.answers) is goes.runs))
      go answered (inr (more, is, then)) =
          there run runs earlier more turn old next start goes passes is (answered more then)
