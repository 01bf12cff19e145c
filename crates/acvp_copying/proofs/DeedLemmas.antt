-- Lemmas on deeds that are done one after another.
use Rattle.std.proofs.Common.{◌≡◌, ◌⊎◌, ◌↔◌, Bool, true, false, IsTrue, MatchBool, List, [], ◌∷◌, ◌++◌}
use Rattle.std.proofs.Common.{IfOk, Result, Ok, Err, inl, inr, refl, ap, append_assoc, ◌∙◌}
use Rattle.std.proofs.lemmas.List.Elements.{All-append, All-cons, All-nil}
use Rattle.std.proofs.lemmas.List.{append-nil}
use Rattle.acvp_causes.specs.declared.marks.Mark.{Mark}
use Rattle.acvp_copying.specs.Deeds.{Deed, Did, Follows, Looked, Apart, Copied, Synced, Marked}
use Rattle.acvp_copying.specs.Copies.{IsCopyThen, IsHalfCopied, IsOfCopying, IsUnchanged, IsWholeCopy, OnlyTries}
use Rattle.acvp_copying.specs.declared.copying.Half.{Half}
use Rattle.acvp_copying.specs.declared.copying.Half.TheVariants.{File, Log}
use Rattle.acvp_copying.specs.declared.copying.Seen.{Seen}

module _ {S N : Type 0} (does : S → Deed N → S → Type 0) where
  -- some deeds, and then others
  pub follows_both : (deeds more : List (Deed N)) (old mid new : S) → Follows does deeds old mid
      → Follows does more mid new → Follows does (deeds ++ more) old new
  follows_both [] more old mid new same after = rw same at after
  follows_both (deed ∷ deeds) more old mid new (next, done, rest) after =
      (next, done, follows_both deeds more next mid new rest after)

-- what isn't there is the log
pub not_there : (is_there : Bool) (half : Half) → is_there ≡ false → (is_there ≡ true) ⊎ (half ≡ Log) → half ≡ Log
not_there true half gone told = absurd (cc)
not_there false half gone (inl there) = absurd (cc)
not_there false half gone (inr is) = is

module _ {N : Type 0} where
  -- one more deed of a try
  tries_after : (deed : Deed N) (deeds : List (Deed N)) → IsOfCopying deed → OnlyTries deeds
      → OnlyTries (deed ∷ deeds)
  tries_after deed deeds is rest = All-cons IsOfCopying deed deeds is rest

  -- the copy of one file is a try
  half_tries : (half : Half) (deeds : List (Deed N)) → IsHalfCopied half deeds → OnlyTries deeds
  half_tries half deeds (inl is) = rw is (tries_after (Copied half true) (Synced half ∷ []) (tt {0})
      (tries_after (Synced half) [] (tt {0}) (All-nil IsOfCopying)))
  half_tries half deeds (inr (is_log, is)) = rw is (tries_after (Copied half false) [] (tt {0}) (All-nil IsOfCopying))

  -- what is done of a copy
  abbrev pub attempt : Seen N → Bool → List (Deed N) → List (Deed N) → Mark → Seen N → List (Deed N) → List (Deed N)
  attempt before was_apart file log copy after end =
      Looked before ∷ Apart was_apart ∷ (file ++ (log ++ (Marked copy ∷ Looked after ∷ end)))

  -- all of it is a try
  pub attempt_tries : (before : Seen N) (was_apart : Bool) (file log : List (Deed N)) (copy : Mark) (after : Seen N)
      (end : List (Deed N)) → IsHalfCopied File file → IsHalfCopied Log log → OnlyTries end
      → OnlyTries (attempt before was_apart file log copy after end)
  attempt_tries before was_apart file log copy after end file_copied log_copied ends =
      let last : OnlyTries (Marked copy ∷ Looked after ∷ end) = tries_after (Marked copy) (Looked after ∷ end) (tt {0})
      (tries_after (Looked after) end (tt {0}) ends) in
      let behind : OnlyTries (log ++ (Marked copy ∷ Looked after ∷ end)) =
      All-append IsOfCopying log (Marked copy ∷ Looked after ∷ end) (half_tries Log log log_copied) last in
      let all : OnlyTries (file ++ (log ++ (Marked copy ∷ Looked after ∷ end))) =
      All-append IsOfCopying file (log ++ (Marked copy ∷ Looked after ∷ end)) (half_tries File file file_copied)
      behind in
      tries_after (Looked before) (Apart was_apart ∷ (file ++ (log ++ (Marked copy ∷ Looked after ∷ end)))) (tt {0})
      (tries_after (Apart was_apart) (file ++ (log ++ (Marked copy ∷ Looked after ∷ end))) (tt {0}) all)

  pub no_tries : OnlyTries {N = N} []
  no_tries = All-nil IsOfCopying

  -- whether somebody had one file alone
  pub one_try : (is_apart : Bool) → OnlyTries {N = N} (Apart is_apart ∷ [])
  one_try is_apart = tries_after (Apart is_apart) [] (tt {0}) (All-nil IsOfCopying)

  -- it is a whole copy if nothing has changed
  pub whole_or_try : (eq : N → N → Bool) (is_it : Bool) (before : Seen N) (file log : List (Deed N)) (copy : Mark)
      (after : Seen N) → (IsTrue is_it ↔ IsUnchanged eq before after copy) → IsHalfCopied File file
      → IsHalfCopied Log log
      → MatchBool is_it (IsWholeCopy eq (attempt before false file log copy after (Apart false ∷ [])))
      (OnlyTries (attempt before false file log copy after (Apart false ∷ [])))
  whole_or_try eq true before file log copy after is file_copied log_copied = record {
    before = before;
    file = file;
    log = log;
    copy = copy;
    after = after;
    steps = refl;
    file_copied = file_copied;
    log_copied = log_copied;
    unchanged = is.0 refl;
  }
  whole_or_try eq false before file log copy after is file_copied log_copied =
      attempt_tries before false file log copy after (Apart false ∷ []) file_copied log_copied (one_try false)

module _ {S N : Type 0} (does : S → Deed N → S → Type 0) (eq : N → N → Bool) where
  -- a copy that was found whole, behind the tries before
  pub found_whole : (is_it : Bool) (old mid new : S) → Did does OnlyTries old mid
      → Did does (λ deeds. MatchBool is_it (IsWholeCopy eq deeds) (OnlyTries deeds)) mid new → is_it ≡ true
      → Did does (IsCopyThen eq []) old new
  found_whole true old mid new (tries, are, tried) (copy, whole, copied) is = (
    tries ++ (copy ++ []),
    (tries, copy, are, whole, refl),
    follows_both does tries (copy ++ []) old mid new tried (rw append-nil copied),
  )
  found_whole false old mid new tried copied is = cc

  -- one more try, behind the tries before
  pub tried_again : (is_it : Bool) (old mid new : S) → Did does OnlyTries old mid
      → Did does (λ deeds. MatchBool is_it (IsWholeCopy eq deeds) (OnlyTries deeds)) mid new → is_it ≡ false
      → Did does OnlyTries old new
  tried_again true old mid new tried copied is = cc
  tried_again false old mid new (tries, are, tried) (more, more_are, copied) is = (
    tries ++ more,
    All-append IsOfCopying tries more are more_are,
    follows_both does tries more old mid new tried copied,
  )

  -- more deeds behind a whole copy
  pub did_then : (end more : List (Deed N)) (old mid new : S) → Did does (IsCopyThen eq end) old mid
      → Follows does more mid new → Did does (IsCopyThen eq (end ++ more)) old new
  did_then end more old mid new (deeds, (tries, copy, are, whole, is), done) after = (
    deeds ++ more,
    (
      tries,
      copy,
      are,
      whole,
      rw is (append_assoc tries (copy ++ end) more
          ∙ ap (λ x. tries ++ x) (append_assoc copy end more)),
    ),
    follows_both does deeds more old mid new done after,
  )

  -- one deed more, if it was done
  pub did_last : {R E : Type 0} (end : List (Deed N)) (deed : R → Deed N) (result : Result R E) (old mid new : S)
      → Did does (IsCopyThen eq end) old mid → IfOk result (λ value. does mid (deed value) new)
      → IfOk result (λ value. Did does (IsCopyThen eq (end ++ (deed value ∷ []))) old new)
  did_last end deed (Ok value) old mid new did done =
      did_then end (deed value ∷ []) old mid new did (new, done, refl)
  did_last end deed (Err fault) old mid new did done = tt
