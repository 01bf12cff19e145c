-- Lemmas on what is handed on, a line at a time.
use Rattle.std.proofs.Common.{◌≡◌, ℕ, zero, suc, ◌+◌, ◌-◌, ◌≤◌, ◌<◌, List, [], ◌∷◌, ◌++◌, length, get_or, Result, Ok}
use Rattle.std.proofs.Common.{Err, refl, sym, ap, ◌∙◌, subst, arith}
use Rattle.std.specs.Prelude.{IfOk, OnOk, take}
use Rattle.std.specs.List.{flat_map, range_with_len}
use Rattle.std.proofs.lemmas.List.{append-nil, append_assoc}
use Rattle.std.proofs.lemmas.Grind.{flat_map-append}
use Rattle.acvp_tables.specs.Content.{Content}
use Rattle.acvp_tables.specs.Meaning.{Meaning}
use Rattle.acvp_tables.specs.State.{AreWellNumbered}
use Rattle.acvp_desk.specs.Serves.{Looks}
use Rattle.acvp_desk.proofs.WalkedRows.{looks_twice}
use Rattle.acvp_view.proofs.CertifiedLemmas.{taken_more}
use Rattle.acvp_view.specs.Lines.{HandsOn, TakesAll, Tells}
use Rattle.acvp_view.specs.declared.fault.ViewFault.{ViewFault}

-- what holds, holds where it succeeds
pub on_ok : {X E : Type 0} (result : Result X E) (P : Type 0) → P → OnOk result P
on_ok (Ok x) P it = it
on_ok (Err e) P it = tt

-- what holds where it succeeds, and what follows
pub ok_then : {X E P Q : Type 0} (result : Result X E) → OnOk result P → (P → Q) → OnOk result Q
ok_then (Ok x) holds follows = follows holds
ok_then (Err e) holds follows = tt

-- what two things that hold of a value tell, holds of it
pub ok_both : {X E : Type 0} {P Q R : X → Type 0} (result : Result X E) → IfOk result P → IfOk result Q
    → ((x : X) → P x → Q x → R x) → IfOk result R
ok_both (Ok x) first second follows = follows x first second
ok_both (Err e) first second follows = tt

-- ---- numbers in a row

two_ranges : (a m n : ℕ) → range_with_len a (m + n) ≡ range_with_len a m ++ range_with_len (a + m) n
two_ranges a zero n =
    let e : a + zero ≡ a = omega arith in
    let f : zero + n ≡ n = omega arith in
    rw (e, f) refl
two_ranges a (suc m) n =
    let e : a + suc m ≡ a + 1 + m = omega arith in
    let f : suc m + n ≡ suc (m + n) = omega arith in
    rw (e, f) (ap (λ ns. a ∷ ns) (two_ranges (a + 1) m n))

-- with one number more
one_number_more : {X : Type 0} (f : ℕ → List X) (a k : ℕ)
    → flat_map f (range_with_len a (k + 1)) ≡ flat_map f (range_with_len a k) ++ f (a + k)
one_number_more f a k =
    ap (flat_map f) (two_ranges a k 1) ∙ flat_map-append f (range_with_len a k) ((a + k) ∷ [])
    ∙ ap (λ last. flat_map f (range_with_len a k) ++ last) (append-nil (f (a + k)))

-- all of them begin with those up to one
all_numbers : {X : Type 0} (f : ℕ → List X) (a k n : ℕ) → k ≤ n → flat_map f (range_with_len a n)
    ≡ flat_map f (range_with_len a k) ++ flat_map f (range_with_len (a + k) (n - k))
all_numbers f a k n few =
    let whole : n ≡ k + (n - k) = omega (arith, few) in
    ap (λ m. flat_map f (range_with_len a m)) whole ∙ ap (flat_map f) (two_ranges a k (n - k))
    ∙ flat_map-append f (range_with_len a k) (range_with_len (a + k) (n - k))

-- ---- lines that are handed on

module _ {L : Type 0} (takes : L → List ℕ → L → Type 0) where
  -- some lines, and then others
  pub takes_both : (lines more : List (List ℕ)) (before between after : L) → TakesAll takes lines before between
      → TakesAll takes more between after → TakesAll takes (lines ++ more) before after
  takes_both [] more before between after same behind = rw same at behind
  takes_both (line ∷ lines) more before between after (next, first, rest) behind =
      (next, first, takes_both lines more next between after rest behind)

  pub handed_one : {X E : Type 0} (result : Result X E) (line : List ℕ) (before after : L) → takes before line after
      → HandsOn takes result (line ∷ []) before after
  handed_one result line before after taken = record {
    told = line ∷ [];
    untold = [];
    both = refl;
    all = on_ok result _ refl;
    taken = (after, taken, refl);
  }

  pub handed_none : {X E : Type 0} (result : Result X E) (before : L) → HandsOn takes result [] before before
  handed_none result before = record {
    told = [];
    untold = [];
    both = refl;
    all = on_ok result _ refl;
    taken = refl;
  }

  -- all of some, and then so many of others
  handed_then : {X Y E F : Type 0} (x : X) (result : Result Y F) (lines more : List (List ℕ)) (before between after : L)
      → HandsOn takes {X = X} {E = E} (Ok x) lines before between → HandsOn takes result more between after
      → HandsOn takes result (lines ++ more) before after
  handed_then x result lines more before between after first second = record {
    told = first.told ++ second.told;
    untold = second.untold;
    both = append_assoc first.told second.told second.untold ∙ ap (λ rest. first.told ++ rest) second.both
        ∙ ap (λ front. front ++ more) (sym (append-nil first.told) ∙ ap (λ rest. first.told ++ rest) (sym first.all)
        ∙ first.both);
    all = second.all;
    taken = takes_both first.told second.told before between after first.taken second.taken;
  }

  -- after a fault there may be more of them
  handed_front : {X Y E F : Type 0} (e : E) (f : F) (lines more : List (List ℕ)) (before after : L)
      → HandsOn takes {X = X} (Err e) lines before after → HandsOn takes {X = Y} (Err f) (lines ++ more) before after
  handed_front e f lines more before after handed = record {
    told = handed.told;
    untold = handed.untold ++ more;
    both = sym (append_assoc handed.told handed.untold more) ∙ ap (λ front. front ++ more) handed.both;
    all = tt;
    taken = handed.taken;
  }

  handed_as : {X Y E F : Type 0} (x : X) (y : Y) (lines : List (List ℕ)) (before after : L)
      → HandsOn takes {E = E} (Ok x) lines before after → HandsOn takes {E = F} (Ok y) lines before after
  handed_as x y lines before after handed = record {
    told = handed.told;
    untold = handed.untold;
    both = handed.both;
    all = handed.all;
    taken = handed.taken;
  }

  -- all of them
  pub handed_whole : {X E : Type 0} (x : X) (lines : List (List ℕ)) (before after : L)
      → HandsOn takes {E = E} (Ok x) lines before after → TakesAll takes lines before after
  handed_whole x lines before after handed =
      subst (λ told. TakesAll takes told before after)
      (sym (append-nil handed.told) ∙ ap (λ rest. handed.told ++ rest) (sym handed.all) ∙ handed.both) handed.taken

  -- with those of one element more
  pub takes_more : {A : Type 0} (f : A → List (List ℕ)) (xs : List A) (i : ℕ) (d : A) (before between after : L)
      → i < length xs → TakesAll takes (flat_map f (take i xs)) before between
      → TakesAll takes (f (get_or xs i d)) between after → TakesAll takes (flat_map f (take (i + 1) xs)) before after
  takes_more f xs i d before between after short so_far one =
      rw (taken_more xs i d short, flat_map-append f (take i xs) (get_or xs i d ∷ []), append-nil (f (get_or xs i d)))
      (takes_both (flat_map f (take i xs)) (f (get_or xs i d)) before between after so_far one)

  -- ---- lines that are selected of a content

  module _ {T : Type 0} (meaning : Meaning T) where
    open meaning use {is_open, stands}

    -- nothing yet
    pub told_none : {X E : Type 0} (x : X) (old : T) (before : L)
        → Tells takes {E = E} meaning (Ok x) old old before before (λ c. [])
    told_none x old before live c well h = handed_none (Ok x) before

    -- some, and then others
    pub told_then : {X Y E F G : Type 0} (x : X) (result : Result Y F) (old mid new : T) (before between after : L)
        (front behind whole : Content → List (List ℕ)) → ((c : Content) → whole c ≡ front c ++ behind c)
        → Looks meaning {X = X} {E = G} (Ok x) old mid → (is_open new → is_open mid)
        → Tells takes {E = E} meaning (Ok x) old mid before between front
        → Tells takes meaning result mid new between after behind
        → Tells takes meaning result old new before after whole
    told_then x result old mid new before between after front behind whole splits first was told more live c well h =
        let up = was live in
        rw (splits c) (handed_then x result (front c) (behind c) before between after (told up c well h)
        (more live c well (first.same up c h)))

    -- after a fault there may be more
    pub told_front : {X Y E F : Type 0} (e : E) (f : F) (old new : T) (before after : L)
        (front behind whole : Content → List (List ℕ)) → ((c : Content) → whole c ≡ front c ++ behind c)
        → Tells takes {X = X} meaning (Err e) old new before after front
        → Tells takes {X = Y} meaning (Err f) old new before after whole
    told_front e f old new before after front behind whole splits told live c well h =
        rw (splits c) (handed_front e f (front c) (behind c) before after (told live c well h))

    -- all of them
    pub told_as : {X Y E F : Type 0} (x : X) (y : Y) (old new : T) (before after : L)
        (front whole : Content → List (List ℕ)) → ((c : Content) → AreWellNumbered c → stands old c → whole c ≡ front c)
        → Tells takes {E = E} meaning (Ok x) old new before after front
        → Tells takes {E = F} meaning (Ok y) old new before after whole
    told_as x y old new before after front whole same told live c well h =
        rw (same c well h) (handed_as x y (front c) before after (told live c well h))

    -- what is told of the tables that were looked at is told of those before
    pub told_behind : {Y F : Type 0} (result : Result Y F) (old mid new : T) (before after : L)
        (behind whole : Content → List (List ℕ))
        → (is_open mid → (c : Content) → AreWellNumbered c → stands old c → whole c ≡ behind c)
        → (is_open mid → (c : Content) → stands old c → stands mid c) → (is_open new → is_open mid)
        → Tells takes meaning result mid new before after behind
        → Tells takes meaning result old new before after whole
    told_behind result old mid new before after behind whole alike same was told live c well h =
        let up = was live in rw (alike up c well h) (told live c well (same up c h))

    -- ---- by numbers in a row

    -- the tables were looked at, and what is told of so many numbers was handed on
    abbrev pub IsToldTo : (Content → ℕ → List (List ℕ)) → ℕ → ℕ → T → T → L → L → Type 0
    IsToldTo f first count old new before after = Looks meaning {X = ℕ} {E = ViewFault} (Ok 0) old new
        × Tells takes {X = ℕ} {E = ViewFault} meaning (Ok 0) old new before after
        (λ c. flat_map (f c) (range_with_len first count))

    pub told_next : {X : Type 0} (f : Content → ℕ → List (List ℕ)) (first count n more : ℕ) (x : X)
        (old mid new : T) (before between after : L) → n ≡ first + count → more ≡ count + 1
        → IsToldTo f first count old mid before between → Looks meaning {X = X} {E = ViewFault} (Ok x) mid new
        → Tells takes {X = X} {E = ViewFault} meaning (Ok x) mid new between after (λ c. f c n)
        → IsToldTo f first more old new before after
    told_next f first count n more x old mid new before between after next one so_far looks told = (
      looks_twice meaning 0 x 0 old mid new so_far.0 looks,
      told_then 0 (Ok 0) old mid new before between after (λ c. flat_map (f c) (range_with_len first count))
          (λ c. f c n)
          (λ c. flat_map (f c) (range_with_len first more)) (λ c. rw (one, next) (one_number_more (f c) first count))
          so_far.0 looks.was_open so_far.1
          (told_as x 0 mid new between after (λ c. f c n) (λ c. f c n) (λ c well h. refl) told),
    )

    -- a fault at a number
    pub told_fault : {X Y : Type 0} (result : Result Y ViewFault) (f : Content → ℕ → List (List ℕ))
        (first count n most : ℕ) (e other : ViewFault)
        (old mid new : T) (before between after : L) → result ≡ Err other → n ≡ first + count → count < most
        → IsToldTo f first count old mid before between → Looks meaning {X = X} {E = ViewFault} (Err e) mid new
        → Tells takes {X = X} {E = ViewFault} meaning (Err e) mid new between after (λ c. f c n)
        → Tells takes meaning result old new before after
        (λ c. flat_map (f c) (range_with_len first most))
    told_fault result f first count n most e other old mid new before between after is next few so_far looks told =
        rw is (told_front e other old new before after (λ c. flat_map (f c) (range_with_len first (count + 1)))
        (λ c. flat_map (f c) (range_with_len (first + (count + 1)) (most - (count + 1))))
        (λ c. flat_map (f c) (range_with_len first most))
        (λ c. all_numbers (f c) first (count + 1) most (omega (arith, few)))
        (told_then 0 (Err e) old mid new before between after (λ c. flat_map (f c) (range_with_len first count))
        (λ c. f c n) (λ c. flat_map (f c) (range_with_len first (count + 1)))
        (λ c. rw next (one_number_more (f c) first count)) so_far.0 looks.was_open so_far.1 told))

    -- so at the end
    pub told_whole : {X : Type 0} (f : Content → ℕ → List (List ℕ)) (first count most : ℕ) (x : X)
        (old new : T) (before after : L) → count ≡ most → IsToldTo f first count old new before after
        → Tells takes {X = X} {E = ViewFault} meaning (Ok x) old new before after
        (λ c. flat_map (f c) (range_with_len first most))
    told_whole f first count most x old new before after all so_far =
        told_as 0 x old new before after (λ c. flat_map (f c) (range_with_len first count))
        (λ c. flat_map (f c) (range_with_len first most)) (λ c well h. rw all refl) so_far.1
