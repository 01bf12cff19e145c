-- Lemmas on the standard's answers: tests are numbered in their order, so each answer goes to the end.
use Rattle.std.proofs.Common.{◌≡◌, ℕ, zero, suc, ◌+◌, List, [], ◌∷◌, ◌++◌, length, map, drop, get_or, refl, sym, ◌∙◌}
use Rattle.std.proofs.Common.{ap, append_assoc, length-append, arith}
use Rattle.std.specs.Prelude.{Contains, Bool, true, false, MatchBool}
use Rattle.std.specs.BTreeMap.{insert_entry}
use Rattle.std.specs.List.{flat_map, range_with_len}
use Rattle.std.specs.Map.{keys_of}
use Rattle.std.specs.Cmp.{nat_cmp_is}
use Rattle.std.specs.Ordering.{nat_cmp}
use Rattle.std.specs.declared.cmp.Ordering.TheVariants.{Greater}
use Rattle.acvp_mac.specs.declared.HashName.{HashName}
use Rattle.acvp_gen.specs.Prompt.{TestValue, GroupValue}
use Rattle.acvp_gen.specs.Prompts.{tests_in}
use Rattle.acvp_answers.specs.Standards.{texts_on, group_answers}
use Rattle.acvp_answers.specs.Answer.{Answer}
use Rattle.std.proofs.lemmas.List.{length-map, map-append}
use Rattle.std.proofs.lemmas.List.FromFn.{length-range_with_len, get_or-range_with_len}

-- numbers in a row, in two parts
pub two_ranges : (a m n : ℕ) → range_with_len a m ++ range_with_len (a + m) n ≡ range_with_len a (m + n)
two_ranges a zero n =
    let e : a + zero ≡ a = omega arith in
    let f : zero + n ≡ n = omega arith in
    rw (e, f) refl
two_ranges a (suc m) n =
    let e : a + suc m ≡ a + 1 + m = omega arith in
    let f : suc m + n ≡ suc (m + n) = omega arith in
    rw (e, f) (ap (λ ns. a ∷ ns) (two_ranges (a + 1) m n))

-- elements that are numbered in a row, in two parts
pub parted : {X : Type 0} (number : X → ℕ) (xs ys : List X) (a : ℕ)
    → map number (xs ++ ys) ≡ range_with_len a (length (xs ++ ys)) →
    (map number xs ≡ range_with_len a (length xs)) × (map number ys ≡ range_with_len (a + length xs) (length ys))
parted number [] ys a row = let e : a + 0 ≡ a = omega arith in (refl, rw e row)
parted number (x ∷ xs) ys a row =
    let head : number x ≡ a = ap (λ ns. get_or ns 0 0) row in
    let tail : map number (xs ++ ys) ≡ range_with_len (a + 1) (length (xs ++ ys)) = ap (λ ns. drop 1 ns) row in
    let rest = parted number xs ys (a + 1) tail in
    let e : a + suc (length xs) ≡ a + 1 + length xs = omega arith in
    (rw (head, rest.0) refl, rw e rest.1)

-- an answer that is numbered after all others goes to the end
pub insert_next : {V : Type 0} (es : List (ℕ × V)) (a k : ℕ) (v : V) → keys_of es ≡ range_with_len a (length es)
    → k ≡ a + length es → insert_entry nat_cmp es k v ≡ es ++ (k, v) ∷ []
insert_next [] a k v row next = refl
insert_next (e ∷ es) a k v row next =
    let head : e.0 ≡ a = ap (λ ns. get_or ns 0 0) row in
    let tail : keys_of es ≡ range_with_len (a + 1) (length es) = ap (λ ns. drop 1 ns) row in
    let above : nat_cmp k e.0 ≡ Greater = sym (nat_cmp_is k e.0 Greater (omega (arith, next, head))) in
    rw above (ap (λ rest. e ∷ rest) (insert_next es (a + 1) k v tail (omega (arith, next))))

-- and it isn't there yet
pub not_there : {V : Type 0} (es : List (ℕ × V)) (a k : ℕ) → keys_of es ≡ range_with_len a (length es)
    → k ≡ a + length es → Contains (keys_of es) k → ⊥
not_there es a k row next there =
    let in_row : Contains (range_with_len a (length es)) k = rw row at there in
    omega (
      arith,
      next,
      in_row.1,
      in_row.2,
      length-range_with_len a (length es),
      get_or-range_with_len a (length es) in_row.0 k (omega (arith, in_row.1, length-range_with_len a (length es))),
    )

-- the numbers of answers and of one more
pub one_key_more : {V : Type 0} (es : List (ℕ × V)) (k : ℕ) (v : V) → keys_of es ≡ range_with_len 1 (length es)
    → k ≡ 1 + length es → keys_of (es ++ (k, v) ∷ []) ≡ range_with_len 1 (length (es ++ (k, v) ∷ []))
one_key_more es k v row next =
    let long : length (es ++ (k, v) ∷ []) ≡ length es + 1 = length-append es ((k, v) ∷ []) in
    map-append (λ e. e.0) es ((k, v) ∷ []) ∙ rw (long, row, next) (two_ranges 1 (length es) 1)

-- one test more is answered
pub one_answer_more : (f : TestValue → List (List ℕ)) (answers new total : List Answer) (t : TestValue)
    (here rest : List TestValue) (b : Bool) (texts : List (List ℕ)) →
    here ≡ t ∷ rest → texts ≡ f t →
    MatchBool b (¬ Contains (keys_of answers) t.number × (new ≡ insert_entry nat_cmp answers t.number texts))
    (Contains (keys_of answers) t.number × (new ≡ answers)) →
    (answers ++ map (λ t. (t.number, f t)) here ≡ total) × (keys_of answers ≡ range_with_len 1 (length answers))
    × (map (λ t. t.number) here ≡ range_with_len (length answers + 1) (length here)) →
    (new ++ map (λ t. (t.number, f t)) rest ≡ total) × (keys_of new ≡ range_with_len 1 (length new))
    × (map (λ t. t.number) rest ≡ range_with_len (length new + 1) (length rest))
one_answer_more f answers new total t here rest b texts next made is so =
    let row : map (λ t. t.number) (t ∷ rest) ≡ range_with_len (length answers + 1) (length (t ∷ rest)) =
    rw next at so.2 in
    let number : t.number ≡ length answers + 1 = ap (λ ns. get_or ns 0 0) row in
    let tail : map (λ t. t.number) rest ≡ range_with_len (length answers + 1 + 1) (length rest) =
    ap (λ ns. drop 1 ns) row in
    let at_end : t.number ≡ 1 + length answers = omega (arith, number) in
    let added : new ≡ answers ++ (t.number, texts) ∷ [] = added_at b is at_end in
    let long : length (answers ++ (t.number, texts) ∷ []) ≡ length answers + 1 =
    length-append answers ((t.number, texts) ∷ []) in
    let all : answers ++ map (λ t. (t.number, f t)) (t ∷ rest) ≡ total = rw next at so.0 in (
      rw (added, made) (append_assoc answers ((t.number, f t) ∷ []) (map (λ t. (t.number, f t)) rest) ∙ all),
      rw added (one_key_more answers t.number texts so.1 at_end),
      rw (added, long) tail,
    )
  where
    added_at : (b : Bool) → MatchBool b (¬ Contains (keys_of answers) t.number
        × (new ≡ insert_entry nat_cmp answers t.number texts)) (Contains (keys_of answers) t.number × (new ≡ answers)) →
        t.number ≡ 1 + length answers → new ≡ answers ++ (t.number, texts) ∷ []
    added_at true is at_end = is.1 ∙ insert_next answers 1 t.number texts so.1 at_end
    added_at false is at_end = absurd (not_there answers 1 t.number so.1 at_end is.0)

-- ---- groups

-- the tests of the first group, and those of the others, are numbered on
pub first_group : (n : ℕ) (g : GroupValue) (here rest : List GroupValue) → here ≡ g ∷ rest
    → map (λ t. t.number) (tests_in here) ≡ range_with_len (n + 1) (length (tests_in here)) →
    (map (λ t. t.number) g.tests ≡ range_with_len (n + 1) (length g.tests))
    × (map (λ t. t.number) (tests_in rest) ≡ range_with_len (n + 1 + length g.tests) (length (tests_in rest)))
first_group n g here rest next row =
    let row' : map (λ t. t.number) (g.tests ++ tests_in rest) ≡ range_with_len (n + 1)
    (length (g.tests ++ tests_in rest)) = rw next at row in
    parted (λ t. t.number) g.tests (tests_in rest) (n + 1) row'

-- one group more is answered
pub one_group_more : (name : HashName) (answers new total : List Answer) (g : GroupValue) (here rest : List GroupValue)
    → here ≡ g ∷ rest → new ≡ answers ++ group_answers name g → keys_of new ≡ range_with_len 1 (length new) →
    (answers ++ flat_map (group_answers name) here ≡ total) × (keys_of answers ≡ range_with_len 1 (length answers))
    × (map (λ t. t.number) (tests_in here) ≡ range_with_len (length answers + 1) (length (tests_in here))) →
    (new ++ flat_map (group_answers name) rest ≡ total) × (keys_of new ≡ range_with_len 1 (length new))
    × (map (λ t. t.number) (tests_in rest) ≡ range_with_len (length new + 1) (length (tests_in rest)))
one_group_more name answers new total g here rest next is row so =
    let all : answers ++ (group_answers name g ++ flat_map (group_answers name) rest) ≡ total = rw next at so.0 in
    let more = (first_group (length answers) g here rest next so.2).1 in
    let long : length new ≡ length answers + length g.tests = ap length is
    ∙ length-append answers (group_answers name g)
    ∙ ap (λ n. length answers + n) (length-map g.tests (λ t. (t.number, texts_on name g.form t))) in
    let at : length new + 1 ≡ length answers + 1 + length g.tests = omega (arith, long) in (
      rw is (append_assoc answers (group_answers name g) (flat_map (group_answers name) rest) ∙ all),
      row,
      rw at more,
    )
