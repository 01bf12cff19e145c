-- Lemmas on the scan of the text of answers: what it takes is such a text, and it takes each.
use Rattle.std.proofs.Common.{◌≡◌, get_or, drop, ◌⊎◌, inl, inr, ℕ, zero, suc, ◌+◌, ◌-◌, ◌*◌, ◌/◌, ◌%◌, ◌^◌, ◌<◌, ◌≤◌}
use Rattle.std.proofs.Common.{List, [], ◌∷◌, ◌++◌, length, map, Bool, true, false, cond, ◌&&◌, ◌||◌, ◌==◌, Option, None}
use Rattle.std.proofs.Common.{Some, option_map, refl, sym, ◌∙◌, ap, subst, append_assoc, arith}
use Rattle.std.specs.Prelude.{nat_lt, nat_le, decimal, unwrap_or}
use Rattle.std.specs.List.{AllByRecursion}
use Rattle.std.specs.Map.{keys_of}
use Rattle.std.proofs.lemmas.List.{drop_all, drop_more}
use Rattle.std.proofs.lemmas.Bool.{cases_eq, cases_lt, ne_eqb, le-ltb}
use Rattle.std.proofs.lemmas.Bool.Decides.{nat_tests}
use Rattle.std.proofs.lemmas.Fmt.{decimal_step, decimal_by_steps, decimal_digit}
use Rattle.json.specs.Print.{escape_byte, escape, quoted}
use Rattle.json.proofs.Printed.Strings.{escape_byte_plain}
use Rattle.serde_json.specs.Data.{string}
use Rattle.serde_json.specs.View.{items_of}
use Rattle.serde_json.specs.Written.{compact_text, items_text}
use Rattle.acvp_answers.specs.Answer.{Answer}
use Rattle.acvp_json.specs.KeptAnswers.{answer_data, kept_text, is_above, are_rising}
use Rattle.acvp_json.specs.Private.Scan.{expected, either, first_digit, more, in_number, inside, is_letter, is_low}
use Rattle.acvp_json.specs.Private.Scan.{escape as escape_next, low, next, is_digit, is_end, accepts}
use Rattle.acvp_json.specs.declared.kept_scan.Place.{Place}
use Rattle.acvp_json.specs.declared.kept_scan.Place.TheVariants.{Begin, Opened, NextAnswer, Number, Digits, Texts}
use Rattle.acvp_json.specs.declared.kept_scan.Place.TheVariants.{TextsOpened, NextText, Inside, Escape, Unicode, Zero}
use Rattle.acvp_json.specs.declared.kept_scan.Place.TheVariants.{High, Low, AfterText, AfterTexts, AfterAnswer, End}

-- ---- the parts of the text

abbrev texts_text : Bool → List (List ℕ) → List ℕ
texts_text later texts = items_text later (items_of (map string texts))

abbrev answers_text : Bool → List Answer → List ℕ
answers_text later answers = items_text later (items_of (map answer_data answers))

-- what stands behind a number: its texts, and the answers after it
abbrev behind : List (List ℕ) → List Answer → List ℕ
behind texts answers = texts_text false texts ++ 93 ∷ answers_text true answers

abbrev in_texts : List (List ℕ) → List Answer → List ℕ
in_texts texts answers = texts_text true texts ++ 93 ∷ answers_text true answers

quoted_then : (s xs : List ℕ) → quoted s ++ xs ≡ 34 ∷ (escape s ++ 34 ∷ xs)
quoted_then s xs = ap (λ l. 34 ∷ l) (append_assoc (escape s) (34 ∷ []) xs)

text_then : (s : List ℕ) (texts : List (List ℕ)) (xs : List ℕ) → (quoted s ++ texts_text true texts) ++ xs
    ≡ 34 ∷ (escape s ++ 34 ∷ (texts_text true texts ++ xs))
text_then s texts xs = append_assoc (quoted s) (texts_text true texts) xs ∙ quoted_then s (texts_text true texts ++ xs)

answer_then : (n : ℕ) (texts : List (List ℕ)) (xs : List ℕ) → compact_text (answer_data (n, texts)) ++ xs
    ≡ 91 ∷ (decimal n ++ 44 ∷ 91 ∷ (texts_text false texts ++ 93 ∷ xs))
answer_then n texts xs =
    ap (λ l. 91 ∷ l) (append_assoc (decimal n) (44 ∷ 91 ∷ (texts_text false texts ++ 93 ∷ [])) xs
    ∙ ap (λ l. decimal n ++ 44 ∷ 91 ∷ l) (append_assoc (texts_text false texts) (93 ∷ []) xs))

-- ---- one byte

abbrev Goes : Option Place → List ℕ → Type 0
Goes o xs = unwrap_or (option_map (λ after. accepts after xs) o) false ≡ true

taken : (b : Bool) (p : Place) (o : Option Place) (xs : List ℕ) → Goes (cond b (Some p) o) xs
    → ((b ≡ true) × (accepts p xs ≡ true)) ⊎ ((b ≡ false) × Goes o xs)
taken true p o xs h = inl (refl, h)
taken false p o xs h = inr (refl, h)

same : (x wanted : ℕ) → (x == wanted) ≡ true → x ≡ wanted
same x wanted e = grind (arith, nat_tests)

-- the byte is this one, and the rest is taken
only : (x wanted : ℕ) (p : Place) (xs : List ℕ) → Goes (expected x wanted p) xs → (x ≡ wanted) × (accepts p xs ≡ true)
only x wanted p xs h = go (taken (x == wanted) p None xs h)
  where
    go : (((x == wanted) ≡ true) × (accepts p xs ≡ true)) ⊎ (((x == wanted) ≡ false) × Goes None xs)
        → (x ≡ wanted) × (accepts p xs ≡ true)
    go (inl is) = (same x wanted is.0, is.1)
    go (inr is) = absurd (let no : false ≡ true = is.1 in cc)

one_of : (x one : ℕ) (p : Place) (other : ℕ) (q : Place) (xs : List ℕ) → Goes (either x one p other q) xs
    → ((x ≡ one) × (accepts p xs ≡ true)) ⊎ ((x ≡ other) × (accepts q xs ≡ true))
one_of x one p other q xs h = go (taken (x == one) p (expected x other q) xs h)
  where
    go : (((x == one) ≡ true) × (accepts p xs ≡ true)) ⊎ (((x == one) ≡ false) × Goes (expected x other q) xs)
        → ((x ≡ one) × (accepts p xs ≡ true)) ⊎ ((x ≡ other) × (accepts q xs ≡ true))
    go (inl is) = inl (same x one is.0, is.1)
    go (inr is) = inr (only x other q xs is.1)

-- ---- what is taken from each place on

abbrev pub AreFitting : List Answer → Type 0
AreFitting answers = AllByRecursion (λ (a : Answer). a.0 < 2 ^ 64) answers

pub record AreGood (last : Option ℕ) (answers : List Answer) : Type 0 where
  pub rising : are_rising last (keys_of answers) ≡ true
  pub fitting : AreFitting answers

abbrev IsAfterAnswer : ℕ → List ℕ → Type 0
IsAfterAnswer n xs = (answers : List Answer) × (xs ≡ answers_text true answers) × AreGood (Some n) answers

abbrev IsAfterTexts : ℕ → List ℕ → Type 0
IsAfterTexts n xs = (answers : List Answer) × (xs ≡ 93 ∷ answers_text true answers) × AreGood (Some n) answers

abbrev IsAfterText : ℕ → List ℕ → Type 0
IsAfterText n xs = (texts : List (List ℕ)) × (answers : List Answer) × (xs ≡ in_texts texts answers)
    × AreGood (Some n) answers

-- these bytes of a text were read before
abbrev IsInside : List ℕ → ℕ → List ℕ → Type 0
IsInside before n xs = (s : List ℕ) × (texts : List (List ℕ)) × (answers : List Answer)
    × (before ++ xs ≡ escape s ++ 34 ∷ in_texts texts answers) × AreGood (Some n) answers

abbrev IsNextText : ℕ → List ℕ → Type 0
IsNextText n xs = (s : List ℕ) × (texts : List (List ℕ)) × (answers : List Answer)
    × (xs ≡ 34 ∷ (escape s ++ 34 ∷ in_texts texts answers)) × AreGood (Some n) answers

abbrev IsOpened : ℕ → List ℕ → Type 0
IsOpened n xs = (texts : List (List ℕ)) × (answers : List Answer) × (xs ≡ behind texts answers)
    × AreGood (Some n) answers

abbrev IsTexts : ℕ → List ℕ → Type 0
IsTexts n xs = (texts : List (List ℕ)) × (answers : List Answer) × (xs ≡ 91 ∷ behind texts answers)
    × AreGood (Some n) answers

-- these bytes of the number were read before
abbrev IsInNumber : List ℕ → Option ℕ → List ℕ → Type 0
IsInNumber before last xs = (n : ℕ) × (texts : List (List ℕ)) × (answers : List Answer)
    × (before ++ xs ≡ decimal n ++ 44 ∷ 91 ∷ behind texts answers) × (is_above last n ≡ true) × (n < 2 ^ 64)
    × AreGood (Some n) answers

abbrev IsNextAnswer : Option ℕ → List ℕ → Type 0
IsNextAnswer last xs = (n : ℕ) × (texts : List (List ℕ)) × (answers : List Answer)
    × (xs ≡ 91 ∷ (decimal n ++ 44 ∷ 91 ∷ behind texts answers)) × (is_above last n ≡ true) × (n < 2 ^ 64)
    × AreGood (Some n) answers

abbrev IsOpenedAll : List ℕ → Type 0
IsOpenedAll xs = (answers : List Answer) × (xs ≡ answers_text false answers) × AreGood None answers

-- ---- each place after the ones behind it

led_by : (x wanted : ℕ) (xs ys : List ℕ) → x ≡ wanted → xs ≡ ys → x ∷ xs ≡ wanted ∷ ys
led_by x wanted xs ys e f = λ i. e i ∷ f i

after_answer : (n x : ℕ) (xs : List ℕ) → (accepts End xs ≡ true → xs ≡ [])
    → (accepts (NextAnswer n) xs ≡ true → IsNextAnswer (Some n) xs)
    → Goes (either x 44 (NextAnswer n) 93 End) xs → IsAfterAnswer n (x ∷ xs)
after_answer n x xs ended next_answer h = go (one_of x 44 (NextAnswer n) 93 End xs h)
  where
    go : ((x ≡ 44) × (accepts (NextAnswer n) xs ≡ true)) ⊎ ((x ≡ 93) × (accepts End xs ≡ true))
        → IsAfterAnswer n (x ∷ xs)
    go (inl is) =
        let rest = next_answer is.1 in (
          (rest.0, rest.1) ∷ rest.2,
          led_by x 44 xs _ is.0 (rest.3 ∙ sym (answer_then rest.0 rest.1 (answers_text true rest.2))),
          record { rising = rw rest.4 rest.6.rising; fitting = (rest.5, rest.6.fitting) },
        )
    go (inr is) = ([], led_by x 93 xs [] is.0 (ended is.1), record { rising = refl; fitting = tt })

after_texts : (n x : ℕ) (xs : List ℕ) → (accepts (AfterAnswer n) xs ≡ true → IsAfterAnswer n xs)
    → Goes (expected x 93 (AfterAnswer n)) xs → IsAfterTexts n (x ∷ xs)
after_texts n x xs rest_of h =
    let is = only x 93 (AfterAnswer n) xs h in
    let rest = rest_of is.1 in
    (rest.0, led_by x 93 xs _ is.0 rest.1, rest.2)

after_text : (n x : ℕ) (xs : List ℕ) → (accepts (NextText n) xs ≡ true → IsNextText n xs)
    → (accepts (AfterTexts n) xs ≡ true → IsAfterTexts n xs)
    → Goes (either x 44 (NextText n) 93 (AfterTexts n)) xs → IsAfterText n (x ∷ xs)
after_text n x xs next_text texts_end h = go (one_of x 44 (NextText n) 93 (AfterTexts n) xs h)
  where
    go : ((x ≡ 44) × (accepts (NextText n) xs ≡ true)) ⊎ ((x ≡ 93) × (accepts (AfterTexts n) xs ≡ true))
        → IsAfterText n (x ∷ xs)
    go (inl is) =
        let rest = next_text is.1 in (
          rest.0 ∷ rest.1,
          rest.2,
          led_by x 44 xs _ is.0 (rest.3 ∙ sym (text_then rest.0 rest.1 (93 ∷ answers_text true rest.2))),
          rest.4,
        )
    go (inr is) = let rest = texts_end is.1 in ([], rest.0, led_by x 93 xs _ is.0 rest.1, rest.2)

-- a byte that stands for itself
plain_byte : (x : ℕ) → (x == 34) ≡ false → (x == 92) ≡ false → nat_lt x 32 ≡ false → escape_byte x ≡ x ∷ []
plain_byte x q b l = escape_byte_plain x (λ e. grind (arith, nat_tests)) (λ e. grind (arith, nat_tests))
    (grind (arith, nat_tests))

-- the bytes of one more character
one_more : (c n : ℕ) (before xs : List ℕ) → escape_byte c ≡ before → IsInside [] n xs → IsInside before n xs
one_more c n before xs is rest = (
  c ∷ rest.0,
  rest.1,
  rest.2,
  ap (λ l. l ++ xs) (sym is) ∙ ap (λ l. escape_byte c ++ l) rest.3
      ∙ sym (append_assoc (escape_byte c) (escape rest.0) (34 ∷ in_texts rest.1 rest.2)),
  rest.4,
)

inside_one : (n x : ℕ) (xs : List ℕ) → (accepts (AfterText n) xs ≡ true → IsAfterText n xs)
    → (accepts (Escape n) xs ≡ true → IsInside (92 ∷ []) n xs)
    → (accepts (Inside n) xs ≡ true → IsInside [] n xs) → Goes (inside n x) xs → IsInside [] n (x ∷ xs)
inside_one n x xs text_end escaped more_of h = go (taken (x == 34) (AfterText n) _ xs h)
  where
    plain : (q : (x == 34) ≡ false) (b : (x == 92) ≡ false) (small : Bool) → nat_lt x 32 ≡ small
        → Goes (cond small None (Some (Inside n))) xs → IsInside [] n (x ∷ xs)
    plain q b true l h = absurd (let no : false ≡ true = h in cc)
    plain q b false l h = one_more x n (x ∷ []) xs (plain_byte x q b l) (more_of h)

    unquoted : (x == 34) ≡ false → (((x == 92) ≡ true) × (accepts (Escape n) xs ≡ true))
        ⊎ (((x == 92) ≡ false) × Goes (cond (nat_lt x 32) None (Some (Inside n))) xs) → IsInside [] n (x ∷ xs)
    unquoted q (inl is) = let rest = escaped is.1 in
        (rest.0, rest.1, rest.2, led_by x 92 xs xs (same x 92 is.0) refl ∙ rest.3, rest.4)
    unquoted q (inr is) = plain q is.0 (nat_lt x 32) refl is.1

    go : (((x == 34) ≡ true) × (accepts (AfterText n) xs ≡ true))
        ⊎ (((x == 34) ≡ false) × Goes (cond (x == 92) (Some (Escape n)) (cond (nat_lt x 32) None (Some (Inside n)))) xs)
        → IsInside [] n (x ∷ xs)
    go (inl is) = let rest = text_end is.1 in ([], rest.0, rest.1, led_by x 34 xs _ (same x 34 is.0) rest.2, rest.3)
    go (inr is) = unquoted is.0 (taken (x == 92) (Escape n) _ xs is.1)

-- ---- escapes

or_true : (a b : Bool) → (a || b) ≡ true → (a ≡ true) ⊎ (b ≡ true)
or_true true b h = inl refl
or_true false b h = inr h

-- P holds below n
abbrev Each : (ℕ → Type 0) → ℕ → Type 0
Each P zero = Unit {0}
Each P (suc n) = P n × Each P n

each_sound : (P : ℕ → Type 0) (n : ℕ) → Each P n → (x : ℕ) → x < n → P x
each_sound P zero h x lt = absurd (omega arith)
each_sound P (suc n) h x lt = go (each_sound P n h.1 x) (cases_eq x n)
  where
    go : (x < n → P x) → (x ≡ n) ⊎ (x ≡ n → ⊥) → P x
    go below (inl e) = subst P (sym e) h.0
    go below (inr ne) = below (omega arith)

-- a character that is written as these bytes
abbrev Spells : List ℕ → Type 0
Spells bytes = (c : ℕ) × (escape_byte c ≡ bytes)

letter_at : (x c wanted : ℕ) → escape_byte c ≡ 92 ∷ wanted ∷ [] → (x == wanted) ≡ true → Spells (92 ∷ x ∷ [])
letter_at x c wanted spelled e = (c, spelled ∙ (λ i. 92 ∷ sym (same x wanted e) i ∷ []))

letter : (x : ℕ) → is_letter x ≡ true → Spells (92 ∷ x ∷ [])
unfolding escape_byte
letter x h = first (or_true (x == 34) _ h)
  where
    sixth : ((x == 114) ≡ true) ⊎ ((x == 116) ≡ true) → Spells (92 ∷ x ∷ [])
    sixth (inl e) = letter_at x 13 114 refl e
    sixth (inr e) = letter_at x 9 116 refl e

    fifth : ((x == 110) ≡ true) ⊎ (((x == 114) || (x == 116)) ≡ true) → Spells (92 ∷ x ∷ [])
    fifth (inl e) = letter_at x 10 110 refl e
    fifth (inr h) = sixth (or_true (x == 114) _ h)

    fourth : ((x == 102) ≡ true) ⊎ (((x == 110) || ((x == 114) || (x == 116))) ≡ true) → Spells (92 ∷ x ∷ [])
    fourth (inl e) = letter_at x 12 102 refl e
    fourth (inr h) = fifth (or_true (x == 110) _ h)

    third : ((x == 98) ≡ true) ⊎ (((x == 102) || ((x == 110) || ((x == 114) || (x == 116)))) ≡ true)
        → Spells (92 ∷ x ∷ [])
    third (inl e) = letter_at x 8 98 refl e
    third (inr h) = fourth (or_true (x == 102) _ h)

    second : ((x == 92) ≡ true) ⊎ (((x == 98) || ((x == 102) || ((x == 110) || ((x == 114) || (x == 116))))) ≡ true)
        → Spells (92 ∷ x ∷ [])
    second (inl e) = letter_at x 92 92 refl e
    second (inr h) = third (or_true (x == 98) _ h)

    first : ((x == 34) ≡ true)
        ⊎ (((x == 92) || ((x == 98) || ((x == 102) || ((x == 110) || ((x == 114) || (x == 116)))))) ≡ true)
        → Spells (92 ∷ x ∷ [])
    first (inl e) = letter_at x 34 34 refl e
    first (inr h) = second (or_true (x == 92) _ h)

abbrev third_digit : Bool → ℕ
third_digit true = 49
third_digit false = 48

abbrev control : Bool → ℕ → List ℕ
control is_second x = 92 ∷ 117 ∷ 48 ∷ 48 ∷ third_digit is_second ∷ x ∷ []

below_8 : Each (λ v. escape_byte v ≡ control false (48 + v)) 8
unfolding escape_byte
below_8 = (refl, (refl, (refl, (refl, (refl, (refl, (refl, (refl, tt))))))))

below_26 : Each (λ v. escape_byte (16 + v) ≡ control true (48 + v)) 10
unfolding escape_byte
below_26 = (refl, (refl, (refl, (refl, (refl, (refl, (refl, (refl, (refl, (refl, tt))))))))))

below_32 : Each (λ v. escape_byte (26 + v) ≡ control true (97 + v)) 6
unfolding escape_byte
below_32 = (refl, (refl, (refl, (refl, (refl, (refl, tt))))))

-- a byte of a run of letters or digits
in_run : (is_second : Bool) (x first few base : ℕ)
    → Each (λ v. escape_byte (base + v) ≡ control is_second (first + v)) few → first ≤ x → x < first + few
    → Spells (control is_second x)
in_run is_second x first few base each above below =
    let at : first + (x - first) ≡ x = omega arith in (
      base + (x - first),
      subst
          (λ k. escape_byte (base + (x - first)) ≡ control is_second k) at (each_sound
          (λ v. escape_byte (base + v) ≡ control is_second (first + v)) few each (x - first) (omega arith)),
    )

low_at : (x c wanted : ℕ) → escape_byte c ≡ control false wanted → (x == wanted) ≡ true → Spells (control false x)
low_at x c wanted spelled e = (c, spelled ∙ ap (control false) (sym (same x wanted e)))

between : (low x high : ℕ) → (nat_le low x && nat_le x high) ≡ true → (low ≤ x) × (x ≤ high)
between low x high h = (grind (arith, nat_tests), grind (arith, nat_tests))

low_spells : (is_second : Bool) (x : ℕ) → is_low is_second x ≡ true → Spells (control is_second x)
unfolding escape_byte
low_spells true x h = go (or_true (nat_le 48 x && nat_le x 57) _ h)
  where
    go : ((nat_le 48 x && nat_le x 57) ≡ true) ⊎ ((nat_le 97 x && nat_le x 102) ≡ true) → Spells (control true x)
    go (inl h) = let range = between 48 x 57 h in in_run true x 48 10 16 below_26 range.0 (omega (arith, range.1))
    go (inr h) = let range = between 97 x 102 h in in_run true x 97 6 26 below_32 range.0 (omega (arith, range.1))
low_spells false x h = first (or_true (nat_le 48 x && nat_le x 55) _ h)
  where
    third : ((x == 101) ≡ true) ⊎ ((x == 102) ≡ true) → Spells (control false x)
    third (inl e) = low_at x 14 101 refl e
    third (inr e) = low_at x 15 102 refl e

    second : ((x == 98) ≡ true) ⊎ (((x == 101) || (x == 102)) ≡ true) → Spells (control false x)
    second (inl e) = low_at x 11 98 refl e
    second (inr h) = third (or_true (x == 101) _ h)

    first : ((nat_le 48 x && nat_le x 55) ≡ true) ⊎ (((x == 98) || ((x == 101) || (x == 102))) ≡ true)
        → Spells (control false x)
    first (inl h) = let range = between 48 x 55 h in in_run false x 48 8 0 below_8 range.0 (omega (arith, range.1))
    first (inr h) = second (or_true (x == 98) _ h)

escape_one : (n x : ℕ) (xs : List ℕ) → (accepts (Unicode n) xs ≡ true → IsInside (92 ∷ 117 ∷ []) n xs)
    → (accepts (Inside n) xs ≡ true → IsInside [] n xs)
    → Goes (escape_next n x) xs → IsInside (92 ∷ []) n (x ∷ xs)
escape_one n x xs unicode more_of h = go (taken (x == 117) (Unicode n) _ xs h)
  where
    other : ((is_letter x ≡ true) × (accepts (Inside n) xs ≡ true)) ⊎ ((is_letter x ≡ false) × Goes None xs)
        → IsInside (92 ∷ []) n (x ∷ xs)
    other (inl is) = let spelled = letter x is.0 in one_more spelled.0 n (92 ∷ x ∷ []) xs spelled.1 (more_of is.1)
    other (inr is) = absurd (let no : false ≡ true = is.1 in cc)

    go : (((x == 117) ≡ true) × (accepts (Unicode n) xs ≡ true))
        ⊎ (((x == 117) ≡ false) × Goes (cond (is_letter x) (Some (Inside n)) None) xs) → IsInside (92 ∷ []) n (x ∷ xs)
    go (inl is) = let rest = unicode is.1 in
        (rest.0, rest.1, rest.2, (λ i. 92 ∷ same x 117 is.0 i ∷ xs) ∙ rest.3, rest.4)
    go (inr is) = other (taken (is_letter x) (Inside n) None xs is.1)

-- one more byte of an escape that is the same in all
escape_more : (n x wanted : ℕ) (before : List ℕ) (p : Place) (xs : List ℕ)
    → (accepts p xs ≡ true → IsInside (before ++ wanted ∷ []) n xs) → Goes (expected x wanted p) xs
    → IsInside before n (x ∷ xs)
escape_more n x wanted before p xs rest_of h =
    let is = only x wanted p xs h in
    let rest = rest_of is.1 in
    (rest.0, rest.1, rest.2, (λ i. before ++ is.0 i ∷ xs) ∙ sym (append_assoc before (wanted ∷ []) xs) ∙ rest.3, rest.4)

high_one : (n x : ℕ) (xs : List ℕ) → (accepts (Low n false) xs ≡ true → IsInside (92 ∷ 117 ∷ 48 ∷ 48 ∷ 48 ∷ []) n xs)
    → (accepts (Low n true) xs ≡ true → IsInside (92 ∷ 117 ∷ 48 ∷ 48 ∷ 49 ∷ []) n xs)
    → Goes (either x 48 (Low n false) 49 (Low n true)) xs → IsInside (92 ∷ 117 ∷ 48 ∷ 48 ∷ []) n (x ∷ xs)
high_one n x xs first second h = go (one_of x 48 (Low n false) 49 (Low n true) xs h)
  where
    go : ((x ≡ 48) × (accepts (Low n false) xs ≡ true)) ⊎ ((x ≡ 49) × (accepts (Low n true) xs ≡ true))
        → IsInside (92 ∷ 117 ∷ 48 ∷ 48 ∷ []) n (x ∷ xs)
    go (inl is) = let rest = first is.1 in
        (rest.0, rest.1, rest.2, (λ i. 92 ∷ 117 ∷ 48 ∷ 48 ∷ is.0 i ∷ xs) ∙ rest.3, rest.4)
    go (inr is) = let rest = second is.1 in
        (rest.0, rest.1, rest.2, (λ i. 92 ∷ 117 ∷ 48 ∷ 48 ∷ is.0 i ∷ xs) ∙ rest.3, rest.4)

low_one : (n : ℕ) (is_second : Bool) (x : ℕ) (xs : List ℕ) → (accepts (Inside n) xs ≡ true → IsInside [] n xs)
    → Goes (low n is_second x) xs
    → IsInside (92 ∷ 117 ∷ 48 ∷ 48 ∷ third_digit is_second ∷ []) n (x ∷ xs)
low_one n is_second x xs more_of h = go (taken (is_low is_second x) (Inside n) None xs h)
  where
    go : ((is_low is_second x ≡ true) × (accepts (Inside n) xs ≡ true)) ⊎ ((is_low is_second x ≡ false) × Goes None xs)
        → IsInside (92 ∷ 117 ∷ 48 ∷ 48 ∷ third_digit is_second ∷ []) n (x ∷ xs)
    go (inl is) = let spelled = low_spells is_second x is.0 in
        one_more spelled.0 n (control is_second x) xs spelled.1 (more_of is.1)
    go (inr is) = absurd (let no : false ≡ true = is.1 in cc)

-- ---- texts and numbers

next_text : (n x : ℕ) (xs : List ℕ) → (accepts (Inside n) xs ≡ true → IsInside [] n xs)
    → Goes (expected x 34 (Inside n)) xs → IsNextText n (x ∷ xs)
next_text n x xs rest_of h =
    let is = only x 34 (Inside n) xs h in
    let rest = rest_of is.1 in
    (rest.0, rest.1, rest.2, led_by x 34 xs _ is.0 rest.3, rest.4)

texts_opened : (n x : ℕ) (xs : List ℕ) → (accepts (Inside n) xs ≡ true → IsInside [] n xs)
    → (accepts (AfterTexts n) xs ≡ true → IsAfterTexts n xs)
    → Goes (either x 34 (Inside n) 93 (AfterTexts n)) xs → IsOpened n (x ∷ xs)
texts_opened n x xs rest_of texts_end h = go (one_of x 34 (Inside n) 93 (AfterTexts n) xs h)
  where
    go : ((x ≡ 34) × (accepts (Inside n) xs ≡ true)) ⊎ ((x ≡ 93) × (accepts (AfterTexts n) xs ≡ true))
        → IsOpened n (x ∷ xs)
    go (inl is) =
        let rest = rest_of is.1 in (
          rest.0 ∷ rest.1,
          rest.2,
          led_by x 34 xs _ is.0 rest.3
              ∙ sym (text_then rest.0 rest.1 (93 ∷ answers_text true rest.2)),
          rest.4,
        )
    go (inr is) = let rest = texts_end is.1 in ([], rest.0, led_by x 93 xs _ is.0 rest.1, rest.2)

texts_one : (n x : ℕ) (xs : List ℕ) → (accepts (TextsOpened n) xs ≡ true → IsOpened n xs)
    → Goes (expected x 91 (TextsOpened n)) xs → IsTexts n (x ∷ xs)
texts_one n x xs rest_of h =
    let is = only x 91 (TextsOpened n) xs h in
    let rest = rest_of is.1 in
    (rest.0, rest.1, led_by x 91 xs _ is.0 rest.2, rest.3)

-- a digit more
longer : (n x : ℕ) → 0 < n → is_digit x ≡ true → n * 10 + (x - 48) < 2 ^ 64
    → decimal (n * 10 + (x - 48)) ≡ decimal n ++ x ∷ []
longer n x some digit fits =
    let range = between 48 x 57 digit in
    let m : ℕ = n * 10 + (x - 48) in
    let front : m / 10 ≡ n = omega (arith, range.0, range.1) in
    let end : 48 + m % 10 ≡ x = omega (arith, range.0, range.1) in
    decimal_step m (omega arith) fits ∙ (λ i. decimal (front i) ++ (end i ∷ []))

digit_alone : (x : ℕ) → is_digit x ≡ true → decimal (x - 48) ≡ x ∷ []
digit_alone x digit =
    let range = between 48 x 57 digit in
    let is : 48 + (x - 48) ≡ x = omega (arith, range.0) in
    decimal_digit (x - 48) (omega (arith, range.1)) ∙ ap (λ k. k ∷ []) is

and_true : (a b : Bool) → (a && b) ≡ true → (a ≡ true) × (b ≡ true)
and_true true b h = (refl, h)
and_true false b h = absurd (cc)

-- the number that was read stands for the bytes before
digits_one : (last : Option ℕ) (n x : ℕ) (xs : List ℕ) → n < 2 ^ 64
    → ((m : ℕ) → m < 2 ^ 64 → accepts (Digits last m) xs ≡ true → IsInNumber (decimal m) last xs)
    → (accepts (Texts n) xs ≡ true → IsTexts n xs) → Goes (in_number last n x) xs → IsInNumber (decimal n) last (x ∷ xs)
digits_one last n x xs fits more_of texts_of h = go (is_digit x) refl h
  where
    grown : is_digit x ≡ true
        → ((((nat_lt 0 n && nat_lt (n * 10 + (x - 48)) (2 ^ 64)) ≡ true)
        × (accepts (Digits last (n * 10 + (x - 48))) xs ≡ true))
        ⊎ (((nat_lt 0 n && nat_lt (n * 10 + (x - 48)) (2 ^ 64)) ≡ false) × Goes None xs))
        → IsInNumber (decimal n) last (x ∷ xs)
    grown digit (inl is) =
        let both = and_true (nat_lt 0 n) _ is.0 in
        let some : 0 < n = (let e : nat_lt 0 n ≡ true = both.0 in grind (arith, nat_tests)) in
        let small : n * 10 + (x - 48) < 2 ^ 64 = (let e : nat_lt (n * 10 + (x - 48)) (2 ^ 64) ≡ true = both.1 in
        grind (arith, nat_tests)) in
        let rest = more_of (n * 10 + (x - 48)) small is.1 in (
          rest.0,
          rest.1,
          rest.2,
          sym (append_assoc (decimal n) (x ∷ []) xs)
              ∙ ap (λ l. l ++ xs) (sym (longer n x some digit small)) ∙ rest.3,
          rest.4,
          rest.5,
          rest.6,
        )
    grown digit (inr is) = absurd (let no : false ≡ true = is.1 in cc)

    ended : ((((x == 44) && is_above last n) ≡ true) × (accepts (Texts n) xs ≡ true))
        ⊎ ((((x == 44) && is_above last n) ≡ false) × Goes None xs) → IsInNumber (decimal n) last (x ∷ xs)
    ended (inl is) =
        let both = and_true (x == 44) _ is.0 in
        let rest = texts_of is.1 in
        (n, rest.0, rest.1, ap (λ l. decimal n ++ l) (led_by x 44 xs _ (same x 44 both.0) rest.2), both.1, fits, rest.3)
    ended (inr is) = absurd (let no : false ≡ true = is.1 in cc)

    go : (b : Bool) → is_digit x ≡ b
        → Goes (cond b (more last n x) (cond ((x == 44) && is_above last n) (Some (Texts n)) None)) xs
        → IsInNumber (decimal n) last (x ∷ xs)
    go true digit h = grown digit
        (taken (nat_lt 0 n && nat_lt (n * 10 + (x - 48)) (2 ^ 64)) (Digits last (n * 10 + (x - 48))) None xs h)
    go false digit h = ended (taken ((x == 44) && is_above last n) (Texts n) None xs h)

number_one : (last : Option ℕ) (x : ℕ) (xs : List ℕ)
    → ((m : ℕ) → m < 2 ^ 64 → accepts (Digits last m) xs ≡ true → IsInNumber (decimal m) last xs)
    → Goes (first_digit last x) xs → IsInNumber [] last (x ∷ xs)
number_one last x xs more_of h = go (taken (is_digit x) (Digits last (x - 48)) None xs h)
  where
    go : ((is_digit x ≡ true) × (accepts (Digits last (x - 48)) xs ≡ true)) ⊎ ((is_digit x ≡ false) × Goes None xs)
        → IsInNumber [] last (x ∷ xs)
    go (inl is) =
        let range = between 48 x 57 is.0 in
        let rest = more_of (x - 48) (omega (arith, range.1)) is.1 in
        (rest.0, rest.1, rest.2, ap (λ l. l ++ xs) (sym (digit_alone x is.0)) ∙ rest.3, rest.4, rest.5, rest.6)
    go (inr is) = absurd (let no : false ≡ true = is.1 in cc)

next_answer : (last : Option ℕ) (x : ℕ) (xs : List ℕ) → (accepts (Number last) xs ≡ true → IsInNumber [] last xs)
    → Goes (expected x 91 (Number last)) xs → IsNextAnswer last (x ∷ xs)
next_answer last x xs rest_of h =
    let is = only x 91 (Number last) xs h in
    let rest = rest_of is.1 in
    (rest.0, rest.1, rest.2, led_by x 91 xs _ is.0 rest.3, rest.4, rest.5, rest.6)

opened : (x : ℕ) (xs : List ℕ) → (accepts (Number None) xs ≡ true → IsInNumber [] None xs)
    → (accepts End xs ≡ true → xs ≡ [])
    → Goes (either x 91 (Number None) 93 End) xs → IsOpenedAll (x ∷ xs)
opened x xs rest_of ended h = go (one_of x 91 (Number None) 93 End xs h)
  where
    go : ((x ≡ 91) × (accepts (Number None) xs ≡ true)) ⊎ ((x ≡ 93) × (accepts End xs ≡ true)) → IsOpenedAll (x ∷ xs)
    go (inl is) =
        let rest = rest_of is.1 in (
          (rest.0, rest.1) ∷ rest.2,
          led_by x 91 xs _ is.0 rest.3
              ∙ sym (answer_then rest.0 rest.1 (answers_text true rest.2)),
          record { rising = rest.6.rising; fitting = (rest.5, rest.6.fitting) },
        )
    go (inr is) = ([], led_by x 93 xs [] is.0 (ended is.1), record { rising = refl; fitting = tt })

-- ---- all places

is_ended : (xs : List ℕ) → accepts End xs ≡ true → xs ≡ []
unfolding accepts
is_ended [] h = refl
is_ended (x ∷ xs) h = absurd (cc)

mutual
  unfolding accepts

  from_inside : (n : ℕ) (xs : List ℕ) → accepts (Inside n) xs ≡ true → IsInside [] n xs
  from_inside n [] h = absurd (cc)
  from_inside n (x ∷ xs) h = inside_one n x xs (from_after_text n xs) (from_escape n xs) (from_inside n xs) h

  from_escape : (n : ℕ) (xs : List ℕ) → accepts (Escape n) xs ≡ true → IsInside (92 ∷ []) n xs
  from_escape n [] h = absurd (cc)
  from_escape n (x ∷ xs) h = escape_one n x xs (from_unicode n xs) (from_inside n xs) h

  from_unicode : (n : ℕ) (xs : List ℕ) → accepts (Unicode n) xs ≡ true → IsInside (92 ∷ 117 ∷ []) n xs
  from_unicode n [] h = absurd (cc)
  from_unicode n (x ∷ xs) h = escape_more n x 48 (92 ∷ 117 ∷ []) (Zero n) xs (from_zero n xs) h

  from_zero : (n : ℕ) (xs : List ℕ) → accepts (Zero n) xs ≡ true → IsInside (92 ∷ 117 ∷ 48 ∷ []) n xs
  from_zero n [] h = absurd (cc)
  from_zero n (x ∷ xs) h = escape_more n x 48 (92 ∷ 117 ∷ 48 ∷ []) (High n) xs (from_high n xs) h

  from_high : (n : ℕ) (xs : List ℕ) → accepts (High n) xs ≡ true → IsInside (92 ∷ 117 ∷ 48 ∷ 48 ∷ []) n xs
  from_high n [] h = absurd (cc)
  from_high n (x ∷ xs) h = high_one n x xs (from_low n false xs) (from_low n true xs) h

  from_low : (n : ℕ) (is_second : Bool) (xs : List ℕ) → accepts (Low n is_second) xs ≡ true
      → IsInside (92 ∷ 117 ∷ 48 ∷ 48 ∷ third_digit is_second ∷ []) n xs
  from_low n is_second [] h = absurd (cc)
  from_low n is_second (x ∷ xs) h = low_one n is_second x xs (from_inside n xs) h

  from_after_text : (n : ℕ) (xs : List ℕ) → accepts (AfterText n) xs ≡ true → IsAfterText n xs
  from_after_text n [] h = absurd (cc)
  from_after_text n (x ∷ xs) h = after_text n x xs (from_next_text n xs) (from_after_texts n xs) h

  from_next_text : (n : ℕ) (xs : List ℕ) → accepts (NextText n) xs ≡ true → IsNextText n xs
  from_next_text n [] h = absurd (cc)
  from_next_text n (x ∷ xs) h = next_text n x xs (from_inside n xs) h

  from_after_texts : (n : ℕ) (xs : List ℕ) → accepts (AfterTexts n) xs ≡ true → IsAfterTexts n xs
  from_after_texts n [] h = absurd (cc)
  from_after_texts n (x ∷ xs) h = after_texts n x xs (from_after_answer n xs) h

  from_after_answer : (n : ℕ) (xs : List ℕ) → accepts (AfterAnswer n) xs ≡ true → IsAfterAnswer n xs
  from_after_answer n [] h = absurd (cc)
  from_after_answer n (x ∷ xs) h = after_answer n x xs (is_ended xs) (from_next_answer n xs) h

  from_next_answer : (n : ℕ) (xs : List ℕ) → accepts (NextAnswer n) xs ≡ true → IsNextAnswer (Some n) xs
  from_next_answer n [] h = absurd (cc)
  from_next_answer n (x ∷ xs) h = next_answer (Some n) x xs (from_number (Some n) xs) h

  from_number : (last : Option ℕ) (xs : List ℕ) → accepts (Number last) xs ≡ true → IsInNumber [] last xs
  from_number last [] h = absurd (cc)
  from_number last (x ∷ xs) h = number_one last x xs (λ m fits. from_digits last m xs fits) h

  from_digits : (last : Option ℕ) (n : ℕ) (xs : List ℕ) → n < 2 ^ 64 → accepts (Digits last n) xs ≡ true
      → IsInNumber (decimal n) last xs
  from_digits last n [] fits h = absurd (cc)
  from_digits last n (x ∷ xs) fits h =
      digits_one last n x xs fits (λ m small. from_digits last m xs small) (from_texts n xs) h

  from_texts : (n : ℕ) (xs : List ℕ) → accepts (Texts n) xs ≡ true → IsTexts n xs
  from_texts n [] h = absurd (cc)
  from_texts n (x ∷ xs) h = texts_one n x xs (from_texts_opened n xs) h

  from_texts_opened : (n : ℕ) (xs : List ℕ) → accepts (TextsOpened n) xs ≡ true → IsOpened n xs
  from_texts_opened n [] h = absurd (cc)
  from_texts_opened n (x ∷ xs) h = texts_opened n x xs (from_inside n xs) (from_after_texts n xs) h

from_opened : (xs : List ℕ) → accepts Opened xs ≡ true → IsOpenedAll xs
unfolding accepts
from_opened [] h = absurd (cc)
from_opened (x ∷ xs) h = opened x xs (from_number None xs) (is_ended xs) h

-- what is taken is the text of answers whose numbers rise and fit
pub from_begin : (text : List ℕ) → accepts Begin text ≡ true → (answers : List Answer) × (text ≡ kept_text answers)
    × AreGood None answers
unfolding accepts kept_text
from_begin [] h = absurd (cc)
from_begin (x ∷ xs) h =
    let is = only x 91 Opened xs h in
    let rest = from_opened xs is.1 in
    (rest.0, led_by x 91 xs _ is.0 rest.1, rest.2)

-- ---- each such text is taken

-- the escape of a character is passed over inside a text
abbrev Passes : ℕ → Type 0
Passes c = (n : ℕ) (xs : List ℕ) → accepts (Inside n) (escape_byte c ++ xs) ≡ accepts (Inside n) xs

controls_pass : Each Passes 32
unfolding accepts escape_byte
controls_pass = (
  λ n xs. refl,
  (
    λ n xs. refl,
    (
      λ n xs. refl,
      (
        λ n xs. refl,
        (
          λ n xs. refl,
          (
            λ n xs. refl,
            (
              λ n xs. refl,
              (
                λ n xs. refl,
                (
                  λ n xs. refl,
                  (
                    λ n xs. refl,
                    (
                      λ n xs. refl,
                      (
                        λ n xs. refl,
                        (
                          λ n xs. refl,
                          (
                            λ n xs. refl,
                            (
                              λ n xs. refl,
                              (
                                λ n xs. refl,
                                (
                                  λ n xs. refl,
                                  (
                                    λ n xs. refl,
                                    (
                                      λ n xs. refl,
                                      (
                                        λ n xs. refl,
                                        (
                                          λ n xs. refl,
                                          (
                                            λ n xs. refl,
                                            (
                                              λ n xs. refl,
                                              (
                                                λ n xs. refl,
                                                (
                                                  λ n xs. refl,
                                                  (
                                                    λ n xs. refl,
                                                    (
                                                      λ n xs. refl,
                                                      (λ n xs. refl, (λ n xs. refl, (λ n xs. refl, (λ n xs. refl, (λ n xs. refl, tt))))),
                                                    ),
                                                  ),
                                                ),
                                              ),
                                            ),
                                          ),
                                        ),
                                      ),
                                    ),
                                  ),
                                ),
                              ),
                            ),
                          ),
                        ),
                      ),
                    ),
                  ),
                ),
              ),
            ),
          ),
        ),
      ),
    ),
  ),
)

quote_passes : Passes 34
unfolding accepts escape_byte
quote_passes n xs = refl

backslash_passes : Passes 92
unfolding accepts escape_byte
backslash_passes n xs = refl

plain_passes : (c : ℕ) → (c ≡ 34 → ⊥) → (c ≡ 92 → ⊥) → 32 ≤ c → Passes c
unfolding accepts
plain_passes c q b l n xs = rw (escape_byte_plain c q b l, ne_eqb c 34 q, ne_eqb c 92 b, le-ltb c 32 l) refl

passes : (c : ℕ) → Passes c
passes c = go (cases_eq c 34) (cases_eq c 92) (cases_lt c 32)
  where
    go : (c ≡ 34) ⊎ (c ≡ 34 → ⊥) → (c ≡ 92) ⊎ (c ≡ 92 → ⊥) → (c < 32) ⊎ (32 ≤ c) → Passes c
    go (inl e) b l = subst Passes (sym e) quote_passes
    go (inr q) (inl e) l = subst Passes (sym e) backslash_passes
    go (inr q) (inr b) (inl low) = each_sound Passes 32 controls_pass c low
    go (inr q) (inr b) (inr high) = plain_passes c q b high

text_passes : (n : ℕ) (s xs : List ℕ) → accepts (Inside n) (escape s ++ 34 ∷ xs) ≡ accepts (AfterText n) xs
unfolding accepts
text_passes n [] xs = refl
text_passes n (c ∷ s) xs = ap (accepts (Inside n)) (append_assoc (escape_byte c) (escape s) (34 ∷ xs))
    ∙ passes c n (escape s ++ 34 ∷ xs) ∙ text_passes n s xs

texts_pass : (n : ℕ) (texts : List (List ℕ)) (xs : List ℕ) → accepts (AfterText n) (texts_text true texts ++ 93 ∷ xs)
    ≡ accepts (AfterAnswer n) xs
unfolding accepts
texts_pass n [] xs = refl
texts_pass n (s ∷ texts) xs =
    ap (accepts (NextText n)) (text_then s texts (93 ∷ xs)) ∙ text_passes n s (texts_text true texts ++ 93 ∷ xs)
    ∙ texts_pass n texts xs

all_texts_pass : (n : ℕ) (texts : List (List ℕ)) (xs : List ℕ)
    → accepts (TextsOpened n) (texts_text false texts ++ 93 ∷ xs) ≡ accepts (AfterAnswer n) xs
unfolding accepts
all_texts_pass n [] xs = refl
all_texts_pass n (s ∷ texts) xs =
    ap (accepts (TextsOpened n)) (text_then s texts (93 ∷ xs)) ∙ text_passes n s (texts_text true texts ++ 93 ∷ xs)
    ∙ texts_pass n texts xs

is_a_digit : (d : ℕ) → d < 10 → is_digit (48 + d) ≡ true
is_a_digit d h = grind (arith, nat_tests)

digit_value_is : (d : ℕ) → (48 + d) - 48 ≡ d
digit_value_is d = omega arith

-- a number is passed over
abbrev NumberPasses : ℕ → List ℕ → Type 0
NumberPasses n digits = n < 2 ^ 64 → (last : Option ℕ) (xs : List ℕ)
    → accepts (Number last) (digits ++ xs) ≡ accepts (Digits last n) xs

first_passes : (n : ℕ) → n < 10 → (last : Option ℕ) (xs : List ℕ)
    → accepts (Number last) ((48 + n) ∷ xs) ≡ accepts (Digits last n) xs
unfolding accepts
first_passes n h last xs = rw (is_a_digit n h, digit_value_is n) refl

more_passes : (n : ℕ) (last : Option ℕ) (xs : List ℕ) → 10 ≤ n → n < 2 ^ 64
    → accepts (Digits last (n / 10)) ((48 + n % 10) ∷ xs) ≡ accepts (Digits last n) xs
unfolding accepts
more_passes n last xs large fits =
    let some : nat_lt 0 (n / 10) ≡ true = (let e : 0 < n / 10 = omega (arith, large) in grind (arith, nat_tests)) in
    let back : n / 10 * 10 + n % 10 ≡ n = omega arith in
    let small : nat_lt n (2 ^ 64) ≡ true = grind (arith, nat_tests) in
    rw (is_a_digit (n % 10) (omega arith), digit_value_is (n % 10), some, back, small) refl

number_passes : (n : ℕ) → n < 2 ^ 64 → NumberPasses n (decimal n)
number_passes = decimal_by_steps NumberPasses (λ n low fits last xs. first_passes n low last xs) more
  where
    more : (n : ℕ) (digits : List ℕ) → 10 ≤ n → NumberPasses (n / 10) digits
        → NumberPasses n (digits ++ ((48 + n % 10) ∷ []))
    more n digits large before fits last xs =
        ap (accepts (Number last)) (append_assoc digits ((48 + n % 10) ∷ []) xs)
        ∙ before (omega (arith, fits)) last ((48 + n % 10) ∷ xs) ∙ more_passes n last xs large fits

behind_passes : (last : Option ℕ) (n : ℕ) (texts : List (List ℕ)) (answers : List Answer) → is_above last n ≡ true
    → accepts (Digits last n) (44 ∷ 91 ∷ behind texts answers) ≡ accepts (AfterAnswer n) (answers_text true answers)
unfolding accepts
behind_passes last n texts answers above = rw above (all_texts_pass n texts (answers_text true answers))

-- an answer and those behind it
answer_passes : (last : Option ℕ) (a : Answer) (answers : List Answer) → is_above last a.0 ≡ true → a.0 < 2 ^ 64
    → accepts (Number last) (decimal a.0 ++ 44 ∷ 91 ∷ behind a.1 answers) ≡ accepts (AfterAnswer a.0)
    (answers_text true answers)
answer_passes last a answers above fits = number_passes a.0 fits fits last (44 ∷ 91 ∷ behind a.1 answers)
    ∙ behind_passes last a.0 a.1 answers above

answers_pass : (n : ℕ) (answers : List Answer) → AreGood (Some n) answers
    → accepts (AfterAnswer n) (answers_text true answers) ≡ true
unfolding accepts
answers_pass n [] good = refl
answers_pass n (a ∷ answers) good =
    let both = and_true (nat_lt n a.0) _ good.rising in
    ap (accepts (NextAnswer n)) (answer_then a.0 a.1 (answers_text true answers))
    ∙ answer_passes (Some n) a answers both.0 good.fitting.0
    ∙ answers_pass a.0 answers (record { rising = both.1; fitting = good.fitting.1 })

pub all_pass : (answers : List Answer) → AreGood None answers → accepts Begin (kept_text answers) ≡ true
unfolding accepts kept_text
all_pass [] good = refl
all_pass (a ∷ answers) good =
    ap (accepts Opened) (answer_then a.0 a.1 (answers_text true answers))
    ∙ answer_passes None a answers refl good.fitting.0
    ∙ answers_pass a.0 answers (record { rising = good.rising; fitting = good.fitting.1 })

-- ---- the loop

pub stops : (place : Place) (bytes : List ℕ) (k : ℕ) (whole : Bool) → k < length bytes
    → None ≡ next place (get_or bytes k 0)
    → accepts place (drop k bytes) ≡ whole → false ≡ whole
unfolding accepts
stops place bytes k whole within none is =
    ap (λ o. unwrap_or (option_map (λ after. accepts after (drop (k + 1) bytes)) o) false) none
    ∙ ap (accepts place) (sym (drop_more bytes k 0 within)) ∙ is

pub goes_on : (place after : Place) (bytes : List ℕ) (k : ℕ) (whole : Bool) → k < length bytes
    → Some after ≡ next place (get_or bytes k 0)
    → accepts place (drop k bytes) ≡ whole → accepts after (drop (k + 1) bytes) ≡ whole
unfolding accepts
goes_on place after bytes k whole within some is =
    ap (λ o. unwrap_or (option_map (λ p. accepts p (drop (k + 1) bytes)) o) false) some
    ∙ ap (accepts place) (sym (drop_more bytes k 0 within)) ∙ is

pub at_end : (place : Place) (bytes : List ℕ) (k : ℕ) (whole : Bool) → length bytes ≤ k
    → accepts place (drop k bytes) ≡ whole → is_end place ≡ whole
unfolding accepts
at_end place bytes k whole over is = ap (accepts place) (sym (drop_all k bytes over)) ∙ is
