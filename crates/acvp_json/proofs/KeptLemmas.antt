-- Lemmas on kept answers: what is written is read, and nothing else.
use Rattle.std.proofs.Common.{◌≡◌, ℕ, ◌+◌, ◌<◌, ◌≤◌, List, [], ◌∷◌, ◌++◌, length, get_or, drop, map, Bool, true, false}
use Rattle.std.proofs.Common.{cond, ◌&&◌, Option, None, Some, option_map, refl, sym, ◌∙◌, ap, subst, append_assoc}
use Rattle.std.proofs.Common.{add-one, string_bytes, String, Global, arith}
use Rattle.std.specs.Prelude.{nat_lt, option_and_then, Contains, MatchBool, Result, Ok, Err, IfOk, ◌↔◌}
use Rattle.std.specs.BTreeMap.{insert_entry}
use Rattle.std.specs.Cmp.{nat_cmp_is}
use Rattle.std.specs.List.{list_all, AllByRecursion}
use Rattle.std.specs.List.Sorted.{IsStrictlySortedBy}
use Rattle.std.specs.Map.{keys_of}
use Rattle.std.specs.Ordering.{nat_cmp}
use Rattle.std.specs.Str.{bytes_eq}
use Rattle.std.specs.declared.alloc.AllocError.{AllocError}
use Rattle.std.specs.declared.cmp.Ordering.TheVariants.{Less, Greater}
use Rattle.std.proofs.Math.Seq.{drop-cons}
use Rattle.std.proofs.lemmas.Bool.Decides.{nat_tests}
use Rattle.std.proofs.lemmas.Cmp.{nat_cmp_total, ranked}
use Rattle.std.proofs.lemmas.List.{map-append}
use Rattle.std.proofs.lemmas.List.Sums.{AllPass-from_list_all}
use Rattle.std.proofs.lemmas.Simd.{map-map}
use Rattle.std.proofs.lemmas.Slice.Eq.{bytes_eq-Decides}
use Rattle.std.proofs.lemmas.Str.{IsUtf8-string_bytes}
use Rattle.serde_json.specs.Data.{Data, null, boolean, number, unsigned, negative, float, string, array, object, Items}
use Rattle.serde_json.specs.Data.{no_items, item, depth, items_depth}
use Rattle.serde_json.specs.Find.{as_str, as_array}
use Rattle.serde_json.specs.Read.{read}
use Rattle.serde_json.specs.View.{view, items_of, items_view}
use Rattle.serde_json.specs.Written.{compact_text, has_float, items_have_float}
use Rattle.serde_json.specs.declared.value.Value.{Value}
use Rattle.acvp_caps.specs.Json.{whole_number}
use Rattle.acvp_answers.specs.Answer.{Answer, AreAscending}
use Rattle.acvp_json.specs.Elements.{each}
use Rattle.acvp_registry.specs.Json.{body_json}
use Rattle.acvp_json.specs.KeptAnswers.{texts_data, answer_data, answers_data, kept_text, texts_of, pair_items, pair_of}
use Rattle.acvp_json.specs.KeptAnswers.{answer_of, is_above, are_rising, if_rising, answers_after, answers_of}
use Rattle.acvp_json.specs.KeptAnswers.{is_compact, kept_in, kept_answers, IsKeptAs}
use Rattle.acvp_json.proofs.AnswersLemmas.{regrouped}
use Rattle.acvp_registry.proofs.JsonLemmas.{body_json-read}

-- ---- optional values

and_then-some : {X Y : Type 0} (f : X → Option Y) (o : Option X) (y : Y) → option_and_then f o ≡ Some y → (x : X)
    × (o ≡ Some x) × (f x ≡ Some y)
and_then-some f None y h = cc
and_then-some f (Some x) y h = (x, refl, h)

map-some : {X Y : Type 0} (f : X → Y) (o : Option X) (y : Y) → option_map f o ≡ Some y → (x : X) × (o ≡ Some x)
    × (f x ≡ y)
map-some f None y h = cc
map-some f (Some x) y h = (x, refl, cc)

both : (a b : Bool) → (a && b) ≡ true → (a ≡ true) × (b ≡ true)
both true b h = (refl, h)
both false b h = cc

-- ---- a pair of items

pub pair_items_other : (vs : List Value) → (length vs ≡ 2 → ⊥) → pair_items (items_view vs) ≡ None
pair_items_other [] other = refl
pair_items_other (a ∷ []) other = refl
pair_items_other (a ∷ b ∷ []) other = absurd (other refl)
pair_items_other (a ∷ b ∷ c ∷ vs) other = refl

-- ---- what is written is read

each-back : {X : Type 0} (f : Data → Option X) (g : X → Data) → ((x : X) → f (g x) ≡ Some x) → (xs : List X)
    → each f (items_of (map g xs)) ≡ Some xs
each-back f g back [] = refl
each-back f g back (x ∷ xs) = rw (back x, each-back f g back xs) refl

texts_of-texts_data : (texts : List (List ℕ)) → texts_of (texts_data texts) ≡ Some texts
texts_of-texts_data texts = each-back as_str string (λ s. refl) texts

answer_of-answer_data : (a : Answer) → answer_of (answer_data a) ≡ Some a
answer_of-answer_data a = rw (texts_of-texts_data a.1) refl

less : (m n : ℕ) → nat_lt m n ≡ true → nat_cmp m n ≡ Less
less m n h = let below : m < n = grind (arith, nat_tests) in sym (nat_cmp_is m n Less below)

lt-from_less : (m n : ℕ) → nat_cmp m n ≡ Less → nat_lt m n ≡ true
lt-from_less m n h = let below : m < n = ranked m n Less (sym h) in grind (arith, nat_tests)

rising-after : (m : ℕ) (ns : List ℕ) → IsStrictlySortedBy nat_cmp (m ∷ ns) → are_rising (Some m) ns ≡ true
unfolding IsStrictlySortedBy
rising-after m [] s = refl
rising-after m (n ∷ ns) s = rw (lt-from_less m n s.0.0) (rising-after n ns s.1)

pub rising : (ns : List ℕ) → IsStrictlySortedBy nat_cmp ns → are_rising None ns ≡ true
rising [] s = refl
rising (n ∷ ns) s = rising-after n ns s

pub answers_of-answers_data : (answers : List Answer) → AreAscending answers
    → answers_of (answers_data answers) ≡ Some answers
answers_of-answers_data answers ascending =
    rw (each-back answer_of answer_data answer_of-answer_data answers, rising (keys_of answers) ascending) refl

-- ---- what is read was written

above-all : (m n : ℕ) (ns : List ℕ) → nat_cmp m n ≡ Less → AllByRecursion (λ y. nat_cmp n y ≡ Less) ns
    → AllByRecursion (λ y. nat_cmp m y ≡ Less) ns
above-all m n [] h all = tt
above-all m n (k ∷ ks) h all = (nat_cmp_total.trans m n k h all.0, above-all m n ks h all.1)

sorted-after : (m : ℕ) (ns : List ℕ) → are_rising (Some m) ns ≡ true → IsStrictlySortedBy nat_cmp (m ∷ ns)
unfolding IsStrictlySortedBy
sorted-after m [] h = (tt, tt)
sorted-after m (n ∷ ns) h =
    let parts = both (nat_lt m n) (are_rising (Some n) ns) h in
    let more = sorted-after n ns parts.1 in
    let first = less m n parts.0 in
    ((first, above-all m n ns first more.0), more)

pub sorted : (ns : List ℕ) → are_rising None ns ≡ true → IsStrictlySortedBy nat_cmp ns
unfolding IsStrictlySortedBy
sorted [] h = tt
sorted (n ∷ ns) h = sorted-after n ns h

as_str-string : (d : Data) (s : List ℕ) → as_str d ≡ Some s → d ≡ string s
as_str-string null s h = cc
as_str-string (boolean b) s h = cc
as_str-string (number n) s h = cc
as_str-string (string t) s h = cc
as_str-string (array ds) s h = cc
as_str-string (object ms) s h = cc

as_array-array : (d : Data) (ds : Items) → as_array d ≡ Some ds → d ≡ array ds
as_array-array null ds h = cc
as_array-array (boolean b) ds h = cc
as_array-array (number n) ds h = cc
as_array-array (string t) ds h = cc
as_array-array (array es) ds h = cc
as_array-array (object ms) ds h = cc

whole_number-number : (d : Data) (n : ℕ) → whole_number d ≡ Some n → d ≡ number (unsigned n)
whole_number-number null n h = cc
whole_number-number (boolean b) n h = cc
whole_number-number (number (unsigned m)) n h = cc
whole_number-number (number (negative z)) n h = cc
whole_number-number (number (float x)) n h = cc
whole_number-number (string t) n h = cc
whole_number-number (array es) n h = cc
whole_number-number (object ms) n h = cc

each-written : {X : Type 0} (f : Data → Option X) (g : X → Data) → ((d : Data) (x : X) → f d ≡ Some x → d ≡ g x)
    → (ds : Items) (xs : List X) → each f ds ≡ Some xs → ds ≡ items_of (map g xs)
each-written f g is no_items [] h = refl
each-written f g is no_items (x ∷ xs) h = cc
each-written {X} f g is (item d ds) xs h =
    let first = and_then-some (λ (y : X). option_map (λ ys. y ∷ ys) (each f ds)) (f d) xs h in
    let more = map-some (λ (ys : List X). first.0 ∷ ys) (each f ds) xs first.2 in
    let head : d ≡ g first.0 = is d first.0 first.1 in
    let tail : ds ≡ items_of (map g more.0) = each-written f g is ds more.0 more.1 in
    subst (λ (ys : List X). item d ds ≡ items_of (map g ys)) more.2 (ap (λ (e : Data). item e ds) head
    ∙ ap (λ (es : Items). item (g first.0) es) tail)

texts-written : (d : Data) (texts : List (List ℕ)) → texts_of d ≡ Some texts → d ≡ texts_data texts
texts-written d texts h =
    let items = and_then-some (each as_str) (as_array d) texts h in
    as_array-array d items.0 items.1 ∙ ap array (each-written as_str string as_str-string items.0 texts items.2)

pair-written : (ds : Items) (pair : ℕ × Data) → pair_items ds ≡ Some pair
    → ds ≡ item (number (unsigned pair.0)) (item pair.1 no_items)
pair-written no_items pair h = cc
pair-written (item a no_items) pair h = cc
pair-written (item a (item b no_items)) pair h =
    let number_is = map-some (λ (n : ℕ). let p : ℕ × Data = (n, b) in p) (whole_number a) pair h in
    let first : a ≡ number (unsigned number_is.0) = whole_number-number a number_is.0 number_is.1 in
    subst (λ (p : ℕ × Data). item a (item b no_items) ≡ item (number (unsigned p.0)) (item p.1 no_items)) number_is.2
    (ap (λ (e : Data). item e (item b no_items)) first)
pair-written (item a (item b (item c ds))) pair h = cc

answer-written : (d : Data) (a : Answer) → answer_of d ≡ Some a → d ≡ answer_data a
answer-written d a h =
    let pair = and_then-some (λ (p : ℕ × Data). option_map (λ texts. (p.0, texts)) (texts_of p.1)) (pair_of d) a h in
    let items = and_then-some pair_items (as_array d) pair.0 pair.1 in
    let texts = map-some (λ (ts : List (List ℕ)). let x : Answer = (pair.0.0, ts) in x) (texts_of pair.0.1) a pair.2 in
    let whole : d ≡ array (item (number (unsigned pair.0.0)) (item pair.0.1 no_items)) =
    as_array-array d items.0 items.1 ∙ ap array (pair-written items.0 pair.0 items.2) in
    let second : pair.0.1 ≡ texts_data texts.0 = texts-written pair.0.1 texts.0 texts.1 in
    subst (λ (x : Answer). d ≡ answer_data x) texts.2 (whole
    ∙ ap (λ (e : Data). array (item (number (unsigned pair.0.0)) (item e no_items))) second)

if-some : {X : Type 0} (b : Bool) (o : Option X) (x : X) → cond b o None ≡ Some x → (b ≡ true) × (o ≡ Some x)
if-some true o x h = (refl, h)
if-some false o x h = cc

pub answers-written : (d : Data) (answers : List Answer) → answers_of d ≡ Some answers → (d ≡ answers_data answers)
    × AreAscending answers
answers-written d answers h =
    let items = and_then-some (answers_after None) (as_array d) answers h in
    let all = and_then-some (if_rising None) (each answer_of items.0) answers items.2 in
    let rises = if-some (are_rising None (keys_of all.0)) (Some all.0) answers all.2 in
    let same : all.0 ≡ answers = cc (rises.1) in
    let written : items.0 ≡ items_of (map answer_data all.0) =
    each-written answer_of answer_data answer-written items.0 all.0 all.1 in (
      as_array-array d items.0 items.1
          ∙ ap array (subst (λ (as' : List Answer). items.0 ≡ items_of (map answer_data as')) same written),
      subst AreAscending same (sorted (keys_of all.0) rises.0),
    )

-- ---- a text keeps answers exactly where it is theirs

pub kept-is : (text : List ℕ) (answers : List Answer) → kept_answers text ≡ Some answers → IsKeptAs text answers
unfolding kept_answers kept_text
kept-is text answers h =
    let value = and_then-some (kept_in text) (body_json text) answers h in
    let compact = if-some (is_compact text value.0) (answers_of value.0) answers value.2 in
    let is = answers-written value.0 answers compact.1 in
    record {
      value = subst (λ (d : Data). body_json text ≡ Some d) is.0 value.1;
      written = subst (λ (d : Data). text ≡ compact_text d) is.0
          ((bytes_eq-Decides text (compact_text value.0)).0 compact.0);
      ascending = is.1;
    }

pub is-kept : (text : List ℕ) (answers : List Answer) → IsKeptAs text answers → kept_answers text ≡ Some answers
unfolding kept_answers kept_text
is-kept text answers is =
    let compact : is_compact text (answers_data answers) ≡ true =
    subst (λ (t : List ℕ). bytes_eq text t ≡ true) is.written ((bytes_eq-Decides text text).1 refl) in
    rw (is.value, compact) (answers_of-answers_data answers is.ascending)

-- both ways
pub kept_exactly : (text : List ℕ) (answers : List Answer) → (kept_answers text ≡ Some answers) ↔ IsKeptAs text answers
kept_exactly text answers = (kept-is text answers, is-kept text answers)

-- ---- the text of answers

texts-no_float : (texts : List (List ℕ)) → items_have_float (items_of (map string texts)) ≡ false
texts-no_float [] = refl
texts-no_float (t ∷ ts) = texts-no_float ts

pub items-no_float : (answers : List Answer) → items_have_float (items_of (map answer_data answers)) ≡ false
items-no_float [] = refl
items-no_float (a ∷ as') = rw (texts-no_float a.1, items-no_float as') refl

texts-depth : (texts : List (List ℕ)) → items_depth (items_of (map string texts)) ≤ 0
texts-depth [] = omega arith
texts-depth (t ∷ ts) = omega (arith, texts-depth ts)

items-depth : (answers : List Answer) → items_depth (items_of (map answer_data answers)) ≤ 2
items-depth [] = omega arith
items-depth (a ∷ as') = omega (arith, texts-depth a.1, items-depth as')

answers-depth : (answers : List Answer) → depth (answers_data answers) ≤ 127
answers-depth answers = omega (arith, items-depth answers)

-- a text that is written for a value of ascending answers keeps them
pub written-is : (s : String Global) (d : Data) (answers : List Answer) → d ≡ answers_data answers
    → AreAscending answers
    → (has_float d ≡ false → string_bytes s ≡ compact_text d) → (depth d ≤ 127 → read (string_bytes s) ≡ Some d)
    → IsKeptAs (string_bytes s) answers
unfolding kept_text
written-is s d answers is ascending text reads =
    let plain : has_float (answers_data answers) ≡ false = items-no_float answers in
    let plain' : has_float d ≡ false = ap has_float is ∙ plain in
    let shallow : depth d ≤ 127 = subst (λ (e : Data). depth e ≤ 127) (sym is) (answers-depth answers) in
    record {
      value = body_json-read (string_bytes s) d (IsUtf8-string_bytes s) (reads shallow) plain' ∙ ap Some is;
      written = text plain' ∙ ap compact_text is;
      ascending = ascending;
    }

pub written : (r : Result (String Global) AllocError) (d : Data) (answers : List Answer) → d ≡ answers_data answers
    → AreAscending answers
    → IfOk r (λ s. has_float d ≡ false → string_bytes s ≡ compact_text d)
    → IfOk r (λ s. depth d ≤ 127 → read (string_bytes s) ≡ Some d)
    → IfOk r (λ s. IsKeptAs (string_bytes s) answers)
written (Ok s) d answers is ascending text reads = written-is s d answers is ascending text reads
written (Err e) d answers is ascending text reads = tt

-- ---- one answer more is written

pub shown-more : (done new : List Value) (answers left : List Answer) (a : Answer) (v : Value) (whole : List Data)
    → answers ≡ a ∷ left → view v ≡ answer_data a
    → map view done ++ map answer_data answers ≡ whole → new ≡ done ++ v ∷ []
    → map view new ++ map answer_data left ≡ whole
shown-more done new answers left a v whole at is so pushed =
    let so' : map view done ++ map answer_data (a ∷ left) ≡ whole = rw at at so in
    rw (pushed, map-append view done (v ∷ []), is) (append_assoc (map view done) (answer_data a ∷ []) (map
    answer_data left)) ∙ so'

-- the texts of an answer, as the program has them and as lists of bytes
pub texts_shown : (texts : List (String Global)) → map (λ t. string (string_bytes t)) texts
    ≡ map string (map string_bytes texts)
texts_shown texts = sym (map-map string (λ (t : String Global). string_bytes t) texts)

-- ---- one answer more is read

appended : (answers : List Answer) (n : ℕ) (texts : List (List ℕ)) → list_all (λ k. nat_lt k n) (keys_of answers) ≡ true
    → insert_entry nat_cmp answers n texts ≡ answers ++ (n, texts) ∷ []
appended [] n texts below = refl
appended (a ∷ as') n texts below =
    let parts = both (nat_lt a.0 n) (list_all (λ k. nat_lt k n) (keys_of as')) below in
    let lower : a.0 < n = (let first : nat_lt a.0 n ≡ true = parts.0 in grind (arith, nat_tests)) in
    rw (sym (nat_cmp_is n a.0 Greater lower), appended as' n texts parts.1) refl

not_there : (ks : List ℕ) (n : ℕ) → list_all (λ k. nat_lt k n) ks ≡ true → Contains ks n → ⊥
not_there ks n below has =
    let lower : nat_lt (get_or ks has.0 n) n ≡ true = AllPass-from_list_all (λ k. nat_lt k n) ks below has.0 n has.1 in
    let same : get_or ks has.0 n ≡ n = has.2 in
    let itself : nat_lt n n ≡ true = rw same at lower in
    grind (arith, nat_tests)

-- what an insertion leaves, where the number is above all others
pub inserted : (is_new : Bool) (old new : List Answer) (n : ℕ) (texts : List (List ℕ))
    → list_all (λ k. nat_lt k n) (keys_of old) ≡ true
    → MatchBool is_new (¬ Contains (keys_of old) n × (new ≡ insert_entry nat_cmp old n texts))
    (Contains (keys_of old) n × (new ≡ old))
    → new ≡ old ++ (n, texts) ∷ []
inserted true old new n texts below h = h.1 ∙ appended old n texts below
inserted false old new n texts below h = absurd (not_there (keys_of old) n below h.0)

pub below-more : (answers : List Answer) (m n : ℕ) (texts : List (List ℕ))
    → list_all (λ k. nat_lt k m) (keys_of answers) ≡ true → nat_lt m n ≡ true
    → list_all (λ k. nat_lt k n) (keys_of (answers ++ (m, texts) ∷ [])) ≡ true
below-more [] m n texts below h = rw h refl
below-more (a ∷ as') m n texts below h =
    let parts = both (nat_lt a.0 m) (list_all (λ k. nat_lt k m) (keys_of as')) below in
    let first : nat_lt a.0 n ≡ true = chain a.0 m n parts.0 h in
    rw (first, below-more as' m n texts parts.1 h) refl
  where
    chain : (i j k : ℕ) → nat_lt i j ≡ true → nat_lt j k ≡ true → nat_lt i k ≡ true
    chain i j k e f = grind (arith, nat_tests)

rest-of : (a : Answer) (b : Bool) (as' : List Answer) → cond b (Some (a ∷ as')) None ≡ option_map (λ more. a
    ∷ more) (cond b (Some as') None)
rest-of a true as' = refl
rest-of a false as' = refl

next-of : (last : Option ℕ) (a : Answer) (o : Option (List Answer)) → is_above last a.0 ≡ true
    → option_and_then (if_rising last) (option_map (λ as'. a ∷ as') o) ≡ option_map (λ more. a
    ∷ more) (option_and_then (if_rising (Some a.0)) o)
next-of last a None above = refl
next-of last a (Some as') above = rw above (rest-of a (are_rising (Some a.0) (keys_of as')) as')

-- one answer more
pub after-more : (vs : List Value) (k : ℕ) (v : Value) (last : Option ℕ) (done : List Answer) (a : Answer)
    (whole : Option (List Answer)) → k < length vs → v ≡ get_or vs k v
    → answer_of (view v) ≡ Some a → is_above last a.0 ≡ true
    → option_map (λ more. done ++ more) (answers_after last (items_view (drop k vs))) ≡ whole
    → option_map (λ more. (done ++ a ∷ []) ++ more) (answers_after (Some a.0) (items_view (drop (k + 1) vs))) ≡ whole
after-more vs k v last done a whole within here reads above so =
    let cut : drop k vs ≡ v ∷ drop (k + 1) vs = rw (drop-cons vs k v within, ← here, add-one) refl in
    let so' : option_map (λ more. done ++ more) (answers_after last (item (view v) (items_view (drop (k + 1) vs))))
    ≡ whole = rw cut at so in
    let step : answers_after last (item (view v) (items_view (drop (k + 1) vs))) ≡ option_map (λ more. a
    ∷ more) (answers_after (Some a.0) (items_view (drop (k + 1) vs))) =
    rw reads (next-of last a (each answer_of (items_view (drop (k + 1) vs))) above) in
    regrouped done a (answers_after (Some a.0) (items_view (drop (k + 1) vs)))
    ∙ ap (λ (o : Option (List Answer)). option_map (λ more. done ++ more) o) (sym step) ∙ so'
