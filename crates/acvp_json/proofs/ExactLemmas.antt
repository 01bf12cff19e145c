-- A text is taken by the scan exactly where it keeps answers.
use Rattle.std.proofs.Common.{◌≡◌, ℕ, ◌^◌, ◌<◌, ◌≤◌, ℤ, Float, List, [], ◌∷◌, map, Bool, true, false, cond, ◌==◌, ◌&&◌}
use Rattle.std.proofs.Common.{Option, None, Some, option_map, refl, sym, ◌∙◌, ap, subst, append-nil, arith}
use Rattle.std.specs.Map.{keys_of}
use Rattle.std.specs.Prelude.{IsUtf8, nat_lt, option_and_then, is_some, slice_index, drop}
use Rattle.std.proofs.lemmas.Bool.Decides.{nat_tests}
use Rattle.fast_float.specs.Text.{minus, scan, digits_of}
use Rattle.json.specs.Lex.{tokens}
use Rattle.json.specs.Json as json
use Rattle.json.specs.Tree as tree
use Rattle.json.specs.Token.{Token}
use Rattle.json.proofs.Printed.Decimals.{IsNumber-decimal}
use Rattle.json.proofs.Printed.Tokens.{tokens-print}
use Rattle.json.proofs.Printed.Trees.{value-json_tokens, ArePrintable-json_tokens}
use Rattle.serde_json.specs.Data.{Data, number, unsigned, negative, float, string, array, object, Items, no_items, item}
use Rattle.serde_json.specs.Data.{no_members}
use Rattle.serde_json.specs.Read.{read, of_json, of_items, of_members, number_of, number_from, max_depth}
use Rattle.serde_json.specs.View.{items_of}
use Rattle.std.specs.Str.{is_utf8}
use Rattle.serde_json.specs.Written.{outline, items_outline, compact_text, has_float}
use Rattle.serde_json.proofs.Numbers.{number_of-decimal}
use Rattle.serde_json.proofs.Texts.{print-outline}
use Rattle.acvp_answers.specs.Answer.{Answer}
use Rattle.acvp_registry.specs.Json.{body_json, without_float}
use Rattle.acvp_registry.proofs.JsonLemmas.{body_json-read}
use Rattle.acvp_json.specs.KeptAnswers.{kept_answers, texts_data, answer_data, answers_data, kept_text}
use Rattle.acvp_json.specs.Private.Scan.{accepts}
use Rattle.acvp_json.specs.declared.kept_scan.Place.TheVariants.{Begin}
use Rattle.acvp_json.proofs.KeptLemmas.{rising, sorted, kept-is, is-kept, items-no_float}
use Rattle.acvp_json.proofs.ScanLemmas.{AreFitting, AreGood, from_begin, all_pass}

-- ---- the text of answers whose numbers fit is read

texts_shallow : (texts : List (List ℕ)) → tree.items_depth (items_outline (items_of (map string texts))) ≤ 0
texts_shallow [] = omega arith
texts_shallow (s ∷ texts) = omega (arith, texts_shallow texts)

answers_shallow : (answers : List Answer) → tree.items_depth (items_outline (items_of (map answer_data answers))) ≤ 2
answers_shallow [] = omega arith
answers_shallow (a ∷ answers) = omega (arith, texts_shallow a.1, answers_shallow answers)

texts_have : (texts : List (List ℕ)) → tree.ItemsHaveNumbers (items_outline (items_of (map string texts)))
texts_have [] = tt
texts_have (s ∷ texts) = (tt, texts_have texts)

answers_have : (answers : List Answer) → AreFitting answers
    → tree.ItemsHaveNumbers (items_outline (items_of (map answer_data answers)))
answers_have [] fit = tt
answers_have (a ∷ answers) fit = ((IsNumber-decimal a.0 fit.0, (texts_have a.1, tt)), answers_have answers fit.1)

texts_back : (texts : List (List ℕ))
    → of_items (items_outline (items_of (map string texts))) ≡ Some (items_of (map string texts))
texts_back [] = refl
texts_back (s ∷ texts) = rw (texts_back texts) refl

answers_back : (answers : List Answer) → AreFitting answers
    → of_items (items_outline (items_of (map answer_data answers))) ≡ Some (items_of (map answer_data answers))
answers_back [] fit = refl
answers_back (a ∷ answers) fit = rw (number_of-decimal a.0 fit.0, texts_back a.1, answers_back answers fit.1) refl

abbrev whole : List Token → Option Data
whole ts = option_and_then of_json (option_and_then (λ p. json.if_last p.0 p.1) (json.value max_depth ts))

pub reads : (answers : List Answer) → AreFitting answers → read (kept_text answers) ≡ Some (answers_data answers)
unfolding kept_text
reads answers fit =
    let d = answers_data answers in
    let js = outline d in
    let shown : tokens (compact_text d) ≡ tree.json_tokens js = ap tokens (sym (print-outline d))
    ∙ tokens-print (tree.json_tokens js) (ArePrintable-json_tokens js (answers_have answers fit)) in
    let shallow : tree.depth js ≤ max_depth = omega (arith, answers_shallow answers) in
    ap whole (shown ∙ sym (append-nil (tree.json_tokens js)))
    ∙ ap (λ o. option_and_then of_json (option_and_then (λ p. json.if_last p.0 p.1) o))
    (value-json_tokens js max_depth [] shallow) ∙ ap (option_map array) (answers_back answers fit)

-- ---- the numbers of answers that were read fit

and_then_some : {X Y : Type 0} (f : X → Option Y) (o : Option X) (y : Y) → option_and_then f o ≡ Some y → (x : X)
    × (o ≡ Some x) × (f x ≡ Some y)
and_then_some f None y h = cc
and_then_some f (Some x) y h = (x, refl, h)

map_some : {X Y : Type 0} (f : X → Y) (o : Option X) (y : Y) → option_map f o ≡ Some y → (x : X) × (o ≡ Some x)
    × (f x ≡ y)
map_some f None y h = cc
map_some f (Some x) y h = (x, refl, cc)

float_no : (b : Bool) (x : Float) (n : ℕ) → cond b (Some (float x)) None ≡ Some (unsigned n) → n < 2 ^ 64
float_no true x n h = absurd (cc)
float_no false x n h = absurd (cc)

negative_no : (b c : Bool) (z : ℤ) (x : Float) (n : ℕ) → cond b (Some (negative z)) (cond c (Some (float x)) None)
    ≡ Some (unsigned n) → n < 2 ^ 64
negative_no true c z x n h = absurd (cc)
negative_no false c z x n h = float_no c x n h

unsigned_no : (i small c : Bool) (m : ℕ) (x : Float) (n : ℕ) → (small ≡ true → m < 2 ^ 64)
    → cond (i && small) (Some (unsigned m)) (cond c (Some (float x)) None) ≡ Some (unsigned n) → n < 2 ^ 64
unsigned_no true true c m x n fits h = let is : m ≡ n = cc in subst (λ k. k < 2 ^ 64) is (fits refl)
unsigned_no true false c m x n fits h = float_no c x n h
unsigned_no false small c m x n fits h = float_no c x n h

below : (m : ℕ) → nat_lt m (2 ^ 64) ≡ true → m < 2 ^ 64
below m e = grind (arith, nat_tests)

unsigned_fits : (s : List ℕ) (n : ℕ) → number_of s ≡ Some (unsigned n) → n < 2 ^ 64
unfolding number_of
unsigned_fits s n h = go (slice_index s 0 == minus) h
  where
    go : (b : Bool) → cond b (number_from true (scan (drop 1 s))) (number_from false (scan s)) ≡ Some (unsigned n)
        → n < 2 ^ 64
    go true h = negative_no _ _ _ _ n h
    go false h = unsigned_no _ _ _ _ _ n (below (digits_of (scan s))) h

array_back : (j : json.Json) (ds : Items) → of_json j ≡ Some (array ds) → (js : json.Items) × (of_items js ≡ Some ds)
array_back json.null ds h = absurd (cc)
array_back (json.boolean b) ds h = absurd (cc)
array_back (json.number s) ds h = absurd (let is = map_some number (number_of s) (array ds) h in
    let no : number is.0 ≡ array ds = is.2 in cc)
array_back (json.string s) ds h = absurd (cc)
array_back (json.array js) ds h = let is = map_some array (of_items js) (array ds) h in
    let e : is.0 ≡ ds = (let f : array is.0 ≡ array ds = is.2 in cc) in (js, is.1 ∙ ap Some e)
array_back (json.object ms) ds h = absurd (let is = map_some object (of_members ms no_members) (array ds) h in
    let no : object is.0 ≡ array ds = is.2 in cc)

item_back : (js : json.Items) (d : Data) (ds : Items) → of_items js ≡ Some (item d ds)
    → (j : json.Json) × (more : json.Items) × (of_json j ≡ Some d) × (of_items more ≡ Some ds)
item_back json.no_items d ds h = absurd (cc)
item_back (json.item j js) d ds h =
    let first = and_then_some (λ (e : Data). option_map (item e) (of_items js)) (of_json j) (item d ds) h in
    let rest = map_some (item first.0) (of_items js) (item d ds) first.2 in
    let f : item first.0 rest.0 ≡ item d ds = rest.2 in
    let d_is : first.0 ≡ d = cc in
    let ds_is : rest.0 ≡ ds = cc in
    (j, js, first.1 ∙ ap Some d_is, rest.1 ∙ ap Some ds_is)

number_back : (j : json.Json) (n : ℕ) → of_json j ≡ Some (number (unsigned n)) → n < 2 ^ 64
number_back json.null n h = absurd (cc)
number_back (json.boolean b) n h = absurd (cc)
number_back (json.number s) n h =
    let is = map_some number (number_of s) (number (unsigned n)) h in
    let e : is.0 ≡ unsigned n = (let f : number is.0 ≡ number (unsigned n) = is.2 in cc) in
    unsigned_fits s n (is.1 ∙ ap Some e)
number_back (json.string s) n h = absurd (cc)
number_back (json.array js) n h = absurd (let is = map_some array (of_items js) (number (unsigned n)) h in
    let no : array is.0 ≡ number (unsigned n) = is.2 in cc)
number_back (json.object ms) n h =
    absurd (let is = map_some object (of_members ms no_members) (number (unsigned n)) h in
    let no : object is.0 ≡ number (unsigned n) = is.2 in cc)

answer_fits : (j : json.Json) (a : Answer) → of_json j ≡ Some (answer_data a) → a.0 < 2 ^ 64
answer_fits j a h =
    let parts = array_back j (item (number (unsigned a.0)) (item (texts_data a.1) no_items)) h in
    let first = item_back parts.0 (number (unsigned a.0)) (item (texts_data a.1) no_items) parts.1 in
    number_back first.0 a.0 first.2

answers_fit : (js : json.Items) (answers : List Answer) → of_items js ≡ Some (items_of (map answer_data answers))
    → AreFitting answers
answers_fit js [] h = tt
answers_fit js (a ∷ answers) h =
    let first = item_back js (answer_data a) (items_of (map answer_data answers)) h in
    (answer_fits first.0 a first.2, answers_fit first.1 answers first.3)

pub read_fits : (text : List ℕ) (answers : List Answer) → read text ≡ Some (answers_data answers) → AreFitting answers
read_fits text answers h =
    let all = and_then_some of_json (option_and_then (λ p. json.if_last p.0 p.1) (json.value max_depth (tokens text)))
    (answers_data answers) h in
    let parts = array_back all.0 (items_of (map answer_data answers)) all.2 in
    answers_fit parts.0 answers parts.1

if_some : {X : Type 0} (b : Bool) (o : Option X) (x : X) → cond b o None ≡ Some x → o ≡ Some x
if_some true o x h = h
if_some false o x h = absurd (cc)

no_float : (b : Bool) (e d : Data) → cond b None (Some e) ≡ Some d → e ≡ d
no_float true e d h = absurd (cc)
no_float false e d h = cc

pub body_read : (text : List ℕ) (d : Data) → body_json text ≡ Some d → read text ≡ Some d
body_read text d h =
    let value = and_then_some without_float (read text) d (if_some (is_utf8 text) _ d h) in
    value.1 ∙ ap Some (no_float (has_float value.0) value.0 d value.2)

-- ---- both ways

kept_so : (text : List ℕ) (answers : List Answer) → IsUtf8 text → text ≡ kept_text answers → AreGood None answers
    → kept_answers text ≡ Some answers
kept_so text answers utf8 is good =
    let reads' : read text ≡ Some (answers_data answers) = ap read is ∙ reads answers good.fitting in
    is-kept text answers (record {
      value = body_json-read text (answers_data answers) utf8 reads' (items-no_float answers);
      written = is;
      ascending = sorted (keys_of answers) good.rising;
    })

taken_so : (text : List ℕ) (answers : List Answer) → kept_answers text ≡ Some answers → accepts Begin text ≡ true
taken_so text answers kept =
    let is = kept-is text answers kept in
    ap (accepts Begin) is.written ∙ all_pass answers (record {
      rising = rising (keys_of answers) is.ascending;
      fitting = read_fits text answers (body_read text (answers_data answers) is.value);
    })

-- the scan takes exactly the texts that keep answers
pub exact : (text : List ℕ) → IsUtf8 text → accepts Begin text ≡ is_some (kept_answers text)
exact text utf8 = go (accepts Begin text) (kept_answers text) refl refl
  where
    go : (taken : Bool) (kept : Option (List Answer)) → accepts Begin text ≡ taken → kept_answers text ≡ kept
        → taken ≡ is_some kept
    go true (Some answers) t k = refl
    go false None t k = refl
    go true None t k = absurd (let is = from_begin text t in let some = kept_so text is.0 utf8 is.1 is.2 in
        let no : None ≡ Some is.0 = sym k ∙ some in cc)
    go false (Some answers) t k = absurd (let no : false ≡ true = sym t ∙ taken_so text answers k in cc)
