-- How the logic stores a JSON value and a kept object: as the list of their parts, the outer before the inner.
use Rattle.std.specs.Prelude.{◌≡◌, ◌⊎◌, ◌==◌, ℕ, zero, suc, ℤ, Float, List, [], ◌∷◌, drop, Bool, true, false, cond}
use Rattle.std.specs.Prelude.{refl}
use Rattle.std.proofs.Common.{◌∙◌, ap, inl, inr}
use Rattle.std.specs.Coded.{Coded, code_by, coded×, coded⊎, coded_ℕ, coded_ℤ, coded_list}
use base.Stored.{coded_float}
use Rattle.serde_json.specs.Data.{Num, unsigned, negative, float, Data, null, boolean, number, string, array, object}
use Rattle.serde_json.specs.Data.{Items, no_items, item, Members, no_members, member}
use Rattle.acvp_registry.specs.declared.kind.Kind.{Kind}
use Rattle.acvp_registry.specs.declared.kind.Kind.TheVariants.{Vendor, Module, Environment, Certification}
use Rattle.acvp_registry.specs.Object.{KeptObject}

-- ---- kinds

abbrev kind_to : Kind → ℕ
kind_to Vendor = 0
kind_to Module = 1
kind_to Environment = 2
kind_to Certification = 3

abbrev kind_from : ℕ → Kind
kind_from zero = Vendor
kind_from (suc zero) = Module
kind_from (suc (suc zero)) = Environment
kind_from (suc (suc (suc n))) = Certification

kind_back : (k : Kind) → kind_from (kind_to k) ≡ k
kind_back Vendor = refl
kind_back Module = refl
kind_back Environment = refl
kind_back Certification = refl

kind_code : Coded Kind
kind_code = code_by ℕ coded_ℕ kind_to kind_from kind_back

-- ---- the parts of a value

data Mark : Type 0 where
  null_mark : Mark
  boolean_mark : Bool → Mark
  number_mark : Num → Mark
  text_mark : List ℕ → Mark
  array_mark : Mark
  object_mark : Mark
  items_end : Mark
  item_mark : Mark
  members_end : Mark
  member_mark : List ℕ → Mark

abbrev num_to : Num → ℕ ⊎ (ℤ ⊎ Float)
num_to (unsigned n) = inl n
num_to (negative z) = inr (inl z)
num_to (float x) = inr (inr x)

abbrev num_from : ℕ ⊎ (ℤ ⊎ Float) → Num
num_from (inl n) = unsigned n
num_from (inr (inl z)) = negative z
num_from (inr (inr x)) = float x

num_back : (n : Num) → num_from (num_to n) ≡ n
num_back (unsigned n) = refl
num_back (negative z) = refl
num_back (float x) = refl

abbrev num_code : Coded Num
num_code = code_by (ℕ ⊎ (ℤ ⊎ Float)) (coded⊎ coded_ℕ (coded⊎ coded_ℤ coded_float)) num_to num_from num_back

abbrev mark_to : Mark → ℕ × (List ℕ × Num)
mark_to null_mark = (0, ([], unsigned 0))
mark_to (boolean_mark true) = (1, ([], unsigned 0))
mark_to (boolean_mark false) = (2, ([], unsigned 0))
mark_to (number_mark n) = (3, ([], n))
mark_to (text_mark s) = (4, (s, unsigned 0))
mark_to array_mark = (5, ([], unsigned 0))
mark_to object_mark = (6, ([], unsigned 0))
mark_to items_end = (7, ([], unsigned 0))
mark_to item_mark = (8, ([], unsigned 0))
mark_to members_end = (9, ([], unsigned 0))
mark_to (member_mark k) = (10, (k, unsigned 0))

abbrev mark_from : ℕ × (List ℕ × Num) → Mark
mark_from p =
    cond (p.0 == 0) null_mark (cond (p.0 == 1) (boolean_mark true) (cond (p.0 == 2) (boolean_mark false)
    (cond (p.0 == 3) (number_mark p.1.1) (cond (p.0 == 4) (text_mark p.1.0) (cond (p.0 == 5) array_mark
    (cond (p.0 == 6) object_mark (cond (p.0 == 7) items_end (cond (p.0 == 8) item_mark
    (cond (p.0 == 9) members_end (member_mark p.1.0))))))))))

mark_back : (m : Mark) → mark_from (mark_to m) ≡ m
mark_back null_mark = refl
mark_back (boolean_mark true) = refl
mark_back (boolean_mark false) = refl
mark_back (number_mark n) = refl
mark_back (text_mark s) = refl
mark_back array_mark = refl
mark_back object_mark = refl
mark_back items_end = refl
mark_back item_mark = refl
mark_back members_end = refl
mark_back (member_mark k) = refl

abbrev mark_code : Coded Mark
mark_code =
    code_by (ℕ × (List ℕ × Num)) (coded× coded_ℕ (coded× (coded_list coded_ℕ) num_code)) mark_to mark_from mark_back

-- ---- a value as a list of marks

abbrev mutual
  marks : Data → List Mark → List Mark
  marks null rest = null_mark ∷ rest
  marks (boolean b) rest = boolean_mark b ∷ rest
  marks (number n) rest = number_mark n ∷ rest
  marks (string s) rest = text_mark s ∷ rest
  marks (array ds) rest = array_mark ∷ items_marks ds rest
  marks (object ms) rest = object_mark ∷ members_marks ms rest

  items_marks : Items → List Mark → List Mark
  items_marks no_items rest = items_end ∷ rest
  items_marks (item d ds) rest = item_mark ∷ marks d (items_marks ds rest)

  members_marks : Members → List Mark → List Mark
  members_marks no_members rest = members_end ∷ rest
  members_marks (member k d ms) rest = member_mark k ∷ marks d (members_marks ms rest)

-- ---- and back, from the last mark to the first

data Piece : Type 0 where
  value_piece : Data → Piece
  items_piece : Items → Piece
  members_piece : Members → Piece

abbrev value_in : List Piece → Data
value_in [] = null
value_in (value_piece d ∷ ps) = d
value_in (items_piece ds ∷ ps) = null
value_in (members_piece ms ∷ ps) = null

abbrev items_in : List Piece → Items
items_in [] = no_items
items_in (value_piece d ∷ ps) = no_items
items_in (items_piece ds ∷ ps) = ds
items_in (members_piece ms ∷ ps) = no_items

abbrev members_in : List Piece → Members
members_in [] = no_members
members_in (value_piece d ∷ ps) = no_members
members_in (items_piece ds ∷ ps) = no_members
members_in (members_piece ms ∷ ps) = ms

abbrev joined : Mark → List Piece → List Piece
joined null_mark ps = value_piece null ∷ ps
joined (boolean_mark b) ps = value_piece (boolean b) ∷ ps
joined (number_mark n) ps = value_piece (number n) ∷ ps
joined (text_mark s) ps = value_piece (string s) ∷ ps
joined array_mark ps = value_piece (array (items_in ps)) ∷ drop 1 ps
joined object_mark ps = value_piece (object (members_in ps)) ∷ drop 1 ps
joined items_end ps = items_piece no_items ∷ ps
joined item_mark ps = items_piece (item (value_in ps) (items_in (drop 1 ps))) ∷ drop 2 ps
joined members_end ps = members_piece no_members ∷ ps
joined (member_mark k) ps = members_piece (member k (value_in ps) (members_in (drop 1 ps))) ∷ drop 2 ps

abbrev pieces : List Mark → List Piece
pieces [] = []
pieces (m ∷ ms) = joined m (pieces ms)

mutual
  marks_back : (d : Data) (rest : List Mark) → pieces (marks d rest) ≡ value_piece d ∷ pieces rest
  marks_back null rest = refl
  marks_back (boolean b) rest = refl
  marks_back (number n) rest = refl
  marks_back (string s) rest = refl
  marks_back (array ds) rest = ap (joined array_mark) (items_back ds rest)
  marks_back (object ms) rest = ap (joined object_mark) (members_back ms rest)

  items_back : (ds : Items) (rest : List Mark) → pieces (items_marks ds rest) ≡ items_piece ds ∷ pieces rest
  items_back no_items rest = refl
  items_back (item d ds) rest =
      ap (joined item_mark) (marks_back d (items_marks ds rest) ∙ ap (λ ps. value_piece d ∷ ps) (items_back ds rest))

  members_back : (ms : Members) (rest : List Mark) → pieces (members_marks ms rest) ≡ members_piece ms ∷ pieces rest
  members_back no_members rest = refl
  members_back (member k d ms) rest =
      ap (joined (member_mark k))
      (marks_back d (members_marks ms rest) ∙ ap (λ ps. value_piece d ∷ ps) (members_back ms rest))

data_code : Coded Data
data_code = code_by (List Mark) (coded_list mark_code) (λ d. marks d []) (λ ms. value_in (pieces ms))
    (λ d. ap value_in (marks_back d []))

pub kept_code : Coded KeptObject
kept_code = code_by (Kind × Data) (coded× kind_code data_code) (λ o. (o.kind, o.value))
    (λ p. record { kind = p.0; value = p.1 }) (λ _. refl)
