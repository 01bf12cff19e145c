-- What is told of a query's answer, and of a list's members one after the other.
use Rattle.std.proofs.Common.{Ok, Err, Result, IfOk, IsOk, refl, ◌≡◌, ◌<◌, ◌+◌, ℕ, List, [], ◌∷◌, ◌++◌, length, take}
use Rattle.std.proofs.Common.{get_or, ◌≤◌, map, Option, Some, None, slice_get, sym, ap, ◌∙◌, arith, zero, suc, drop}
use Rattle.std.proofs.Common.{ap₂}
use Rattle.std.specs.Prelude.{◌==◌}
use Rattle.acvp_store.proofs.Words.{all_of, AllByRecursion, AllZip, AreKept, Database, find, InStore, IsPermutation}
use Rattle.acvp_store.proofs.Words.{IsRowOf, Layout, length_permutation, one_permutation, option_map, Row, schema_of}
use Rattle.acvp_store.proofs.Words.{take_more, zip_push, ⊤}
use Rattle.acvp_store.proofs.Keyed.{keyed, keyed_same, find_is}

-- one more is told of a list's members
pub told_more : {A B : Type 0} (R : A → B → Type 0) (list : List A) (told next : List B) (i : ℕ) (d : A) (y : B)
    → next ≡ told ++ y ∷ [] → i < length list → AllZip R (take i list) told → R (get_or list i d) y
    → AllZip R (take (i + 1) list) next
told_more R list told next i d y is low zip new =
    rw (is, take_more list i d low) (zip_push R (take i list) told (get_or list i d) y zip new)

-- what is told of an answer that is Ok only where the query's is
pub told : {X Y E F : Type 0} (outcome : Result X E) (result : Result Y F) → (IsOk result → IsOk outcome)
    → (P : X → Type 0) (Q : X → Y → Type 0) (R : Y → Type 0) → ((x : X) (y : Y) → Q x y → P x → R y)
    → IfOk result (λ y. IfOk outcome (λ x. Q x y)) → IfOk outcome P → IfOk result R
told outcome (Err f) ok P Q R made q p = tt
told (Err e) (Ok y) ok P Q R made q p = absurd (let impossible = ok refl in cc)
told (Ok x) (Ok y) ok P Q R made q p = made x y q p

-- the same through what was found on the way
pub told_through : {X B Y E F G : Type 0} (outcome : Result X E) (found : Result B F) (result : Result Y G)
    → (IsOk found → IsOk outcome) → (IsOk result → IsOk found)
    → (P : X → Type 0) (Q : X → B → Type 0) (S : B → Y → Type 0) (R : Y → Type 0)
    → ((x : X) (b : B) (y : Y) → Q x b → S b y → P x → R y)
    → IfOk found (λ b. IfOk outcome (λ x. Q x b)) → IfOk result (λ y. IfOk found (λ b. S b y)) → IfOk outcome P
    → IfOk result R
told_through outcome found (Err g) ok_found ok P Q S R made q s p = tt
told_through outcome (Err f) (Ok y) ok_found ok P Q S R made q s p = absurd (let impossible = ok refl in cc)
told_through (Err e) (Ok b) (Ok y) ok_found ok P Q S R made q s p = absurd (let impossible = ok_found refl in cc)
told_through (Ok x) (Ok b) (Ok y) ok_found ok P Q S R made q s p = made x b y q s p

-- ---- the row that a query by a number finds

-- what is found, whichever way the store's tables lie
pub in_store : {X E : Type 0} (r : Result X E) (db : Database) (P : X → Layout → Type 0)
    → ((layout : Layout) → db.schema ≡ schema_of layout → IfOk r (λ x. P x layout)) → IfOk r (λ x. InStore db (P x))
in_store (Ok x) db P h = h
in_store (Err e) db P h = tt

-- ---- one row at most

pub none_found : {A : Type 0} (shown : A → Row) (xs : List A) (rows : List Row) → IsPermutation (map shown xs) rows
    → slice_get rows 0 ≡ None → None ≡ slice_get xs 0
none_found shown [] rows same none = refl
none_found shown (x ∷ xs) [] same none = absurd (omega (arith, length_permutation _ _ same))
none_found shown (x ∷ xs) (r ∷ rows) same none = absurd (cc)

pub one_found : {T : Type 0} (reads : T → Type 0) (shown : T → Row) (xs : List T) (rows : List Row) (row : Row)
    (a : T) → AllByRecursion reads xs → IsPermutation (map shown xs) rows → length rows ≤ 1
    → slice_get rows 0 ≡ Some row → IsRowOf reads shown row a → Some a ≡ slice_get xs 0
one_found reads shown xs [] row a each same few head is = absurd (cc)
one_found reads shown xs (r ∷ s ∷ rows) row a each same few head is = absurd (omega arith)
one_found reads shown (x ∷ []) (r ∷ []) row a each same few head is =
    let back = one_permutation (shown x) (r ∷ []) same in
    let it : row ≡ shown x = cc in
    ap Some (is x each.0 it)
one_found reads shown _ _ row a each same few head is = absurd (omega (arith, length_permutation _ _ same))

pub first_mapped : {A B : Type 0} (f : A → B) (xs : List A) → slice_get (map f xs) 0 ≡ option_map f (slice_get xs 0)
first_mapped f [] = refl
first_mapped f (x ∷ xs) = refl

-- of those under a number the first is what the list has there
pub first_kept : {A : Type 0} (key : A → ℕ) (stored : A → Row) (n : ℕ) (table : List Row) (list : List A)
    (kept : AreKept key stored table list) → slice_get (keyed key n kept.ordered) 0 ≡ find (λ a. key a == n) list
first_kept key stored n table list kept =
    ap (λ l. slice_get l 0) (keyed_same key n kept.ordered list kept.rising kept.same) ∙ sym (find_is key n list)

-- ---- lists of rows that a query answers, and what they are of

pub listed_as : {T : Type 0} (reads : T → Type 0) (shown : T → Row) (rows : List Row) (found list : List T)
    → AllZip (IsRowOf reads shown) rows found → AllByRecursion reads list → rows ≡ map shown list → found ≡ list
listed_as reads shown [] [] [] all each is = refl
listed_as reads shown [] (x ∷ found) list all each is = absurd all
listed_as reads shown (r ∷ rows) [] list all each is = absurd all
listed_as reads shown (r ∷ rows) (x ∷ found) (y ∷ list) all each is =
    let head : r ≡ shown y = cc in
    let rest : rows ≡ map shown list = cc in
    ap₂ (λ a b. a ∷ b) (all.0 y each.0 head) (listed_as reads shown rows found list all.1 each.1 rest)
listed_as reads shown _ _ _ all each is = absurd (cc)

-- where nothing has to be read of the members
pub unread : {T : Type 0} (list : List T) → AllByRecursion (λ _. ⊤) list
unread = all_of (λ _. ⊤) (λ _. tt)

-- what a query's answer lists, of each content that is meant
pub all_listed : {T C X Y E F : Type 0} (Sound Held : C → Type 0) (reads : T → Type 0) (shown : T → Row)
    (outcome : Result X E) (rows_of : X → List Row) (result : Result Y F) (items_of : Y → List T) (picked : C → List T)
    → (IsOk result → IsOk outcome)
    → IfOk result (λ found. IfOk outcome (λ x. (list : List T) → AllByRecursion reads list → rows_of x ≡ map shown list
    → items_of found ≡ list))
    → IfOk outcome (λ x. (c : C) → Sound c → Held c → AllByRecursion reads (picked c)
    × (rows_of x ≡ map shown (picked c)))
    → IfOk result (λ found. (c : C) → Sound c → Held c → items_of found ≡ picked c)
all_listed Sound Held reads shown outcome rows_of result items_of picked ok =
    told outcome result ok _ _ _ (λ x r found rows. λ c sound held. let it = rows c sound held in
    found (picked c) it.0 it.1)

-- what a query's answer shows as one row, of each content that is meant
pub one_listed : {T C X E F : Type 0} (Sound Held : C → Type 0) (reads : T → Type 0) (shown : T → Row)
    (outcome : Result X E) (rows_of : X → List Row) (result : Result (Option T) F) (picked : C → List T)
    → (IsOk result → IsOk outcome)
    → IfOk result (λ found. IfOk outcome (λ x. (list : List T) → AllByRecursion reads list
    → IsPermutation (map shown list) (rows_of x) → found ≡ slice_get list 0))
    → IfOk outcome (λ x. (c : C) → Sound c → Held c → AllByRecursion reads (picked c)
    × IsPermutation (map shown (picked c)) (rows_of x))
    → IfOk result (λ found. (c : C) → Sound c → Held c → found ≡ slice_get (picked c) 0)
one_listed Sound Held reads shown outcome rows_of result picked ok =
    told outcome result ok _ _ _ (λ x r found rows. λ c sound held. let it = rows c sound held in
    found (picked c) it.0 it.1)

-- ---- of a page

pub all_taken : {T : Type 0} (P : T → Type 0) (n : ℕ) (xs : List T) → AllByRecursion P xs → AllByRecursion P (take n xs)
all_taken P zero xs all = tt
all_taken P (suc n) [] all = tt
all_taken P (suc n) (x ∷ xs) all = (all.0, all_taken P n xs all.1)

pub all_dropped : {T : Type 0} (P : T → Type 0) (n : ℕ) (xs : List T) → AllByRecursion P xs
    → AllByRecursion P (drop n xs)
all_dropped P zero xs all = all
all_dropped P (suc n) [] all = tt
all_dropped P (suc n) (x ∷ xs) all = all_dropped P n xs all.1
