-- What stands before the last slash of a path.
use Rattle.std.proofs.Common.{◌≡◌, ◌==◌, Some, ℕ, ◌+◌, ◌-◌, ◌<◌, ◌≤◌, true, false, not, List, [], ◌∷◌, length, take}
use Rattle.std.proofs.Common.{drop, get_or, if◌then◌else◌, codes, arith, ap, sym, ◌∙◌, refl, eq-eqb, ne_eqb, lit<}
use Rattle.std.proofs.Common.{All, length-drop, get_or-drop}
use Rattle.std.specs.List.{list_any, before_last, suffix_len}
use Rattle.std.specs.Str.{NoCharPasses}
use Rattle.std.specs.Str.Pattern.{RFindsChar}
use Rattle.std.proofs.lemmas.Str.Pattern.{NoCharPasses-char}
use Rattle.std.proofs.lemmas.List.Folds.{list_any_at, list_any_none}
use Rattle.std.proofs.lemmas.List.Elements.{All-from_get_or}
use Rattle.std.proofs.lemmas.Str.{len_utf8_ascii}
use Rattle.std.proofs.lemmas.List.Sums.{suffix_len_is}
use Rattle.acvp_causes.specs.Folders.{folder_of, is_slash, last_of, or_root}

-- how many bytes stand behind the last slash, which is at i
bytes_behind : (path : List ℕ) (i : ℕ) → i < length path → get_or path i 0 ≡ 47
    → ((k : ℕ) → i < k → k < length path → get_or path k 0 ≡ 47 → ⊥)
    → suffix_len (λ x. not (is_slash x)) path ≡ length path - (i + 1)
bytes_behind path i inside here later =
    let behind : (k : ℕ) → i + 1 ≤ k → k < length path → not (is_slash (get_or path k 0)) ≡ true =
    λ k after within. ap not (ne_eqb _ _ (later k (omega arith) within)) in
    let back : i + 1 - 1 ≡ i = omega arith in
    let at : get_or path (i + 1 - 1) 0 ≡ 47 = ap (λ n. get_or path n 0) back ∙ here in
    suffix_len_is (λ x. not (is_slash x)) path (i + 1) 0 (omega arith) behind (λ _. ap not (eq-eqb _ _ at))

-- no slash stands behind that which `rsplit_once` has found
none_behind : (path : List ℕ) (i j rest : ℕ) → RFindsChar 47 path (Some (i, j)) → rest + j ≡ length path
    → (k : ℕ) → i < k → k < length path → get_or path k 0 ≡ 47 → ⊥
none_behind path i j rest found long k after within here =
    let next : j ≡ i + 1 = omega (arith, found.1.ends, len_utf8_ascii 47 (lit< tt)) in
    let back : j + (k - j) ≡ k = omega arith in
    NoCharPasses-char 47 (drop j path) (k - j) found.0 (lit< tt) (omega (arith, length-drop j path))
    (get_or-drop j path (k - j) 0 ∙ ap (λ n. get_or path n 0) back ∙ here)

-- the slash at i is the last one
pub folder_of-at : (path : List ℕ) (i : ℕ) → i < length path → get_or path i 0 ≡ 47
    → ((k : ℕ) → i < k → k < length path → get_or path k 0 ≡ 47 → ⊥) → folder_of path ≡ or_root (take i path)
folder_of-at path i inside here later =
    let slash : is_slash (get_or path i 0) ≡ true = eq-eqb _ _ here in
    let suffix : suffix_len (λ x. not (is_slash x)) path ≡ length path - (i + 1) =
    bytes_behind path i inside here later in
    let count : length path - (length path - (i + 1)) - 1 ≡ i = omega arith in
    let some : list_any is_slash path ≡ true = list_any_at is_slash path i 0 inside slash in
    ap (λ b. if b then or_root (before_last is_slash path) else codes ".") some
    ∙ ap (λ n. or_root (take (length path - n - 1) path)) suffix
    ∙ ap (λ n. or_root (take n path)) count

-- the slash at i is the last one
pub last_of-at : (path : List ℕ) (i : ℕ) → i < length path → get_or path i 0 ≡ 47
    → ((k : ℕ) → i < k → k < length path → get_or path k 0 ≡ 47 → ⊥) → last_of path ≡ drop (i + 1) path
last_of-at path i inside here later =
    let count : length path - (length path - (i + 1)) ≡ i + 1 = omega arith in
    ap (λ n. drop (length path - n) path) (bytes_behind path i inside here later) ∙ ap (λ n. drop n path) count

-- takes the clause of `rsplit_once` at a slash
pub last_of-split : (path back : List ℕ) (i j rest : ℕ) → RFindsChar 47 path (Some (i, j)) → back ≡ drop j path
    → rest + j ≡ length path → last_of path ≡ back
last_of-split path back i j rest found behind long =
    let next : j ≡ i + 1 = omega (arith, found.1.ends, len_utf8_ascii 47 (lit< tt)) in
    last_of-at path i (omega arith) (found.1.byte (lit< tt)) (none_behind path i j rest found long)
    ∙ ap (λ n. drop n path) (sym next) ∙ sym behind

-- takes the clause of `rsplit_once` where there is no slash
pub last_of-none : (path : List ℕ) → NoCharPasses (λ d. d == 47) path → last_of path ≡ path
last_of-none path none =
    let other : All (λ b. not (is_slash b) ≡ true) path = All-from_get_or (λ b. not (is_slash b) ≡ true) path 0
    (λ k within. ap not (ne_eqb _ _ (NoCharPasses-char 47 path k none (lit< tt) within))) in
    let whole : suffix_len (λ x. not (is_slash x)) path ≡ length path - 0 =
    suffix_len_is (λ x. not (is_slash x)) path 0 0 (omega arith)
    (λ k _ within. ap not (ne_eqb _ _ (NoCharPasses-char 47 path k none (lit< tt) within)))
    (λ bad. absurd (omega (arith, bad))) in
    let count : length path - (length path - 0) ≡ 0 = omega arith in
    ap (λ n. drop (length path - n) path) whole ∙ ap (λ n. drop n path) count

-- takes the clause of `rsplit_once` at a slash
pub folder_of-split : (path front : List ℕ) (i j rest : ℕ) → RFindsChar 47 path (Some (i, j)) → front ≡ take i path
    → rest + j ≡ length path → folder_of path ≡ or_root front
folder_of-split path front i j rest found before long =
    let next : j ≡ i + 1 = omega (arith, found.1.ends, len_utf8_ascii 47 (lit< tt)) in
    folder_of-at path i (omega arith) (found.1.byte (lit< tt)) (none_behind path i j rest found long)
    ∙ ap or_root (sym before)

-- takes the clause of `rsplit_once` where there is no slash
pub folder_of-none : (path : List ℕ) → NoCharPasses (λ d. d == 47) path → folder_of path ≡ codes "."
folder_of-none path none =
    let other : All (λ b. is_slash b ≡ false) path = All-from_get_or (λ b. is_slash b ≡ false) path 0
    (λ k within. ne_eqb _ _ (NoCharPasses-char 47 path k none (lit< tt) within)) in
    ap (λ b. if b then or_root (before_last is_slash path) else codes ".") (list_any_none is_slash path other)

pub or_root-some : (folder : List ℕ) → (folder ≡ [] → ⊥) → or_root folder ≡ folder
or_root-some [] some = absurd (some refl)
or_root-some (byte ∷ bytes) some = refl
