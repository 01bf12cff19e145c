-- Lemmas on the vector sets that are certified.
use Rattle.std.proofs.Common.{◌≡◌, ℕ, zero, suc, ◌+◌, ◌<◌, List, [], ◌∷◌, ◌++◌, length, get_or, refl, ap, arith}
use Rattle.std.specs.Prelude.{take}
use Rattle.std.specs.List.{AllZip}
use Rattle.std.proofs.lemmas.List.Elements.{filter-append}
use Rattle.acvp_tables.specs.Content.{is_live_in, live_sets}
use Rattle.acvp_tables.specs.declared.rows.SetRow.{SetRow}

zipped_both : {A B : Type 0} (P : A → B → Type 0) (xs more : List A) (ys others : List B) → AllZip P xs ys
    → AllZip P more others
    → AllZip P (xs ++ more) (ys ++ others)
zipped_both P [] more [] others zip then = then
zipped_both P [] more (y ∷ ys) others zip then = absurd zip
zipped_both P (x ∷ xs) more [] others zip then = absurd zip
zipped_both P (x ∷ xs) more (y ∷ ys) others zip then = (zip.0, zipped_both P xs more ys others zip.1 then)

pub taken_more : {A : Type 0} (xs : List A) (i : ℕ) (d : A) → i < length xs
    → take (i + 1) xs ≡ take i xs ++ get_or xs i d ∷ []
taken_more [] i d short = absurd (omega (arith, short))
taken_more (x ∷ xs) zero d short = refl
taken_more (x ∷ xs) (suc i) d short =
    let e : suc i + 1 ≡ suc (i + 1) = omega arith in
    rw e (ap (λ rest. x ∷ rest) (taken_more xs i d (omega (arith, short))))

-- with what is certified of one row more
pub one_row_more : {B : Type 0} (P : SetRow → B → Type 0) (session : ℕ) (rows : List SetRow) (i : ℕ) (d : SetRow)
    (sets new added : List B) → i < length rows
    → AllZip P (live_sets session (take i rows)) sets → new ≡ sets ++ added
    → AllZip P (live_sets session (get_or rows i d ∷ [])) added
    → AllZip P (live_sets session (take (i + 1) rows)) new
one_row_more P session rows i d sets new added short so_far is here =
    rw (is, taken_more rows i d short, filter-append (is_live_in session) (take i rows) (get_or rows i d ∷ []))
    (zipped_both P (live_sets session (take i rows)) (live_sets session (get_or rows i d ∷ [])) sets added so_far here)
