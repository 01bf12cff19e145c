-- Lemmas on pages of a list.
use Rattle.std.proofs.Common.{◌≡◌, ◌≢◌, ℕ, zero, suc, ◌+◌, ◌-◌, ◌<◌, Bool, true, false, List, [], ◌∷◌, ◌++◌, length}
use Rattle.std.proofs.Common.{map, filter, drop, get_or, refl, ap, sym, ◌∙◌, arith}
use Rattle.std.proofs.lemmas.List.{append_assoc, drop_more}
use Rattle.acvp_tables.specs.Content.{page}

one_less : (n : ℕ) → n ≡ suc n - 1
one_less n = omega arith

-- a row before the page
pub page_skip : {X : Type 0} (offset limit : ℕ) (x : X) (xs : List X) → offset ≢ 0
    → page offset limit (x ∷ xs) ≡ page (offset - 1) limit xs
page_skip zero limit x xs some = absurd (some refl)
page_skip (suc n) limit x xs some = ap (λ k. page k limit xs) (one_less n)

-- a row on it
pub page_show : {X : Type 0} (limit : ℕ) (x : X) (xs : List X) → limit ≢ 0
    → page 0 limit (x ∷ xs) ≡ x ∷ page 0 (limit - 1) xs
page_show zero x xs some = absurd (some refl)
page_show (suc n) x xs some = ap (λ k. x ∷ page 0 k xs) (one_less n)

-- ---- one more row of those that are shown

module _ {R Out : Type 0} (passes : R → Bool) (shown : R → Out) where
  abbrev pub rest_of : List R → ℕ → List Out
  rest_of rows i = map shown (filter passes (drop i rows))

  -- a row that doesn't pass
  pub unseen : (rows : List R) (i : ℕ) (row : R) → i < length rows → row ≡ get_or rows i row → passes row ≡ false
      → rest_of rows i ≡ rest_of rows (i + 1)
  unseen rows i row low is off = rw (drop_more rows i row low) (rw (← is) (rw off refl))

  -- a row that passes
  pub seen : (rows : List R) (i : ℕ) (row : R) → i < length rows → row ≡ get_or rows i row → passes row ≡ true
      → rest_of rows i ≡ shown row ∷ rest_of rows (i + 1)
  seen rows i row low is on = rw (drop_more rows i row low) (rw (← is) (rw on refl))

  -- it lies before the page
  pub one_skipped : (done : List Out) (rows : List R) (i offset limit : ℕ) (row : R) → i < length rows
      → row ≡ get_or rows i row → passes row ≡ true → offset ≢ 0
      → done ++ page offset limit (rest_of rows i) ≡ done ++ page (offset - 1) limit (rest_of rows (i + 1))
  one_skipped done rows i offset limit row low is on some =
      ap (λ xs. done ++ page offset limit xs) (seen rows i row low is on)
      ∙ ap (λ xs. done ++ xs) (page_skip offset limit (shown row) (rest_of rows (i + 1)) some)

  -- it lies on it
  pub one_shown : (done : List Out) (rows : List R) (i limit : ℕ) (row : R) → i < length rows → row ≡ get_or rows i row
      → passes row ≡ true → limit ≢ 0
      → done ++ page 0 limit (rest_of rows i) ≡ (done ++ shown row ∷ []) ++ page 0 (limit - 1) (rest_of rows (i + 1))
  one_shown done rows i limit row low is on some =
      ap (λ xs. done ++ page 0 limit xs) (seen rows i row low is on)
      ∙ ap (λ xs. done ++ xs) (page_show limit (shown row) (rest_of rows (i + 1)) some)
      ∙ sym (append_assoc done (shown row ∷ []) (page 0 (limit - 1) (rest_of rows (i + 1))))
