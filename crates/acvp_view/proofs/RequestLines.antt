-- The lines of an account's requests, by their numbers.
use Rattle.std.proofs.Common.{◌≡◌, ℕ, ◌+◌, ◌≤◌, ◌<◌, List, [], ◌∷◌, length, Option, Some, Bool, true, refl, sym, ◌∙◌}
use Rattle.std.proofs.Common.{arith}
use Rattle.std.specs.Prelude.{◌==◌, option_and_then}
use Rattle.std.specs.List.{flat_map, range_with_len}
use Rattle.std.proofs.lemmas.Bool.Decides.{nat_tests}
use Rattle.acvp_tables.specs.Content.{Content, request_at, requests_of}
use Rattle.acvp_tables.specs.State.{AreWellNumbered, IsNumbered, IsWellNumbered, first_of_account, own, owner_of}
use Rattle.acvp_tables.specs.State.{state_of}
use Rattle.acvp_tables.specs.declared.rows.RequestRow.{RequestRow}
use Rattle.acvp_tables.proofs.Numbers.{keyed, request_found}
use Rattle.acvp_view.specs.Lines.{lines_of}
use Rattle.acvp_view.specs.Listed.{if_shown, request_line, request_lines_of}
use Rattle.acvp_view.specs.declared.form.Form.{Form}

-- what is told of each number of rows without gaps is what is told of the rows
by_numbers : {X : Type 0} (told : Option RequestRow → List X) (look : ℕ → Option RequestRow) (a : ℕ)
    (rows : List RequestRow)
    → IsNumbered (λ row. row.number) a rows
    → ((n : ℕ) → a ≤ n → n < a + length rows → look n ≡ request_at n rows)
    → flat_map (λ n. told (look n)) (range_with_len a (length rows)) ≡ flat_map (λ row. told (Some row)) rows
by_numbers told look a [] row finds = refl
by_numbers told look a (r ∷ rows) row finds =
    let here : r.number ≡ a = cc (row) in
    let after : IsNumbered (λ row. row.number) (a + 1) rows = cc (row) in
    let one : look a ≡ Some r = finds a (omega arith) (omega arith) ∙ found r rows a here in
    let more = by_numbers told look (a + 1) rows after (λ n low high. finds n (omega (arith, low)) (omega (arith, high))
    ∙ passed r rows n a here low) in
    rw (one, more) refl
  where
    found : (r : RequestRow) (rows : List RequestRow) (a : ℕ) → r.number ≡ a → request_at a (r ∷ rows) ≡ Some r
    found r rows a here = grind (arith, nat_tests, here)

    passed : (r : RequestRow) (rows : List RequestRow) (n a : ℕ) → r.number ≡ a → a + 1 ≤ n
        → request_at n (r ∷ rows) ≡ request_at n rows
    passed r rows n a here low = grind (arith, nat_tests, here, low)

-- the requests of an account have the numbers from its first on
pub request_numbers : (form : Form) (all : Bool) (c : Content) (u count : ℕ) → AreWellNumbered c
    → count ≡ length (requests_of u c.requests)
    → request_lines_of form all c u ≡ flat_map (λ n. lines_of (request_line form all n c))
    (range_with_len (first_of_account u) count)
unfolding IsWellNumbered own state_of request_line
request_numbers form all c u count well is =
    let mine = well u in
    rw is (sym (by_numbers (λ row. lines_of (option_and_then (if_shown form all c) row))
    (λ n. request_at n c.requests)
    (first_of_account u) (requests_of u c.requests) mine.requests (λ n low high.
    let same : owner_of n ≡ u = omega (arith, low, high, mine.few_requests) in
    let owned : (owner_of n == u) ≡ true = grind (arith, nat_tests, same) in
    sym (rw owned at (request_found u n (state_of c) (keyed (state_of c) well))))))

-- and they are few
pub few_requests : (c : Content) (u : ℕ) → AreWellNumbered c → length (requests_of u c.requests) ≤ 999999
unfolding IsWellNumbered own state_of
few_requests c u well = (well u).few_requests
