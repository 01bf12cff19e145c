use Rattle.std.specs.Prelude.{◌<◌, ◌^◌}
use Rattle.acvp_store.proofs.Words.{account_columns, account_key, account_row, account_shown, ap, arith, FitsAccount}
use Rattle.acvp_store.proofs.Words.{HoldsAccounts, IfOk-weaker, is_between, IsAccountRow, refl, ⊤}
use Rattle.acvp_store.proofs.RangeColumns.{IsAccountTyped, accounts_typed, account_is, accounts_met, accounts_in_order}
use Rattle.acvp_store.proofs.RangeRows.{range_given}
use Rattle.acvp_store.proofs.RangeStrays.{stray_of, each_kept}
use Rattle.acvp_store.proofs.Finding.{AccountRange, is_query, read_as}
use Rattle.acvp_store.proofs.ranges.accounts_between.Goals as goal

pub returns-clause-read : goal.returns-clause-read
returns-clause-read g c =
    read_as c.asked.result c.ranged.result _ _ c.ranged.ensures.ok
    (c.asked.ensures.read (λ live. (c.requires live).ready) (is_query AccountRange))

pub returns-clause-rows : goal.returns-clause-rows
returns-clause-rows g c live =
    let store = c.requires ((returns-clause-read g c).stays.was_open live) in
    let low : c.args.last < 2 ^ 63 = omega (arith, c.ranges.last.fits) in
    range_given account_key account_row account_shown account_columns IsAccountTyped (λ s. refl) account_is
    c.args.first
    c.args.last low _ _ c.asked.result (λ v. v.items) c.ranged.result (λ v. v.items) c.ranged.ensures.ok
    c.ranged.ensures.judged
    (λ full. accounts_typed store.schema.0 _ store.schema.1 store.sound full)
    (IfOk-weaker c.asked.result _ _
    (λ rows shown. accounts_in_order store.schema.0 c.args.first c.args.last _ _ rows.items store.schema.1
    (rw (c.to_sql.ensures, c.to_sql-2.ensures, c.from.ensures, c.from-2.ensures) at shown))
    (c.asked.ensures.shown live))

pub returns-clause-stray : goal.returns-clause-stray
returns-clause-stray g c live =
    let store = c.requires ((returns-clause-read g c).stays.was_open live) in
    stray_of HoldsAccounts IsAccountRow FitsAccount (each_kept account_key account_row FitsAccount)
    (λ a. ⊤ × FitsAccount a) account_shown account_columns 0 0 (λ r. refl)
    (λ row a fits is. (a, (tt, fits), ap account_columns is)) (is_between c.args.first c.args.last) _ c.asked.result
    (λ v. v.items) c.ranged.result c.ranged.ensures.stray
    (IfOk-weaker c.asked.result _ _
    (λ rows shown. accounts_met store.schema.0 c.args.first c.args.last _ _ rows.items store.schema.1
    (rw (c.to_sql.ensures, c.to_sql-2.ensures, c.from.ensures, c.from-2.ensures) at shown))
    (c.asked.ensures.shown live))
