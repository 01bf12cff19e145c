use Rattle.std.proofs.lemmas.Result.{IfOk-weaker}
use Rattle.acvp_view.specs.Listed.{account_lines}
use Rattle.acvp_view.specs.declared.form.Form.TheVariants.{Json}
use Rattle.acvp_view.proofs.ItemLemmas.{TakesItem, array_whole}
use Rattle.acvp_view.proofs.LineLemmas.{handed_whole}
use Rattle.acvp_view.proofs.lists.show_account_array.Goals as goal

pub returns : goal.returns
returns g c = λ live. IfOk-weaker c.end.result _ _
    (λ last ended content well h. array_whole g.L.Lines.takes (account_lines Json content) c.new-items.result
    c.show_accounts.new.lines c.args.lines last c.new-items.ensures.lines c.new-items.ensures.first
    (handed_whole (TakesItem g.L.Lines.takes)
    c.in_ok-show_accounts.field-0 (account_lines Json content) c.new-items.result
    c.show_accounts.new.lines (c.in_ok-show_accounts.ensures.told live content well h)) ended)
    c.end.ensures
