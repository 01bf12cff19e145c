use Rattle.std.proofs.Common.{◌∙◌, ap, sym}
use Rattle.acvp_tables.specs.Content.{Content}
use Rattle.acvp_tables.proofs.Reviewers.{reviewers_read}
use Rattle.acvp_tables.proofs.list.ListTablesTables.reviewers_of.Goals as goal

-- src/list.rt:314:5
pub returns-clause-found : goal.returns-clause-found
returns-clause-found c = λ live content sound is. reviewers_read c.args.session content _ _ sound
    (c.deref.ensures.value ∙ ap (λ (x : Content). x.reviewers) (c.self.view_is ∙ sym is)) c.in_ok-reviewers_of.ensures
