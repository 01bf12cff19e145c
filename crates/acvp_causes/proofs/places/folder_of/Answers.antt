use Rattle.std.proofs.Common.{rules, sym, ap, ◌∙◌}
use Rattle.acvp_causes.specs.Folders.{or_root}
use Rattle.acvp_causes.proofs.FolderLemmas.{folder_of-none, folder_of-split, or_root-some}
use Rattle.acvp_causes.proofs.places.folder_of.Goals as goal

pub returns-in-Some-empty-default : goal.returns-in-Some-empty-default
returns-in-Some-empty-default c =
    let h = c.in-Some-empty-default.ensures.cases in
    let path = c.args.path.now in
    sym (folder_of-split path _ h.0 h.1 _ h.2 h.3 h.7 ∙ ap or_root c.in-Some-empty-default.is-empty)

pub returns-in-Some : goal.returns-in-Some
returns-in-Some c =
    let h = c.in-Some.ensures.cases in
    let path = c.args.path.now in
    sym (folder_of-split path _ h.0 h.1 _ h.2 h.3 h.7 ∙ or_root-some _ (search rules))

pub returns-in-None : goal.returns-in-None
returns-in-None c = sym (folder_of-none _ c.in-None.ensures.cases)
