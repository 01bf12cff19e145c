use Rattle.std.proofs.Common.{[], ◌∷◌, ◌++◌, ◌+◌, ◌*◌, refl, sym, ap, ◌∙◌, arith}
use Rattle.acvp_desk.proofs.NextSession.{one_more}
use Rattle.acvp_desk.proofs.new_session.numbers_of.Goals as goal

pub loop-place-preserved : goal.loop-place-preserved
loop-place-preserved c =
    let first = c.args.session * 100 + 1 in
    c.in_ok-push.ensures.items ∙ ap (λ numbers. numbers ++ (first + c.loop-place.place) ∷ []) c.loop-place.invariant
    ∙ sym (one_more first c.loop-place.place (c.loop-place.place + 1) (first + c.loop-place.place) (omega (arith)) refl)
