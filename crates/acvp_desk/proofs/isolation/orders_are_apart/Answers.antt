use Rattle.acvp_desk.proofs.OrderedApart.{ordered_apart}
use Rattle.acvp_desk.proofs.isolation.orders_are_apart.Goals as goal

pub returns : goal.returns
returns g = λ u it state well.
    ordered_apart g.numbers_tell.ensures.account g.numbers_tell.ensures.request g.numbers_tell.ensures.counts
    g.numbers_name.ensures.request
    g.changes_are_of_one_account.ensures.order g.changes_are_of_one_account.ensures.ordered_others u it state well
