use Rattle.std.proofs.Common.{◌-◌, ◌≤◌, ◌∙◌, arith, drop, length}
use Rattle.std.proofs.lemmas.List.{length-drop, take_all}
use Rattle.acvp_view.proofs.reads.given_text.Goals as goal

pub returns-in_ok-from_str-in-Ok : goal.returns-in_ok-from_str-in-Ok
returns-in_ok-from_str-in-Ok c =
    let reply = c.args.reply.now in
    let few : length (drop 256 reply) ≤ length reply - 256 = omega (arith, length-drop 256 reply) in
    c.in_ok-from_str-in-Ok.ensures.ok ∙ c.in-Ok.ensures.cases.0 ∙ take_all (length reply - 256) (drop 256 reply) few
