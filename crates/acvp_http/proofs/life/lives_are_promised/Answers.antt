use Rattle.acvp_http.proofs.LifeLemmas.{life_answered, life_left}
use Rattle.acvp_http.proofs.life.lives_are_promised.Goals as goal

pub returns : goal.returns
returns c = record {
  told = life_answered c.headline.ensures.told c.headline.ensures.left;
  left = life_left c.headline.ensures.told c.headline.ensures.left;
}
