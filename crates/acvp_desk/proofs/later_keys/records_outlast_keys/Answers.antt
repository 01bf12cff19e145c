use Rattle.acvp_desk.proofs.LaterSeeds.{answered_more, kept_more, seeded_more}
use Rattle.acvp_desk.proofs.later_keys.records_outlast_keys.Goals as goal

pub returns : goal.returns
returns c = record {
  kept = kept_more;
  left = λ seeds more it left. record {
    kept = kept_more seeds more it left.kept;
    certified = left.certified;
    registered = left.registered;
    epochs = left.epochs;
    answered = answered_more seeds more it left.kept left.answered;
  };
  seeded = seeded_more;
}
