use Rattle.acvp_token.proofs.RoundTrip.{token_text-reads_under, ring_token_text-reads}
use Rattle.acvp_token.proofs.issuing.reads_while_its_key_stands.Goals as goal

pub returns-clause-key : goal.returns-clause-key
returns-clause-key c = token_text-reads_under

pub returns-clause-ring : goal.returns-clause-ring
returns-clause-ring c = ring_token_text-reads
