use Rattle.std.proofs.Common.{refl}
use Rattle.acvp_token.proofs.RoundTrip.{token_text-reads, ring_token_text-reads}
use Rattle.acvp_token.proofs.issuing.issued_reads_back.Goals as goal

pub returns-clause-key : goal.returns-clause-key
returns-clause-key c = token_text-reads

pub returns-clause-ring : goal.returns-clause-ring
returns-clause-ring c = λ ring claims is. ring_token_text-reads ring ring claims is is refl
