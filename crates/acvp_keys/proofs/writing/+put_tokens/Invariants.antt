use Rattle.std.proofs.Common.{length}
use Rattle.acvp_keys.proofs.writing.+put_tokens.Given as goal

abbrev pub decreases-put_tokens : goal.decreases-put_tokens
decreases-put_tokens l = length l.entries.now
