use Rattle.std.proofs.Common.{length}
use Rattle.hcl_read.proofs.Readings.{Follows}
use Rattle.hcl_read.proofs.reading.read_tokens.Given as goal

abbrev pub invariant-tokens : goal.invariant-tokens
invariant-tokens l = Follows l.bytes l.names l.state l.rest

abbrev pub decreases-tokens : goal.decreases-tokens
decreases-tokens l = length l.rest
