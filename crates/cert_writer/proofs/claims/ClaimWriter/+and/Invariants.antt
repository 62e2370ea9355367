use Rattle.std.proofs.Common.{◌+◌}
use Rattle.cert_writer.proofs.claims.ClaimWriter.+and.Given as goal

abbrev pub decreases-and : goal.decreases-and
decreases-and l = l.a + l.b
