use Rattle.cert_writer.specs.Proofs.{KeepsClaims}
use Rattle.cert_writer.specs.Writing.{AreClaims}
use Rattle.cert_writer.proofs.claims.ClaimWriter.gate_claims.Given as goal

abbrev pub invariant-loop-i : goal.invariant-loop-i
invariant-loop-i l = KeepsClaims l.fn.self l.self × AreClaims l.n l.self l.ts l.by.items l.i
