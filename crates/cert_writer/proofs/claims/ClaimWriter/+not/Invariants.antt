use Rattle.cert_writer.proofs.claims.ClaimWriter.+not.Given as goal

abbrev pub decreases-not : goal.decreases-not
decreases-not l = l.a
