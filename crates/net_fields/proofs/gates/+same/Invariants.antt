use Rattle.net_fields.proofs.gates.+same.Given as goal

abbrev pub decreases-same : goal.decreases-same
decreases-same l = l.p.bits
