use Rattle.net_fields.proofs.gates.+below.Given as goal

abbrev pub decreases-below : goal.decreases-below
decreases-below l = l.n
