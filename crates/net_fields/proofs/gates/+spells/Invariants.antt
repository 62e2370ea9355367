use Rattle.net_fields.proofs.gates.+spells.Given as goal

abbrev pub decreases-spells : goal.decreases-spells
decreases-spells l = l.p.bits
