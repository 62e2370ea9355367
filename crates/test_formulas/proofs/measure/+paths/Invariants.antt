use Rattle.test_formulas.proofs.measure.+paths.Given as goal

abbrev pub decreases-paths : goal.decreases-paths
decreases-paths l = l.depth
