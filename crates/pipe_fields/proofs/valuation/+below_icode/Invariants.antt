use Rattle.pipe_fields.proofs.valuation.+below_icode.Given as goal

abbrev pub decreases-below_icode : goal.decreases-below_icode
decreases-below_icode l = l.n
