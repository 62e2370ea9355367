use Rattle.ctl_atoms.proofs.Solved.{none_mixed}
use Rattle.ctl_atoms.proofs.mixing.first_mixed.Goals as goal

pub returns : goal.returns
returns c = none_mixed c.args.rows.now c.args.terms.now c.loop-id.id c.loop-id-test.false c.loop-id.invariant
