use Rattle.ctl_atoms.proofs.Solved.{given_everywhere}
use Rattle.ctl_atoms.proofs.rows.given_lists.Goals as goal

pub returns-clause-given : goal.returns-clause-given
returns-clause-given c = given_everywhere c.args.rows.now c.loop-id.lists.items c.loop-id.id c.loop-id-test.false c.loop-id.invariant.0 c.loop-id.invariant.1
