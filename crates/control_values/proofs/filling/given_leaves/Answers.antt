use Rattle.control_values.specs.Given.{field_at}
use Rattle.control_values.proofs.Solved.{given_everywhere, given_more, length_more}
use Rattle.control_values.proofs.filling.given_leaves.Goals as goal

pub loop-id-preserved : goal.loop-id-preserved
loop-id-preserved c =
    let field = field_at c.args.s.now.fields.now c.args.s.now.bits.now in (
      length_more c.loop-id.leaves.items c.given_at-leaf.result c.push.new.list.items c.loop-id.id c.loop-id.invariant.0 c.in-Ok.ensures,
      given_more field c.args.rows.now c.loop-id.leaves.items c.loop-id.id c.given_at-leaf.result c.push.new.list.items c.loop-id.invariant.0 c.in-Ok.ensures c.given_at-leaf.ensures c.loop-id.invariant.1,
    )

pub returns-clause-given : goal.returns-clause-given
returns-clause-given c = given_everywhere (field_at c.args.s.now.fields.now c.args.s.now.bits.now) c.args.rows.now c.loop-id.leaves.items c.loop-id.id c.loop-id-test.false c.loop-id.invariant.0 c.loop-id.invariant.1
