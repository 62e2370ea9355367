use Rattle.std.proofs.Common.{arith, rules}
use Rattle.std.proofs.lemmas.Grind.{common_steps}
use Rattle.nets.proofs.Truths.{values_none}
use Rattle.lane_eval.specs.Lanes.{across}
use Rattle.lane_eval.proofs.Steps.{filled_more}
use Rattle.lane_eval.proofs.lanes.fill.Goals as goal

pub loop-i-init : goal.loop-i-init
loop-i-init c = record { within = omega arith; told = λ p h. values_none (across p c.args.lanes.now) _ (search rules) }

pub loop-i-preserved : goal.loop-i-preserved
loop-i-preserved c = record {
  within = omega arith;
  told = λ p h. filled_more p (across p c.args.lanes.now) c.loop-i.truths c.gate_lanes-truth.result c.args.n.now.gates c.loop-i.i c.gate.result
      c.gate.ensures.is (omega arith) (omega arith) (c.loop-i.invariant.told p h) (grind (arith, common_steps, c.gate_lanes-truth.ensures p h));
}
