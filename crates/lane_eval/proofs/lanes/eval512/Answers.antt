use Rattle.std.proofs.Common.{◌≡◌, ℕ, ◌∙◌, arith, length, List}
use Rattle.std.proofs.lemmas.Grind.{common_steps}
use Rattle.lane_eval.specs.Lanes.{across}
use Rattle.lane_eval.proofs.Steps.{lent, filled_last}
use Rattle.lane_eval.proofs.lanes.eval512.Goals as goal

pub returns-clause-truth : goal.returns-clause-truth
returns-clause-truth c p h =
    let new : List (List ℕ) = c.fill.new.truths in
    let size : length new ≡ c.s.inside.truths.len = omega (arith, c.fill.auto.truths, c.as_mut_slice.ensures.len) in
    let whole : c.as_slice.result.now ≡ new = c.as_slice.ensures.value ∙ lent c.s.inside.truths.len new c.s.inside.truths.items size in
    filled_last c.args.n.now (across p c.args.lanes.now) p new c.args.gate c.gate.result _ c.gate.ensures.is c.requires.gate (c.fill.ensures p h)
    (grind (arith, common_steps, c.gate_lanes.ensures p h, whole))
