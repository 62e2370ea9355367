use Rattle.std.proofs.Common.{◌≡◌, ℕ, ◌∙◌, ap, arith, length, List}
use Rattle.lane_eval.specs.Lanes.{across}
use Rattle.lane_eval.proofs.Steps.{lent, filled_all}
use Rattle.lane_eval.proofs.lanes.Scratch.run.Goals as goal

pub returns-clause-truths : goal.returns-clause-truths
returns-clause-truths c p h =
    let n : ℕ = c.self.inside.truths.len in
    let new : List (List ℕ) = c.fill.new.truths in
    let size : length new ≡ n = omega (arith, c.fill.auto.truths, c.as_mut_slice.ensures.len) in
    ap (across p) (lent n new c.self.inside.truths.items size)
    ∙ filled_all c.args.n.now (across p c.args.lanes.now) p new c.len.result c.len.ensures (omega (arith, c.requires.has_truth, size, c.self.inside.truths.ok.0, ap length c.self.view_is)) (c.fill.ensures p h)
