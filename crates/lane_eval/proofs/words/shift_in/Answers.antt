use Rattle.std.proofs.Common.{◌+◌, arith}
use Rattle.lane_eval.proofs.Shifted.{along_whole, along_others}
use Rattle.lane_eval.proofs.words.shift_in.Goals as goal

pub returns-clause-last : goal.returns-clause-last
returns-clause-last c = along_whole 63 c.loop-i.words c.args.truths.now (omega (arith, c.requires)) (λ u h. c.loop-i.invariant.last u (omega arith))

pub returns-clause-others : goal.returns-clause-others
returns-clause-others c j h = along_others j (j + 1) c.loop-i.words c.args.words.now (omega arith) (λ u within. c.loop-i.invariant.others u j (omega arith) h)
