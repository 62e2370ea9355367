use Rattle.lane_eval.proofs.Shifted.{shifted_top, shifted_rest}
use Rattle.lane_eval.proofs.words.shifted.Goals as goal

pub returns-clause-last : goal.returns-clause-last
returns-clause-last c = shifted_top c.args.word c.with_bit.result c.args.truth c.with_bit.ensures

pub returns-clause-others : goal.returns-clause-others
returns-clause-others c j h = shifted_rest c.args.word c.with_bit.result c.args.truth c.with_bit.ensures j h
