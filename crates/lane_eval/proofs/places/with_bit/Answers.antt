use Rattle.lane_eval.proofs.Written.{bit_set, bit_clear}
use Rattle.lane_eval.proofs.places.with_bit.Goals as goal

pub returns-then-bit : goal.returns-then-bit
returns-then-bit c j h = bit_set c.args.word c.args.k j c.args.bit c.if-bit.true c.requires

pub returns-else-bit : goal.returns-else-bit
returns-else-bit c j h = bit_clear c.args.word c.args.k j c.args.bit c.if-bit.false c.requires h
