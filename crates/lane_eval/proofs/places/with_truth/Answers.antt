use Rattle.lane_eval.proofs.Written.{word_put}
use Rattle.lane_eval.proofs.places.with_truth.Goals as goal

pub returns : goal.returns
returns c q h = word_put c.args.vector c.args.p q c.with_bit.result c.args.truth c.fits-vector.0 c.requires h c.with_bit.ensures
