use Rattle.lane_eval.proofs.Shifted.{word_set}
use Rattle.lane_eval.proofs.words.with_word.Goals as goal

pub returns : goal.returns
returns c q h = word_set c.args.vector c.args.l q c.args.word c.fits-vector.0 c.requires h
