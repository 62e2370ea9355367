use Rattle.lane_eval.proofs.Bits.{place_not}
use Rattle.lane_eval.proofs.lanes.inverted.Goals as goal

pub returns : goal.returns
returns c p h = place_not p c.args.a h c.fits-a.0 c.fits-a.1
