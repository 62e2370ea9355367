use Rattle.lane_eval.proofs.Bits.{place_and}
use Rattle.lane_eval.proofs.lanes.both.Goals as goal

pub returns : goal.returns
returns c p h = place_and p c.args.a c.args.b h c.fits-a.0 c.fits-b.0
