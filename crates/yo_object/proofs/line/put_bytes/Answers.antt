use Rattle.yo_object.proofs.Bytes.{put_all}
use Rattle.yo_object.proofs.line.put_bytes.Goals as goal

pub returns : goal.returns
returns c = put_all c.pairs.image c.args.image.now _ _ c.pairs.at c.args.address c.in_default.ensures.pair c.pairs.invariant.3 c.requires
