use Rattle.seq_text.specs.Lines.{pc_source}
use Rattle.seq_text.proofs.lines.put_pc_source.Goals as goal

pub returns : goal.returns
unfolding pc_source
returns c = c.put_text_pair.ensures
