use Rattle.std.proofs.lemmas.Result.{on_ok_weaker}
use Rattle.pipe_stage_text.proofs.Rows.{two_parts}
use Rattle.seq_text.specs.Lines.{execute_sources}
use Rattle.seq_text.proofs.lines.put_execute_sources.Goals as goal

pub returns : goal.returns
unfolding execute_sources
returns c = on_ok_weaker c.put_text_pair-2.result (λ e. two_parts _ _ _ _ _ c.in_ok-put_text_pair.ensures e) c.put_text_pair-2.ensures
