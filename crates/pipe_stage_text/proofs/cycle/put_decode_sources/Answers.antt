use Rattle.std.proofs.lemmas.Result.{on_ok_weaker}
use Rattle.pipe_stage_text.specs.Cycle.{decode_sources}
use Rattle.pipe_stage_text.proofs.Rows.{two_parts}
use Rattle.pipe_stage_text.proofs.cycle.put_decode_sources.Goals as goal

pub returns : goal.returns
unfolding decode_sources
returns c = on_ok_weaker c.put_text_pair-2.result (λ e. two_parts _ _ _ _ _ c.in_ok-put_text_pair.ensures e) c.put_text_pair-2.ensures
