use Rattle.std.proofs.Common.{◌++◌}
use Rattle.std.specs.Prelude.{codes}
use Rattle.std.proofs.lemmas.Result.{on_ok_weaker}
use Rattle.pipe_stage_text.specs.Numbers.{word_pair}
use Rattle.pipe_stage_text.proofs.Rows.{two_parts}
use Rattle.seq_text.specs.Lines.{pc_source, update_line}
use Rattle.seq_text.specs.Signals.{sources_in}
use Rattle.seq_text.proofs.lines.put_update.Goals as goal

pub returns : goal.returns
unfolding update_line
returns c =
    let source = pc_source (codes " new_pc_from ") (sources_in c.args.sources.now) in
    on_ok_weaker c.put.result
    (λ e.
    two_parts c.args.out.now.items c.put_word_pair.new.out.items c.put.new.out.items (word_pair (codes "P new_pc ") c.args.new_pc) (source ++ codes "\n")
    c.in_ok-put_word_pair.ensures
    (two_parts c.put_word_pair.new.out.items c.put_pc_source.new.out.items c.put.new.out.items source (codes "\n") c.in_ok-put_pc_source.ensures e))
    c.put.ensures
