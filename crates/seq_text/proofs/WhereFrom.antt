-- The value of a signal is that of the name that its definition picks.
use Rattle.std.proofs.Common.{slice_get, ◌∙◌}
use Rattle.dp_signals.specs.Equations.{defined_value, rule_of}
use Rattle.dp_signals.specs.PipeEquations.{constants}
use Rattle.dp_signals.specs.SeqNames as seq
use Rattle.dp_sequential.specs.Seq.{seq_given}
use Rattle.seq_plus.specs.PlusEquations.{plus_given}
use Rattle.seq_plus.specs.PlusNames as plus
use Rattle.pipe_stage_text.proofs.Picks.{value_of_source}
use Rattle.seq_text.specs.Laws.{PlusSources, SeqSources}

pub seq_sources_told : SeqSources
unfolding rule_of seq_given constants defined_value
seq_sources_told =
    record {
      aluA = λ v terms s f id solves e. solves seq.aluA ∙ value_of_source f id (slice_get terms 9) e;
      aluB = λ v terms s f id solves e. solves seq.aluB ∙ value_of_source f id (slice_get terms 10) e;
      mem_addr = λ v terms s f id solves e. solves seq.mem_addr ∙ value_of_source f id (slice_get terms 13) e;
      mem_data = λ v terms s f id solves e. solves seq.mem_data ∙ value_of_source f id (slice_get terms 16) e;
      next_pc = λ v terms s f id solves e. solves seq.new_pc ∙ value_of_source f id (slice_get terms 18) e;
    }

pub plus_sources_told : PlusSources
unfolding rule_of plus_given constants defined_value
plus_sources_told =
    record {
      aluA = λ v terms s f id solves e. solves plus.aluA ∙ value_of_source f id (slice_get terms 10) e;
      aluB = λ v terms s f id solves e. solves plus.aluB ∙ value_of_source f id (slice_get terms 11) e;
      mem_addr = λ v terms s f id solves e. solves plus.mem_addr ∙ value_of_source f id (slice_get terms 14) e;
      mem_data = λ v terms s f id solves e. solves plus.mem_data ∙ value_of_source f id (slice_get terms 17) e;
      next_pc = λ v terms s f id solves e. solves plus.pc ∙ value_of_source f id (slice_get terms 0) e;
    }
