-- The answer on a design that `check` explains.
use Rattle.std.specs.Prelude.{◌≡◌, List, true}
use Rattle.y86_base.specs.declared.parts.Variant.{Variant}
use Rattle.hcl_types.specs.declared.term.Term.{Term}
use Rattle.control_check.specs.PipeVerdicts.{RefinesPipe}
use Rattle.pipe_refusals.specs.Answered.{IsAnswer, is_yes}
use Rattle.pipe_refusals.specs.declared.answer.PipeAnswer.{PipeAnswer}
use Rattle.hcl_types.specs.declared.table.SequentialDatapath.{SequentialDatapath}
use Rattle.seq_check.specs.Verdicts.{Refines}
use Rattle.seq_refusals.specs.Answered as seq
use Rattle.seq_refusals.specs.declared.answer.SeqAnswer as seq_answer

-- the answer on a design for PIPE: the verdict and its diagnosis are right, and an accepted file refines the run of
-- instructions
pub record Answers (v : Variant) (terms : List Term) (answer : PipeAnswer) : Type 0 where
  pub is : IsAnswer v terms answer
  pub refines : is_yes answer ≡ true → RefinesPipe v terms

-- the same for a design for SEQ or SEQ+
pub record SeqAnswers (which : SequentialDatapath) (v : Variant) (terms : List Term) (answer : seq_answer.SeqAnswer) : Type 0 where
  pub is : seq.IsAnswer which v terms answer
  pub refines : seq.is_yes answer ≡ true → Refines which v terms
