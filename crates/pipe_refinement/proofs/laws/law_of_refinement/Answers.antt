use Rattle.pipe_refinement.proofs.laws.law_of_refinement.Goals as goal
use Rattle.pipe_refinement.proofs.Refine.{refines}

pub returns : goal.returns
returns c = refines
