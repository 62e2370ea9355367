use Rattle.pipe_theorem.proofs.laws.law_of_pipelined_refinement.Goals as goal
use Rattle.pipe_theorem.proofs.Top.{accepted_refines}

pub returns : goal.returns
returns c = λ v terms ids atoms s image k bound order holds is_image pure.
    accepted_refines (record { v = v; s = s; image = image }) terms ids atoms bound order holds k is_image pure
