use Rattle.pipe_refinement.proofs.laws.law_of_motion.Goals as goal
use Rattle.pipe_refinement.proofs.Moves.{keeps, flow_moved}

pub returns : goal.returns
returns c = λ x k g c h. flow_moved x k g c (keeps x k c h)
