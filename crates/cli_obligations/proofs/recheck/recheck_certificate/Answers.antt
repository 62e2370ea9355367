use Rattle.cli_obligations.specs.Answers.{recheck_plan}
use Rattle.cli_plans.proofs.Does.{one_goes_on, one_refuses, read_stage_goes_on, read_stage_stops}
use Rattle.cli_obligations.proofs.recheck.recheck_certificate.Goals as goal

pub returns-in-Err : goal.returns-in-Err
unfolding recheck_plan
returns-in-Err g c = read_stage_stops _ _ _ _ _ _ _ _ _ c.in-Err.ensures.design

pub returns-in-Ok-pipe_atoms : goal.returns-in-Ok-pipe_atoms
unfolding recheck_plan
returns-in-Ok-pipe_atoms g c =
    read_stage_goes_on _ _ _ _ c.in-Ok.bound.ordered.design.terms _ _ _ _ _ _ _ c.in-Ok.ensures.design
    (one_goes_on _ _ _ _ _ _ _ _ _ c.in-Ok-pipe_atoms.ensures c.recheck_text.ensures)

pub returns : goal.returns
unfolding recheck_plan
returns g c =
    read_stage_goes_on _ _ _ _ c.in-Ok.bound.ordered.design.terms _ _ _ _ _ _ _ c.in-Ok.ensures.design
    (one_refuses _ _ _ _ _ _ c.in-Err-pipe_atoms.ensures)
