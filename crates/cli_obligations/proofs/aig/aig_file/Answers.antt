use Rattle.cli_obligations.specs.Answers.{aig_plan}
use Rattle.cli_plans.proofs.Does.{read_stage_goes_on, read_stage_stops, said}
use Rattle.cli_obligations.proofs.aig.aig_file.Goals as goal

pub returns-in-Err : goal.returns-in-Err
unfolding aig_plan
returns-in-Err g c = read_stage_stops _ _ _ _ _ _ _ _ _ c.in-Err.ensures.design

pub returns : goal.returns
unfolding aig_plan
returns g c =
    read_stage_goes_on _ _ _ _ c.in-Ok.bound.ordered.design.terms _ _ _ _ _ _ _ c.in-Ok.ensures.design
    (said _ _ _ _ _ c.say_obligations.ensures)
