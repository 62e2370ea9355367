use Rattle.cli_runs.specs.Answers.{psim_plan}
use Rattle.cli_plans.proofs.Does.{read_stage_goes_on, read_stage_stops}
use Rattle.cli_runs.proofs.psim.psim_file.Goals as goal

pub returns-in-Err : goal.returns-in-Err
unfolding psim_plan
returns-in-Err g c = read_stage_stops _ _ _ _ _ _ _ _ _ c.in-Err.ensures.design

pub returns : goal.returns
unfolding psim_plan
returns g c =
    read_stage_goes_on _ _ _ _ c.in-Ok.bound.ordered.design.terms _ _ _ _ _ _ _ c.in-Ok.ensures.design
    c.run_checked.ensures
