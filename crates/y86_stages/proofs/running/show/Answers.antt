use Rattle.cli_plans.proofs.Does.{read_stage_goes_on, read_stage_stops}
use Rattle.y86_stages.specs.ShowAnswers.{stages_plan}
use Rattle.y86_stages.proofs.running.show.Goals as goal

pub returns-in-Err : goal.returns-in-Err
unfolding stages_plan
returns-in-Err g c = read_stage_stops _ _ _ _ _ _ _ _ _ c.in-Err.ensures.design

pub returns : goal.returns
unfolding stages_plan
returns g c =
    read_stage_goes_on _ _ _ _ c.in-Ok.bound.ordered.design.terms _ _ _ _ _ _ _ c.in-Ok.ensures.design
    c.show_object.ensures
