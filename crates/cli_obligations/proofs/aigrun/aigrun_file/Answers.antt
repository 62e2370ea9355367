use Rattle.cli_obligations.specs.Answers.{aigrun_plan}
use Rattle.cli_plans.proofs.Does.{read_goes_on, read_stops, said}
use Rattle.cli_obligations.proofs.aigrun.aigrun_file.Goals as goal

pub returns-in-Err : goal.returns-in-Err
unfolding aigrun_plan
returns-in-Err g c = read_stops _ _ _ _ _ _ _ c.in-Err.ensures.stops

pub returns : goal.returns
unfolding aigrun_plan
returns g c =
    read_goes_on _ _ _ _ _ _ _ _ _ _ c.in-Ok.ensures.later c.in-Ok.ensures.bytes.0 c.in-Ok.ensures.bytes.1
    (said _ _ _ _ _ (rw c.as_slice.ensures.value at c.say_counts.ensures))
