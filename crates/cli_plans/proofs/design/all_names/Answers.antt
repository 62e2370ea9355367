use Rattle.cli_plans.proofs.Designs.{names_more}
use Rattle.cli_plans.proofs.design.all_names.Goals as goal

pub loop-id-preserved : goal.loop-id-preserved
loop-id-preserved c = names_more _ _ _ _ _ _ _ c.loop-id-test.true c.loop-id.invariant c.name_at.ensures c.in-Ok.ensures
