use Rattle.std.proofs.Common.{rules}
use Rattle.pipe_stage_text.proofs.Runs.{seen_after}
use Rattle.pipe_stage_text.proofs.observer.step.Goals as goal

pub returns-clause-after : goal.returns-clause-after
returns-clause-after c =
    seen_after _ _ _ _ _ _ (search rules) (search rules) (search rules) (search rules) (search rules) (search rules)
