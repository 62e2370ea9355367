use Rattle.std.proofs.Common.{refl}
use Rattle.y86_cli.proofs.Ran.{ran_done, ran_stopped}
use Rattle.y86_cli.proofs.running.run.Goals as goal

pub returns-in-Ok-clause-ran : goal.returns-in-Ok-clause-ran
returns-in-Ok-clause-ran g c = ran_done _ _ _ _ _ _ _ c.in-Ok.ensures

pub returns-in-Err-clause-ran : goal.returns-in-Err-clause-ran
returns-in-Err-clause-ran g c =
    ran_stopped _ _ _ _ _ _ _ _ _ c.in-Err.ensures c.report_stop.ensures.status c.report_stop.ensures.line (λ four. rw (c.report_stop.ensures.nothing_for_a_write four) refl)
