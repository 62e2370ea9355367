use Rattle.std.proofs.Common.{ap, refl}
use Rattle.cli_plans.specs.PlanFollowing.{sink_state}
use Rattle.y86_stages.specs.ScannedWords.{read_in}
use Rattle.y86_stages.proofs.Ended.{called_done, called_stopped}
use Rattle.y86_stages.proofs.calling.run.Goals as goal

pub returns-in-Ok : goal.returns-in-Ok
returns-in-Ok g c =
    called_done _ _ _ _ _ _ _ _ (read_in c.in-Ok-Some.reading) c.in-Ok.status (rw c.in-Ok-Some.field-0-is at c.in-Ok-Some.ensures)
    (rw (c.as_slice.ensures.value, c.window_of-window.ensures) at c.in-Ok.ensures) refl refl

pub returns : goal.returns
returns g c =
    let told = c.tell_stop-in-Err-show_words.ensures in
    called_stopped _ _ _ _ _ _ _ _ (read_in c.in-Ok-Some.reading) c.in-Err-show_words.stop (rw c.in-Ok-Some.field-0-is at c.in-Ok-Some.ensures)
    (rw (c.as_slice.ensures.value, c.window_of-window.ensures) at c.in-Err-show_words.ensures) told.status told.line
    (λ four. ap (λ e. sink_state (g.E.Sink.taken e) (g.E.Sink.faults e)) (told.nothing_for_a_write four))
