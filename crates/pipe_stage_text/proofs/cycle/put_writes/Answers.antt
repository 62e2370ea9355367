use Rattle.std.proofs.lemmas.Result.{on_ok_weaker}
use Rattle.pipe_stage_text.proofs.Written.{both_lines, no_lines}
use Rattle.pipe_stage_text.proofs.cycle.put_writes.Goals as goal

pub returns-then-not-done : goal.returns-then-not-done
returns-then-not-done c = rw (c.if-not-done.true) (no_lines _)

pub returns : goal.returns
returns c =
    rw (c.if-not-done.false)
    (on_ok_weaker c.put_written-2.result (λ e. both_lines _ _ _ _ _ c.in_ok-put_written.ensures e) c.put_written-2.ensures)
