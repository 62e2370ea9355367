use Rattle.std.proofs.Common.{◌∙◌, ap, refl}
use Rattle.wb_io.specs.Causes.{counted}
use Rattle.prog_cosim.proofs.Drives.{pipe_one_size}
use Rattle.cli_runs.proofs.PipeRuns.{behind_part, behind_whole, pipe_broken, pipe_part, pipe_whole, verdict_broken}
use Rattle.cli_runs.proofs.psim.run_machine.Goals as goal

pub put_end-requires : goal.put_end-requires
put_end-requires g c =
    let ran = c.in-Ok-drive.ensures.drove in
    record { one_size = pipe_one_size _ _ _ _ _ _ _ _ ran.0 _ _ refl c.requires.started ran.1 c.end-end.ensures }

pub returns-in-Err : goal.returns-in-Err
returns-in-Err g c = verdict_broken _ _ _ _ c.requires.bound c.requires.ordered _ _ _ _ _ c.in-Err.ensures.puts c.in-Err.ensures.counts.one_fault_at_err

pub returns-in-Err-drive : goal.returns-in-Err-drive
returns-in-Err-drive g c =
    let broke = c.in-Err-drive.ensures.failed in
    behind_part _ _ _ _ _ _ _ _ _ c.in-Ok.ensures.puts c.in-Ok.ensures.counts.no_fault_at_ok
    (pipe_broken _ _ _ _ c.requires.bound c.requires.ordered _ _ _ _ _ _ broke.0 broke.1 broke.2 broke.3 c.requires.started broke.4 c.in-Err-drive.ensures.counts.one_fault_at_err)

pub returns-in-Ok-put_end : goal.returns-in-Ok-put_end
returns-in-Ok-put_end g c =
    let ran = c.in-Ok-drive.ensures.drove in
    behind_whole _ _ _ _ _ _ _ _ _ _ c.in-Ok.ensures.puts c.in-Ok.ensures.counts.no_fault_at_ok
    (pipe_whole _ _ _ _ _ _ _ _ _ ran.0 _ _ _ _ _ _ refl c.requires.started ran.1 c.end-end.ensures c.status.ensures.status c.status.ensures.low ran.2
    c.in-Ok-put_end.ensures.puts (c.in-Ok-put_end.ensures.counts.no_fault_at_ok ∙ c.in-Ok-drive.ensures.counts.no_fault_at_ok))

pub returns-in-Err-put_end : goal.returns-in-Err-put_end
returns-in-Err-put_end g c =
    let ran = c.in-Ok-drive.ensures.drove in
    behind_part _ _ _ _ _ _ _ _ _ c.in-Ok.ensures.puts c.in-Ok.ensures.counts.no_fault_at_ok
    (pipe_part _ _ _ _ _ _ _ _ _ ran.0 _ _ _ _ _ refl c.requires.started ran.1 c.end-end.ensures ran.2 c.in-Err-put_end.ensures.puts
    (c.in-Err-put_end.ensures.counts.one_fault_at_err ∙ ap counted c.in-Ok-drive.ensures.counts.no_fault_at_ok))
