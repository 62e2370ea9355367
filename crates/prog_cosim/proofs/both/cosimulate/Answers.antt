use Rattle.std.proofs.Common.{sym}
use Rattle.prog_cosim.proofs.Ways as both
use Rattle.prog_cosim.proofs.Drives.{pipe_one_size}
use Rattle.prog_cosim.proofs.both.cosimulate.Goals as goal

pub same_reports-requires-clause-one_size : goal.same_reports-requires-clause-one_size
same_reports-requires-clause-one_size c =
    both.one_size c.args.variant _ _ _ _ _ _ c.in-Ok-copy.ensures c.start-machine.ensures c.run-ran.ensures.machine c.of-one.ensures

pub same_reports-requires-clause-other_size : goal.same_reports-requires-clause-other_size
same_reports-requires-clause-other_size c =
    let ran = c.in-Ok-drive.ensures.drove in
    pipe_one_size _ _ _ _ _ _ _ _ ran.0 _ _ (sym c.in-Ok-copy-2.ensures) c.new-pipe.ensures ran.1 c.end-other.ensures

pub returns-in-Ok-same_reports : goal.returns-in-Ok-same_reports
returns-in-Ok-same_reports c =
    let ran = c.in-Ok-drive.ensures.drove in
    both.both_are c.args.variant _ c.args.n _ _ _ _ _ _ ran.0 _ _ _ _ _ c.in-Ok.ensures c.in-Ok-copy-2.ensures
    (both.ran_one c.args.variant _ _ _ _ _ _ _ _ c.in-Ok-copy.ensures c.in-Ok.ensures c.start-machine.ensures c.run-ran.ensures.machine c.run-ran.ensures.steps c.of-one.ensures)
    c.new-pipe.ensures ran.1 c.end-other.ensures c.in-Ok-same_reports.ensures c.are_halts.ensures
