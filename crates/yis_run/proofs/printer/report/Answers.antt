use Rattle.std.proofs.lemmas.Result.{err_from_is_err_and}
use Rattle.wb_io.proofs.Writes.{took_more, part_more, part_after, puts_after}
use Rattle.yis_run.specs.Report.{report}
use Rattle.yis_run.proofs.printer.report.Goals as goal

pub returns-in_err-put_stopped-clause-puts : goal.returns-in_err-put_stopped-clause-puts
unfolding report
returns-in_err-put_stopped-clause-puts g c =
    let p = err_from_is_err_and c.from_residual.result c.from_residual.ensures.1 in
    rw p.1 (part_more _ _ _ _ (part_more _ _ _ _ (part_more _ _ _ _ (part_more _ _ _ _ c.in_err-put_stopped.ensures.puts))))

pub returns-in_err-put_all-clause-puts : goal.returns-in_err-put_all-clause-puts
unfolding report
returns-in_err-put_all-clause-puts g c =
    let p = err_from_is_err_and c.from_residual-in_err-put_all.result c.from_residual-in_err-put_all.ensures.1 in
    rw p.1 (part_more _ _ _ _ (part_more _ _ _ _ (part_more _ _ _ _ (part_after _ _ _ _ _ c.in_ok-put_stopped.ensures.puts c.in_err-put_all.ensures.puts))))

pub returns-in_err-put_registers-clause-puts : goal.returns-in_err-put_registers-clause-puts
unfolding report
returns-in_err-put_registers-clause-puts g c =
    let p = err_from_is_err_and c.from_residual-in_err-put_registers.result c.from_residual-in_err-put_registers.ensures.1 in
    rw p.1
    (part_more _ _ _ _ (part_more _ _ _ _
    (part_after _ _ _ _ _ (took_more _ _ _ _ _ c.in_ok-put_stopped.ensures.puts c.in_ok-put_all.ensures.puts) c.in_err-put_registers.ensures.puts)))

pub returns-in_err-put_all-2-clause-puts : goal.returns-in_err-put_all-2-clause-puts
unfolding report
returns-in_err-put_all-2-clause-puts g c =
    let p = err_from_is_err_and c.from_residual-in_err-put_all-2.result c.from_residual-in_err-put_all-2.ensures.1 in
    rw p.1
    (part_more _ _ _ _
    (part_after _ _ _ _ _
    (took_more _ _ _ _ _ (took_more _ _ _ _ _ c.in_ok-put_stopped.ensures.puts c.in_ok-put_all.ensures.puts) c.in_ok-put_registers.ensures.puts)
    c.in_err-put_all-2.ensures.puts))

pub returns-clause-puts : goal.returns-clause-puts
unfolding report
returns-clause-puts g c =
    puts_after _ _ _ _ _ _
    (took_more _ _ _ _ _
    (took_more _ _ _ _ _ (took_more _ _ _ _ _ c.in_ok-put_stopped.ensures.puts c.in_ok-put_all.ensures.puts) c.in_ok-put_registers.ensures.puts)
    c.in_ok-put_all-2.ensures.puts)
    c.put_memory.ensures.puts
