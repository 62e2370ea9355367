use Rattle.std.proofs.lemmas.Result.{err_from_is_err_and}
use Rattle.wb_io.proofs.Writes.{took_more, part_more, part_after, puts_after}
use Rattle.retire_trace.specs.TraceLine.{trace_line}
use Rattle.retire_trace.proofs.trace_line.line.Goals as goal

pub returns-in_err-put_head-clause-puts : goal.returns-in_err-put_head-clause-puts
unfolding trace_line
returns-in_err-put_head-clause-puts g c =
    let p = err_from_is_err_and c.from_residual.result c.from_residual.ensures.1 in
    rw p.1 (part_more _ _ _ _ (part_more _ _ _ _ (part_more _ _ _ _ (part_more _ _ _ _ c.in_err-put_head.ensures.puts))))

pub returns-in_err-put_written-clause-puts : goal.returns-in_err-put_written-clause-puts
unfolding trace_line
returns-in_err-put_written-clause-puts g c =
    let p = err_from_is_err_and c.from_residual-in_err-put_written.result c.from_residual-in_err-put_written.ensures.1 in
    rw p.1 (part_more _ _ _ _ (part_more _ _ _ _ (part_more _ _ _ _ (part_after _ _ _ _ _ c.in_ok-put_head.ensures.puts c.in_err-put_written.ensures.puts))))

pub returns-in_err-put_written-2-clause-puts : goal.returns-in_err-put_written-2-clause-puts
unfolding trace_line
returns-in_err-put_written-2-clause-puts g c =
    let p = err_from_is_err_and c.from_residual-in_err-put_written-2.result c.from_residual-in_err-put_written-2.ensures.1 in
    rw p.1
    (part_more _ _ _ _ (part_more _ _ _ _
    (part_after _ _ _ _ _ (took_more _ _ _ _ _ c.in_ok-put_head.ensures.puts c.in_ok-put_written.ensures.puts) c.in_err-put_written-2.ensures.puts)))

pub returns-in_err-put_stored-clause-puts : goal.returns-in_err-put_stored-clause-puts
unfolding trace_line
returns-in_err-put_stored-clause-puts g c =
    let p = err_from_is_err_and c.from_residual-in_err-put_stored.result c.from_residual-in_err-put_stored.ensures.1 in
    rw p.1
    (part_more _ _ _ _
    (part_after _ _ _ _ _
    (took_more _ _ _ _ _ (took_more _ _ _ _ _ c.in_ok-put_head.ensures.puts c.in_ok-put_written.ensures.puts) c.in_ok-put_written-2.ensures.puts)
    c.in_err-put_stored.ensures.puts))

pub returns-clause-puts : goal.returns-clause-puts
unfolding trace_line
returns-clause-puts g c =
    puts_after _ _ _ _ _ _
    (took_more _ _ _ _ _
    (took_more _ _ _ _ _ (took_more _ _ _ _ _ c.in_ok-put_head.ensures.puts c.in_ok-put_written.ensures.puts) c.in_ok-put_written-2.ensures.puts)
    c.in_ok-put_stored.ensures.puts)
    c.put_tail.ensures.puts
