use Rattle.cli_runs.specs.PipeRuns.{ran_line}
use Rattle.cli_runs.proofs.psim.put_ran.Goals as goal

pub returns-clause-puts : goal.returns-clause-puts
unfolding ran_line
returns-clause-puts g c =
    rw (c.as_bytes.ensures, c.decimal-cycles.ensures.text, c.as_bytes-2.ensures, c.decimal-retired.ensures.text) at c.put_pieces.ensures.puts
