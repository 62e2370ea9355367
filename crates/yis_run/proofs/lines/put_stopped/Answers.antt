use Rattle.yis_run.specs.Report.{stopped}
use Rattle.yis_run.proofs.lines.put_stopped.Goals as goal

pub returns-clause-puts : goal.returns-clause-puts
unfolding stopped
returns-clause-puts g c =
    rw (c.as_bytes.ensures, c.decimal-steps.ensures.text, c.as_bytes-2.ensures, c.hex-pc.ensures.text, c.name.ensures, c.flag-zero.ensures, c.flag-sign.ensures, c.flag-overflow.ensures)
    at c.put_pieces.ensures.puts
