use Rattle.cli_plans.specs.Lines.{place_line}
use Rattle.cli_plans.proofs.stop_reason.put_place.Goals as goal

pub returns-clause-puts : goal.returns-clause-puts
unfolding place_line
returns-clause-puts g c =
    rw (c.as_bytes.ensures, c.decimal-line.ensures.text, c.as_bytes-2.ensures, c.decimal-column.ensures.text) at c.put_pieces.ensures.puts
