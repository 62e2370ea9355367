use Rattle.cli_plans.specs.Lines.{names_line}
use Rattle.cli_plans.proofs.stop_reason.put_names.Goals as goal

pub returns-clause-puts : goal.returns-clause-puts
unfolding names_line
returns-clause-puts g c = c.put_pieces.ensures.puts
