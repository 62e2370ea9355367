use Rattle.program_report.specs.Sentences.{stops_text}
use Rattle.program_report.proofs.sentences.put_stops.Goals as goal

pub returns-clause-puts : goal.returns-clause-puts
unfolding stops_text
returns-clause-puts g c = rw (c.as_bytes.ensures, c.decimal-steps.ensures.text) at c.put_pieces.ensures.puts
