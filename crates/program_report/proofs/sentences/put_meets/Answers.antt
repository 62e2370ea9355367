use Rattle.program_report.specs.Sentences.{meets_text}
use Rattle.program_report.proofs.sentences.put_meets.Goals as goal

pub returns-clause-puts : goal.returns-clause-puts
unfolding meets_text
returns-clause-puts g c =
    rw (c.as_bytes.ensures, c.hex-pc.ensures.text, c.as_bytes-2.ensures, c.hex-storer.ensures.text, c.distance_word.ensures, c.as_bytes-3.ensures, c.hex-store.ensures.text, c.as_bytes-4.ensures, c.decimal-steps.ensures.text)
    at c.put_pieces.ensures.puts
