use Rattle.cert_checker.proofs.Lines.{no_letter}
use Rattle.cert_checker.proofs.reading.kind_of.Goals as goal

pub returns : goal.returns
returns c = no_letter c.args.letter c.if-letter-eq116.false c.if-letter-eq97.false c.if-letter-eq115.false c.if-letter-eq110.false c.if-letter-eq109.false c.if-letter-eq103.false c.if-letter-eq104.false
