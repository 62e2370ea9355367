use Rattle.std.proofs.Common.{◌-◌, length}
use Rattle.cert_writer.proofs.terms.TermWriter.+term.Given as goal

abbrev pub decreases-term : goal.decreases-term
decreases-term l = length l.self.now.order - l.least
