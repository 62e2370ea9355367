use Rattle.cert_writer.proofs.Demanded.{AreTrueTo}
use Rattle.cert_writer.proofs.writer.is_open.Given as goal

abbrev pub invariant-loop-k : goal.invariant-loop-k
invariant-loop-k l = AreTrueTo l.g l.k
