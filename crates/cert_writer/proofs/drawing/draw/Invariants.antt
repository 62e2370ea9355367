use Rattle.cert_writer.proofs.DrawnGates.{AreDrawn}
use Rattle.cert_writer.proofs.drawing.draw.Given as goal

abbrev pub invariant-loop-i : goal.invariant-loop-i
invariant-loop-i l = AreDrawn l.copy.net l.copy.gates l.store l.built l.dias.items l.i
