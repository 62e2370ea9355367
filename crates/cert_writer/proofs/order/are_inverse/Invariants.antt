use Rattle.cert_writer.proofs.Orders.{AreInverse}
use Rattle.cert_writer.proofs.order.are_inverse.Given as goal

abbrev pub invariant-loop-i : goal.invariant-loop-i
invariant-loop-i l = AreInverse l.order l.ranks l.i
