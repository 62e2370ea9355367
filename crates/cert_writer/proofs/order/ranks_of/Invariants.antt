use Rattle.std.proofs.Common.{◌≡◌, length}
use Rattle.cert_writer.proofs.order.ranks_of.Given as goal

abbrev pub invariant-loop-x : goal.invariant-loop-x
invariant-loop-x l = length l.ranks.items ≡ length l.order
