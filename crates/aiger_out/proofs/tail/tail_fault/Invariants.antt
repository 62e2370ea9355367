use Rattle.aiger_out.proofs.Tails.{TailRead}
use Rattle.aiger_out.proofs.tail.tail_fault.Given as goal

abbrev pub invariant-loop-k : goal.invariant-loop-k
invariant-loop-k l = TailRead l.h l.text l.k l.rest
