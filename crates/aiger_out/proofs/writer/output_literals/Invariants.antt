use Rattle.aiger_out.specs.WrittenLines.{AreNegated, gates_of}
use Rattle.aiger_out.proofs.writer.output_literals.Given as goal

abbrev pub invariant-loop-k : goal.invariant-loop-k
invariant-loop-k l = AreNegated l.k (gates_of l.rules) l.literals l.outs.items
