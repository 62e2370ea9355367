use Rattle.std.proofs.Common.{◌≡◌, ◌+◌, ◌-◌, ◌%◌, ◌^◌, take}
use Rattle.aiger_run.specs.Vectors.{vector, word_behind}
use Rattle.aiger_run.proofs.inputs.put_vector.Given as goal

abbrev pub invariant-loop-k : goal.invariant-loop-k
invariant-loop-k l = record {
  behind : l.draws ≡ word_behind ((l.seed + l.i) % 2 ^ 64) (l.k - 9);
  so_far : take l.k l.bits ≡ vector l.seed l.i l.k;
}
