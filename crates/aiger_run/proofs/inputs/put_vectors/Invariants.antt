use Rattle.std.proofs.Common.{◌≡◌, ◌<◌, ℕ, length}
use Rattle.lane_eval.specs.Lanes.{across}
use Rattle.aiger_run.specs.Vectors.{vector}
use Rattle.aiger_run.proofs.inputs.put_vectors.Given as goal

abbrev pub invariant-loop-p : goal.invariant-loop-p
invariant-loop-p l = record {
  same : length l.bits ≡ length l.lanes;
  placed : (q : ℕ) → q < l.p → across q l.lanes ≡ vector l.seed q (length l.initial.lanes);
}
