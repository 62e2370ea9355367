use Rattle.std.proofs.Common.{◌≡◌}
use Rattle.lane_eval.specs.Lanes.{lane_bit}
use Rattle.aiger_run.specs.Counts.{count_below}
use Rattle.aiger_run.proofs.counting.count_true.Given as goal

abbrev pub invariant-loop-p : goal.invariant-loop-p
invariant-loop-p l = l.count ≡ count_below (λ q. lane_bit q l.words) l.p
