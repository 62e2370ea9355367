use Rattle.std.proofs.Common.{◌≡◌, ◌<◌, ◌≤◌, ◌==◌, ℕ, false, [], get_or, if◌then◌else◌}
use Rattle.lane_eval.specs.Lanes.{lane_bit}
use Rattle.lane_eval.proofs.places.put_place.Given as goal

abbrev pub invariant-loop-i : goal.invariant-loop-i
invariant-loop-i l = record {
  done : (u q : ℕ) → u < l.i → q < 512 →
      lane_bit q (get_or l.lanes u []) ≡ (if q == l.p then get_or l.truths u false else lane_bit q (get_or l.initial.lanes u []));
  left : (u : ℕ) → l.i ≤ u → get_or l.lanes u [] ≡ get_or l.initial.lanes u [];
}
