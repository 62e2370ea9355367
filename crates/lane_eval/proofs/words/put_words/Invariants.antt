use Rattle.std.proofs.Common.{◌≡◌, ◌<◌, ◌≤◌, ◌/◌, ◌%◌, ◌==◌, ℕ, [], get_or, if◌then◌else◌}
use Rattle.lane_eval.specs.Lanes.{bit_test, lane_bit}
use Rattle.lane_eval.proofs.words.put_words.Given as goal

abbrev pub invariant-loop-i : goal.invariant-loop-i
invariant-loop-i l = record {
  done : (u q : ℕ) → u < l.i → q < 512 →
      lane_bit q (get_or l.lanes u []) ≡ (if q / 64 == l.l then bit_test (get_or l.words u 0) (q % 64) else lane_bit q (get_or l.initial.lanes u []));
  left : (u : ℕ) → l.i ≤ u → get_or l.lanes u [] ≡ get_or l.initial.lanes u [];
}
