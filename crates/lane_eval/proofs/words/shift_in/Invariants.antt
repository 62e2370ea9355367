use Rattle.std.proofs.Common.{◌≡◌, ◌<◌, ◌≤◌, ◌+◌, ℕ, false, get_or}
use Rattle.lane_eval.specs.Lanes.{bit_test}
use Rattle.lane_eval.proofs.words.shift_in.Given as goal

abbrev pub invariant-loop-i : goal.invariant-loop-i
invariant-loop-i l = record {
  last : (u : ℕ) → u < l.i → bit_test (get_or l.words u 0) 63 ≡ get_or l.truths u false;
  others : (u j : ℕ) → u < l.i → j < 63 → bit_test (get_or l.words u 0) j ≡ bit_test (get_or l.initial.words u 0) (j + 1);
  left : (u : ℕ) → l.i ≤ u → get_or l.words u 0 ≡ get_or l.initial.words u 0;
}
