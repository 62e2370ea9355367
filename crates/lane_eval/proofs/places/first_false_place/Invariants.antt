use Rattle.std.proofs.Common.{◌≡◌, ◌<◌, ◌*◌, ℕ, true}
use Rattle.lane_eval.specs.Lanes.{lane_bit}
use Rattle.lane_eval.proofs.places.first_false_place.Given as goal

abbrev pub invariant-loop-l : goal.invariant-loop-l
invariant-loop-l l = record { before : (p : ℕ) → p < 64 * l.l → lane_bit p l.words ≡ true }
