use Rattle.std.proofs.Common.{◌≡◌, ◌<◌, ◌≤◌, ◌-◌, ℕ, length}
use Rattle.lane_eval.specs.Search.{AllHold, holds_drawn}
use Rattle.lane_eval.proofs.search.first_false.Given as goal

abbrev pub invariant-loop-at : goal.invariant-loop-at
invariant-loop-at l = record {
  within : l.at ≤ l.count;
  bits : l.bits.len ≡ l.r.net.vars;
  words : l.words.len ≡ l.r.net.vars;
  lanes : l.lanes.len ≡ l.r.net.vars;
  made : length l.s ≡ length l.r.net.gates;
  earlier : (i : ℕ) → i < l.at → AllHold (holds_drawn l.r l.seed) l.r.list i;
}

abbrev pub decreases-loop-at : goal.decreases-loop-at
decreases-loop-at l = l.count - l.at
