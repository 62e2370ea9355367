use Rattle.std.proofs.Common.{◌≡◌, ◌<◌, ◌+◌, ◌-◌, ℕ, length}
use Rattle.pipe_fields.specs.Layout.{bit_count}
use Rattle.prog_gen.specs.Choices.{valuation}
use Rattle.lane_eval.specs.Lanes.{along}
use Rattle.lane_eval.proofs.search.draw_words.Given as goal

abbrev pub invariant-loop-k : goal.invariant-loop-k
invariant-loop-k l = (j : ℕ) → j < l.k → along (64 - l.k + j) l.words ≡ valuation l.v (length l.fn.bits - bit_count) l.seed j
