use Rattle.std.proofs.Common.{◌≡◌, ◌<◌, ◌*◌, ◌-◌, ℕ, length}
use Rattle.pipe_fields.specs.Layout.{bit_count}
use Rattle.prog_gen.specs.Choices.{valuation}
use Rattle.lane_eval.specs.Lanes.{across}
use Rattle.lane_eval.proofs.search.draw_block.Given as goal

abbrev pub invariant-loop-l : goal.invariant-loop-l
invariant-loop-l x = (p : ℕ) → p < 64 * x.l → across p x.lanes ≡ valuation x.v (length x.fn.bits - bit_count) x.seed p
