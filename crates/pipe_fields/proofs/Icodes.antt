-- The icode of a line that bits spell is below 16; and properties of the numbers below a bound.
use Rattle.std.proofs.Common.{◌≡◌, ℕ, ◌+◌, ◌-◌, ◌<◌, ◌&&◌, Bool, List, ◌∙◌, ap, arith}
use Rattle.net_fields.proofs.Icodes.{each_next}
use Rattle.net_fields.specs.Icodes.{each_below}
use Rattle.net_fields.proofs.Patterns.{spelt_lt}
use Rattle.pipe_fields.specs.Layout.{fields_of}
use Rattle.pipe_fields.specs.Lines.{icode_in}
use Rattle.pipe_fields.specs.declared.lines.StageLine.{StageLine}
use Rattle.pipe_fields.specs.declared.lines.StageLine.TheVariants.{F, D, E, M, W}

pub icode_below : (line : StageLine) (w : List Bool) → icode_in line (fields_of w) < 16
unfolding fields_of
icode_below F w = spelt_lt w 7 4
icode_below D w = spelt_lt w 21 4
icode_below E w = spelt_lt w 43 4
icode_below M w = spelt_lt w 73 4
icode_below W w = spelt_lt w 95 4

pub each_last : (n : ℕ) (p : ℕ → Bool) → 0 < n → each_below n p ≡ (each_below (n - 1) p && p (n - 1))
each_last n p lt = let e : n ≡ (n - 1) + 1 = omega arith in ap (λ m. each_below m p) e ∙ each_next (n - 1) p
