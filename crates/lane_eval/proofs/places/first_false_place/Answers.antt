use Rattle.std.proofs.Common.{◌≡◌, ◌⊎◌, inl, inr, ℕ, ◌+◌, ◌*◌, ◌<◌, ◌≤◌, ◌^◌, true, get_or, refl, ap, ◌∙◌, arith}
use Rattle.std.proofs.lemmas.Bool.{cases_lt}
use Rattle.std.specs.Int.{trailing_ones}
use Rattle.lane_eval.specs.Lanes.{lane_bit}
use Rattle.lane_eval.proofs.Written.{full_word, ones_of, end_of_ones}
use Rattle.lane_eval.proofs.places.first_false_place.Goals as goal

pub returns-then-word-clause-before : goal.returns-then-word-clause-before
returns-then-word-clause-before c p h = by (cases_lt p (64 * c.loop-l.l))
  where
    word : ℕ
    word = get_or c.args.vector c.loop-l.l 0

    less : word + 1 < 2 ^ 64
    less = let f = c.loop-l-test.element_fits.fits in let other = c.if-word.true in omega (arith, f, other)

    by : (p < 64 * c.loop-l.l) ⊎ (64 * c.loop-l.l ≤ p) → lane_bit p c.args.vector ≡ true
    by (inl low) = c.loop-l.invariant.before p low
    by (inr high) = ones_of c.args.vector c.loop-l.l word p refl less high (omega (arith, h, c.from.ensures, c.trailing_ones.ensures))

pub returns-then-word-clause-there : goal.returns-then-word-clause-there
returns-then-word-clause-there c h =
    let less : get_or c.args.vector c.loop-l.l 0 + 1 < 2 ^ 64 = let f = c.loop-l-test.element_fits.fits in let other = c.if-word.true in omega (arith, f, other) in
    ap (λ (k : ℕ). lane_bit (64 * c.loop-l.l + k) c.args.vector) (c.from.ensures ∙ c.trailing_ones.ensures)
    ∙ end_of_ones c.args.vector c.loop-l.l (get_or c.args.vector c.loop-l.l 0) refl less

pub loop-l-preserved : goal.loop-l-preserved
loop-l-preserved c = record { before = λ p h. by p h (cases_lt p (64 * c.loop-l.l)) }
  where
    by : (p : ℕ) → p < 64 * (c.loop-l.l + 1) → (p < 64 * c.loop-l.l) ⊎ (64 * c.loop-l.l ≤ p) → lane_bit p c.args.vector ≡ true
    by p h (inl low) = c.loop-l.invariant.before p low
    by p h (inr high) = full_word c.args.vector c.loop-l.l p c.if-word.false (omega (arith, h, high))
