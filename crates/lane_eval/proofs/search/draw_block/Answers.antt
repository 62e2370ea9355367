use Rattle.std.proofs.Common.{◌≡◌, ◌≢◌, ◌<◌, ◌≤◌, ◌⊎◌, inl, inr, ◌+◌, ◌-◌, ◌*◌, ◌/◌, ◌%◌, ◌^◌, ◌∙◌, ℕ, List, length, ap, arith}
use Rattle.std.proofs.lemmas.Bool.{cases_lt}
use Rattle.pipe_fields.specs.Layout.{bit_count}
use Rattle.y86_base.specs.declared.parts.Variant.{Variant}
use Rattle.prog_gen.specs.Choices.{valuation}
use Rattle.lane_eval.specs.Lanes.{across, along}
use Rattle.lane_eval.proofs.Seeds.{shifted_seed}
use Rattle.lane_eval.proofs.search.draw_block.Goals as goal

-- 64 more places are drawn
block_more : (v : Variant) (atoms seed l : ℕ) (lanes old : List (List ℕ)) (words : List ℕ) → l < 8
    → ((p : ℕ) → p < 64 * l → across p old ≡ valuation v atoms seed p)
    → ((j : ℕ) → j < 64 → along j words ≡ valuation v atoms ((seed + 64 * l) % 2 ^ 64) j)
    → ((q : ℕ) → q < 512 → q / 64 ≡ l → across q lanes ≡ along (q % 64) words)
    → ((q : ℕ) → q < 512 → q / 64 ≢ l → across q lanes ≡ across q old)
    → (p : ℕ) → p < 64 * (l + 1) → across p lanes ≡ valuation v atoms seed p
block_more v atoms seed l lanes old words small earlier drawn put others p h = by (cases_lt p (64 * l))
  where
    by : (p < 64 * l) ⊎ (64 * l ≤ p) → across p lanes ≡ valuation v atoms seed p
    by (inl lt) = others p (omega (arith, small, lt)) (λ e. omega (arith, lt, e)) ∙ earlier p lt
    by (inr le) =
        let word : p / 64 ≡ l = omega (arith, le, h) in
        let place : 64 * l + p % 64 ≡ p = omega (arith, word) in
        put p (omega (arith, small, h)) word
        ∙ (drawn (p % 64) (omega arith) ∙ shifted_seed v atoms seed (64 * l) (p % 64) p place)

pub loop-l-preserved : goal.loop-l-preserved
loop-l-preserved c =
    block_more c.args.v (length c.args.bits.now - bit_count) c.args.seed c.loop-l.l c.put_words.new.lanes c.loop-l.lanes c.draw_words.new.words (omega arith)
    c.loop-l.invariant
    (λ j h. c.draw_words.ensures j h ∙ ap (λ (n : ℕ). valuation c.args.v (n - bit_count) ((c.args.seed + 64 * c.loop-l.l) % 2 ^ 64) j) (omega arith))
    c.put_words.ensures.put c.put_words.ensures.others

pub returns : goal.returns
returns c p h = c.loop-l.invariant p (omega (arith, h))
