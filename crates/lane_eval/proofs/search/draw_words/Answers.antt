use Rattle.std.proofs.Common.{◌≡◌, ◌<◌, ◌≤◌, ◌⊎◌, inl, inr, ◌+◌, ◌-◌, ◌%◌, ◌^◌, ◌∙◌, ℕ, List, Bool, length, sym, ap, arith}
use Rattle.std.proofs.lemmas.Bool.{cases_lt}
use Rattle.pipe_fields.specs.Layout.{bit_count}
use Rattle.prog_gen.specs.Choices.{valuation, valuation_from}
use Rattle.lane_eval.specs.Lanes.{along}
use Rattle.lane_eval.proofs.search.draw_words.Goals as goal

-- one more place is drawn
drawn_more : (k seed : ℕ) (drawn : ℕ → List Bool) (words old : List ℕ) → k < 64
    → ((j : ℕ) → j < k → along (64 - k + j) old ≡ drawn j)
    → ((j : ℕ) → j < 63 → along j words ≡ along (j + 1) old)
    → along 63 words ≡ drawn k
    → (j : ℕ) → j < k + 1 → along (64 - (k + 1) + j) words ≡ drawn j
drawn_more k seed drawn words old small earlier shifted last j h = by (cases_lt j k)
  where
    by : (j < k) ⊎ (k ≤ j) → along (64 - (k + 1) + j) words ≡ drawn j
    by (inl lt) =
        let place : 64 - (k + 1) + j + 1 ≡ 64 - k + j = omega (arith, small, lt) in
        shifted (64 - (k + 1) + j) (omega (arith, small, lt)) ∙ (ap (λ (i : ℕ). along i old) place ∙ earlier j lt)
    by (inr le) =
        let e : j ≡ k = omega (arith, h, le) in
        let place : 64 - (k + 1) + j ≡ 63 = omega (arith, small, e) in
        ap (λ (i : ℕ). along i words) place ∙ (last ∙ ap drawn (sym e))

pub loop-k-preserved : goal.loop-k-preserved
loop-k-preserved c =
    drawn_more c.loop-k.k c.args.seed (valuation c.args.v (length c.args.bits.now - bit_count) c.args.seed) c.shift_in.new.words c.loop-k.words (omega arith)
    c.loop-k.invariant c.shift_in.ensures.others
    (c.shift_in.ensures.last
    ∙ (c.draw_valuation.ensures ∙ ap (λ (n : ℕ). valuation_from c.args.v (n - bit_count) ((c.args.seed + c.loop-k.k) % 2 ^ 64)) (omega arith)))

pub returns : goal.returns
returns c j h =
    let e : c.loop-k.k ≡ 64 = omega arith in
    ap (λ (i : ℕ). along i c.loop-k.words) (omega (arith, e)) ∙ c.loop-k.invariant j (omega (arith, e, h))
