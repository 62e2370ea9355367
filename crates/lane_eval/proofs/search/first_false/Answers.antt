use Rattle.std.proofs.Common.{◌≡◌, ◌+◌, ◌-◌, ◌%◌, ◌^◌, ℕ, ap, arith, refl}
use Rattle.pipe_fields.specs.Layout.{bit_count}
use Rattle.nets.specs.Nets.{truth}
use Rattle.ctl_rules.specs.declared.rules.Rule.{Rule}
use Rattle.ctl_rules.specs.declared.rules.Rules.{Rules}
use Rattle.lane_eval.specs.Search.{holds_drawn}
use Rattle.lane_eval.proofs.Earliest.{at_index, block_some, block_past}
use Rattle.lane_eval.proofs.Seeds.{shifted_seed}
use Rattle.lane_eval.proofs.search.first_false.Goals as goal

-- the rules at the valuations of a block
same : (r : Rules) (seed at i : ℕ) (x : Rule) → holds_drawn r ((seed + at) % 2 ^ 64) i x ≡ holds_drawn r seed (at + i) x
same r seed at i x = ap (truth r.net x.gate) (shifted_seed r.variant (r.net.vars - bit_count) seed at i (at + i) refl)

pub returns-then-found-left : goal.returns-then-found-left
returns-then-found-left c =
    let r : Rules = c.args.r.now in
    let at : ℕ = c.loop-at.at in
    block_some (holds_drawn r c.args.seed) (holds_drawn r ((c.args.seed + at) % 2 ^ 64)) r.list at (same r c.args.seed at) c.loop-at.invariant.earlier
    512 c.args.count c.in-Some.found c.in-Some.ensures.found (omega arith)

pub returns-in-Some : goal.returns-in-Some
returns-in-Some c =
    let r : Rules = c.args.r.now in
    let at : ℕ = c.loop-at.at in
    block_past (holds_drawn r c.args.seed) (holds_drawn r ((c.args.seed + at) % 2 ^ 64)) r.list at (same r c.args.seed at) c.loop-at.invariant.earlier
    512 c.args.count c.in-Some.found c.in-Some.ensures.found (omega arith)

pub returns-then-left-le512 : goal.returns-then-left-le512
returns-then-left-le512 c i h =
    let r : Rules = c.args.r.now in
    let at : ℕ = c.loop-at.at in
    at_index (holds_drawn r c.args.seed) (holds_drawn r ((c.args.seed + at) % 2 ^ 64)) r.list at (same r c.args.seed at) c.loop-at.invariant.earlier
    i 512 c.in-None.ensures.found (omega arith)

pub loop-at-preserved : goal.loop-at-preserved
loop-at-preserved c =
    let r : Rules = c.args.r.now in
    let at : ℕ = c.loop-at.at in
    record {
      within = omega arith;
      bits = c.loop-at.invariant.bits;
      words = c.loop-at.invariant.words;
      lanes = c.loop-at.invariant.lanes;
      made = c.search_block.ensures.has_truth;
      earlier = λ i h.
          at_index (holds_drawn r c.args.seed) (holds_drawn r ((c.args.seed + at) % 2 ^ 64)) r.list at (same r c.args.seed at) c.loop-at.invariant.earlier
          i 512 c.in-None.ensures.found h;
    }
