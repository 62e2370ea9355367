use Rattle.std.proofs.Common.{◌≡◌, ℕ, suc, ◌-◌, false, get_or, sym, ap, ◌∙◌, arith}
use Rattle.net_fields.specs.Spelling.{spell}
use Rattle.bdd_decide.proofs.Bits.{bit_before, bit_last}
use Rattle.bdd_decide.proofs.subproblems.bit_of.Goals as goal

pub loop-left-preserved : goal.loop-left-preserved
loop-left-preserved c =
    let left = c.loop-left.left in
    let more = c.loop-left-test.true in
    let e : suc (left - 1) ≡ left = omega (arith, more) in
    record {
      within = omega (arith, more);
      same =
          sym (bit_before (left - 1) c.loop-left.rest c.args.i (omega (arith, more)))
          ∙ (ap (λ (k : ℕ). get_or (spell k c.loop-left.rest) c.args.i false) e ∙ c.loop-left.invariant.same);
    }

pub returns : goal.returns
returns c =
    let within = c.loop-left.invariant.within in
    let e : suc c.args.i ≡ c.loop-left.left = omega (arith, within, c.loop-left-test.false) in
    sym (bit_last c.args.i c.loop-left.rest) ∙ (ap (λ (k : ℕ). get_or (spell k c.loop-left.rest) c.args.i false) e ∙ c.loop-left.invariant.same)
