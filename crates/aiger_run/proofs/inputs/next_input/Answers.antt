use Rattle.std.proofs.Common.{◌∙◌, ◌%◌, ◌==◌, ◌≤◌, ℕ, ap, sym, arith}
use Rattle.aiger_run.proofs.Vectors.{high_bit}
use Rattle.aiger_run.proofs.inputs.next_input.Goals as goal

pub returns-clause-bit : goal.returns-clause-bit
returns-clause-bit c = λ word e.
    let high : 9 ≤ c.args.k = omega (arith, c.if-k-lt9.false) in
    ap (λ (n : ℕ). n % 2 == 1) c.draw.ensures.number ∙ sym (high_bit word c.args.i c.args.k c.args.draws.now c.draw.new.self high e c.draw.ensures.after)
