use Rattle.std.proofs.Common.{◌≡◌, ℕ, ◌+◌, ◌-◌, ◌∙◌, sym, ap, arith}
use Rattle.prog_gen.specs.Choices.{with_field}
use Rattle.prog_gen.proofs.Fields.{field_step, field_none}
use Rattle.prog_gen.proofs.valuations.put_bits.Goals as goal

pub loop-k-preserved : goal.loop-k-preserved
loop-k-preserved c =
    let k : ℕ = c.loop-k.k - 1 in
    let e : k + 1 ≡ c.loop-k.k = omega arith in
    record {
      within = omega arith;
      rest = field_step c.loop-k.out c.args.first k c.loop-k.left (omega arith)
          ∙ (ap (λ (m : ℕ). with_field c.loop-k.out c.args.first m c.loop-k.left) e ∙ c.loop-k.invariant.rest);
    }

pub returns : goal.returns
returns c =
    let e : c.loop-k.k ≡ 0 = omega arith in
    sym (field_none c.loop-k.out c.args.first c.loop-k.left)
    ∙ (ap (λ (m : ℕ). with_field c.loop-k.out c.args.first m c.loop-k.left) (sym e) ∙ c.loop-k.invariant.rest)
