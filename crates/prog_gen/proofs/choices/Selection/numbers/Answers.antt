use Rattle.std.proofs.Common.{◌≡◌, ℕ, ◌++◌, ◌∷◌, [], ◌∙◌, sym, ap, arith, length, List, Bool}
use Rattle.std.proofs.Math.Nat.{pow-le-pow_right}
use Rattle.std.proofs.lemmas.List.{length_push}
use Rattle.prog_gen.specs.Spans.{is_selected}
use Rattle.prog_gen.proofs.Chosen.{passes_more, passes_same}
use Rattle.prog_gen.proofs.choices.Selection.numbers.Goals.{then-allows, else-allows}
use Rattle.prog_gen.proofs.choices.Selection.numbers.Goals as goal

pub loop-n-init : goal.loop-n-init
loop-n-init c = record {
  some = c.new-some.ensures;
  few = omega (arith, ap length c.new-some.ensures);
  most = omega (arith, c.requires, pow-le-pow_right {n = 2} (omega arith) {i = c.args.bits} {j = 4} c.requires);
}

pub loop-n-preserved : goal.loop-n-preserved
loop-n-preserved c =
    let p : ℕ → Bool = is_selected c.args.self in
    let n : ℕ = c.loop-n.n in
    elim c.if-allows.branch [
      | then-allows w ↦
          let is : c.if-allows.some.items ≡ c.loop-n.some.items ++ n ∷ [] = ap (λ v. v.items) w.some-is ∙ w.push.ensures.items in
          record {
            some = is ∙ (ap (λ (xs : List ℕ). xs ++ n ∷ []) c.loop-n.invariant.some ∙ sym (passes_more p n (sym c.allows.ensures ∙ w.if-allows.true)));
            few = omega (arith, ap length is, length_push c.loop-n.some.items n, c.loop-n.invariant.few);
            most = c.loop-n.invariant.most;
          }
      | else-allows w ↦
          let is : c.if-allows.some.items ≡ c.loop-n.some.items = ap (λ v. v.items) w.some-is in
          record {
            some = is ∙ (c.loop-n.invariant.some ∙ sym (passes_same p n (sym c.allows.ensures ∙ w.if-allows.false)));
            few = omega (arith, ap length is, c.loop-n.invariant.few);
            most = c.loop-n.invariant.most;
          }
    ]
