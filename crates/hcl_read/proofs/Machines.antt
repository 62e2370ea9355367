-- Definitions of the machine, case by case.
use Rattle.std.proofs.Common.{◌≡◌, ℕ, suc, ◌+◌, ◌-◌, ◌<◌, refl, sym, ap, ◌∙◌, arith}
use Rattle.hcl_tree.specs.declared.tree.Expr.{Expr}
use Rattle.hcl_tree.specs.declared.tree.Expr.TheVariants as expr
use Rattle.hcl_read.specs.Machine.{negate}

pub none_negated : (nots i : ℕ) (e : Expr) → nots ≡ i → negate (nots - i) e ≡ e
unfolding negate
none_negated nots i e h = let z : nots - i ≡ 0 = omega arith in rw z refl

pub once_more : (nots i : ℕ) (e all boxed : Expr) → i < nots → boxed ≡ all → negate (nots - i) all ≡ negate nots e →
    negate (nots - (i + 1)) (expr.Not boxed) ≡ negate nots e
unfolding negate
once_more nots i e all boxed lt b h =
    let s : nots - i ≡ suc (nots - (i + 1)) = omega arith in
    ap (λ x. negate (nots - (i + 1)) (expr.Not x)) b ∙ sym (ap (λ n. negate n all) s) ∙ h
