use Rattle.std.proofs.Common.{◌≡◌, ℕ, [], ◌∷◌, refl, subst, arith}
use Rattle.bdd_decide.specs.Splitting.{AreOwn}
use Rattle.bdd_decide.proofs.Overlaid.{are_forced}
use Rattle.bdd_decide.proofs.least.forced_bits.Goals as goal

pub returns : goal.returns
returns c =
    let n = c.args.net.now in
    let e : c.loop-i.i ≡ n.vars = (let z = c.vars-i-end.ensures in omega (arith, z)) in
    are_forced n c.args.gate (c.args.gate ∷ []) c.in_ok-found.found.items c.loop-i.to.items refl c.in_ok-found.ensures.forced c.loop-i.invariant.found
    (subst (λ (k : ℕ). AreOwn c.in_ok-found.found.items k c.loop-i.to.items) e c.loop-i.invariant.own)
