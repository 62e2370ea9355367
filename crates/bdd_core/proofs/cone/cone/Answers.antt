use Rattle.std.proofs.Common.{rules, arith, ◌≡◌, ◌-◌, List, Bool, true, false, length, drop, get_or, subst, sym}
use Rattle.std.proofs.lemmas.List.{take_at}
use Rattle.bdd_core.proofs.Gates.{IsConeFrom, cone_more}
use Rattle.bdd_core.proofs.cone.cone.Goals as goal

pub loop-i-preserved : goal.loop-i-preserved
loop-i-preserved c =
    let old : List Bool = c.loop-i.needed.items in
    let new : List Bool = c.mark.new.needed in
    let size : length new ≡ c.loop-i.needed.len = search rules in
    let lengths : length new ≡ length c.as_mut_slice.result.now = search rules in
    let back = sym (take_at new (drop (length new) old) c.loop-i.needed.len size) in
    let was : ◌≡◌ {A = List Bool} old c.as_mut_slice.result.now = sym c.as_mut_slice.ensures.value in
    record {
      within = omega arith;
      root = subst (λ (xs : List Bool). get_or xs c.args.gate false ≡ true) back
          (c.mark.ensures.stays c.args.gate (subst (λ (xs : List Bool). get_or xs c.args.gate false ≡ true) was c.loop-i.invariant.root));
      cone = subst (λ (xs : List Bool). IsConeFrom c.args.n.now xs (c.loop-i.i - 1)) back
          (cone_more (subst (λ (xs : List Bool). IsConeFrom c.args.n.now xs c.loop-i.i) was c.loop-i.invariant.cone) (omega arith) lengths c.mark.ensures.later c.mark.ensures.stays c.mark.ensures.reads);
    }
