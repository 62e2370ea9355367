use Rattle.std.proofs.Common.{◌≡◌, List, ℕ, length, map, get_or, arith, subst, ◌∙◌}
use Rattle.nets.specs.declared.copies.Replacement.TheVariants as source
use Rattle.bdd_core.specs.Meaning.{IsBuilt}
use Rattle.cert_writer.proofs.DrawnGates.{drawn_all, drawn_more, drawn_none}
use Rattle.cert_writer.proofs.drawing.draw.Goals as goal

pub loop-i-init : goal.loop-i-init
loop-i-init c =
    let vars : c.in_ok-copy.copy.net.vars ≡ c.bounded-store.result.vars = (let copied = c.in_ok-copy.ensures.vars in let new = c.bounded-store.ensures.vars in omega (arith, copied, new)) in
    drawn_none c.in_ok-copy.copy.net c.in_ok-copy.copy.gates c.bounded-store.result c.in_ok-built.built c.new-dias.result.items vars (c.in_ok-built.ensures c.bounded-store.result) c.new-dias.ensures.items

pub loop-i-preserved : goal.loop-i-preserved
loop-i-preserved c =
    let built : IsBuilt c.build_on.new.self c.in_ok-copy.copy.net (get_or c.in_ok-copy.copy.gates c.loop-i.i 0) c.in_ok-d.d =
    subst (λ (xs : List ℕ). IsBuilt c.build_on.new.self c.in_ok-copy.copy.net (get_or xs c.loop-i.i 0) c.in_ok-d.d) c.items.ensures c.in_ok-d.ensures.built in
    drawn_more c.in_ok-copy.copy.net c.in_ok-copy.copy.gates c.loop-i.store c.build_on.new.self c.loop-i.built c.build_on.new.built c.loop-i.dias.items c.push.new.list.items c.loop-i.i c.in_ok-d.d
    c.loop-i.invariant c.build_on.ensures.stay c.build_on.ensures.known built c.in_ok-push.ensures

pub returns : goal.returns
returns c =
    let inv = c.loop-i.invariant.vars in
    let copied = c.in_ok-copy.ensures.vars in
    let vars : c.loop-i.store.vars ≡ length c.args.order.now = omega (arith, inv, copied, c.vars-vars.ensures, c.requires.vars) in
    let to : c.as_slice.result.now ≡ map source.Var c.args.ranks.now = c.as_slice.ensures.value ∙ c.in_ok-to.ensures in
    let at : c.loop-i.i ≡ length c.args.n.now.gates = omega (arith, c.loop-i-test.false, c.loop-i.auto.i-end, c.len-i-end.ensures) in
    drawn_all c.args.n.now c.in_ok-copy.copy.net c.args.order.now c.args.ranks.now c.as_slice.result.now c.in_ok-copy.copy.gates c.loop-i.store c.loop-i.built c.loop-i.dias.items c.loop-i.i
    c.requires.order vars to c.in_ok-copy.ensures.size c.in_ok-copy.ensures.copies at c.loop-i.invariant
