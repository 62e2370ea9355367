use Rattle.std.proofs.Common.{◌≡◌, List, ℕ, subst, sym}
use Rattle.bdd_core.specs.Building.{AreKnown, IsMadeOf, KnownGates, ReadsMarked}
use Rattle.bdd_core.proofs.Knowing.{known_more}
use Rattle.bdd_core.proofs.store.Store.add_to.Goals as goal

pub returns-clause-known : goal.returns-clause-known
returns-clause-known c =
    let k : KnownGates = record { known = c.built.inside.known.items; made = c.built.inside.made.items } in
    let same : c.args.built.now ≡ k = sym c.built.view_is in
    let known : AreKnown c.args.self.now c.args.n.now k = subst (AreKnown c.args.self.now c.args.n.now) same c.requires.known in
    let reads : ReadsMarked k.known c.gate.result = subst (λ (x : KnownGates). ReadsMarked x.known c.gate.result) same (c.requires.reads c.gate.result c.gate.ensures.is c.gate.ensures.earlier) in
    let made : IsMadeOf c.args.self.now c.add_gate.new.self k.made c.gate.result c.in_ok-d.d =
    subst (λ (xs : List ℕ). IsMadeOf c.args.self.now c.add_gate.new.self xs c.gate.result c.in_ok-d.d) c.as_slice.ensures.value c.in_ok-d.ensures.has_truth in
    known_more {k = k} c.vars.ensures.reduced_after c.add_gate.ensures.kept known c.requires.inside reads c.gate.ensures.meaning made
