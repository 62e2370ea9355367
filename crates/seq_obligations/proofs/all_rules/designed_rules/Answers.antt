use Rattle.std.proofs.Common.{◌≡◌, ℕ, ◌+◌, ◌≤◌, ◌||◌, not, Bool, List, length, sym, ap, subst, arith}
use Rattle.hcl_types.specs.Tables.{IsSound}
use Rattle.ctl_atoms.specs.Atoms.{AreAtoms}
use Rattle.ctl_atoms.specs.Leaves.{Assignment}
use Rattle.ctl_atoms.specs.declared.leaf.Leaf.{Leaf}
use Rattle.ctl_atoms.proofs.Solved.{atoms_one}
use Rattle.ctl_picks.specs.Picks.{Covers}
use Rattle.ctl_given.specs.Places.{HavePlaces}
use Rattle.seq_obligations.specs.Rules.{AreDesignedRules}
use Rattle.seq_obligations.proofs.Ruled.{designed}
use Rattle.seq_obligations.proofs.all_rules.designed_rules.Goals as goal

pub atoms-requires-clause-sound : goal.atoms-requires-clause-sound
atoms-requires-clause-sound g c = subst IsSound (sym c.in-Ok.ensures) g.met.N.RuleFamily.sound

pub translate-requires-clause-sound : goal.translate-requires-clause-sound
translate-requires-clause-sound g c = subst IsSound (sym c.in-Ok.ensures) g.met.N.RuleFamily.sound

pub translate-requires-clause-places : goal.translate-requires-clause-places
translate-requires-clause-places g c =
    let le : g.N.RuleFamily.bits ≤ c.new-b.result.vars = omega (arith, c.bit_count.ensures.size, c.new-b.ensures.vars) in
    subst (λ rows. HavePlaces rows c.field_places.result.now c.new-b.result.vars) (sym c.in-Ok.ensures)
    (subst (λ ps. HavePlaces g.N.RuleFamily.rows ps c.new-b.result.vars) (sym c.field_places.ensures) (g.met.N.RuleFamily.placed c.new-b.result.vars le))

pub translate-requires-clause-vars : goal.translate-requires-clause-vars
translate-requires-clause-vars g c = λ listed are.
    let at = subst (λ rows. AreAtoms rows c.args.ordered.now.design.terms listed) c.in-Ok.ensures are in
    let own = subst (λ rows. AreAtoms rows c.args.ordered.now.design.terms c.in_ok-listed.listed.items) c.in-Ok.ensures c.in_ok-listed.ensures in
    let e = ap length (atoms_one g.N.RuleFamily.rows c.args.ordered.now.design.terms c.args.ordered.now.order.ids listed c.in_ok-listed.listed.items c.requires.ordered at own) in
    omega (arith, e, c.len.ensures, c.new-b.ensures.vars)

pub numbered_rules-requires-clause-known : goal.numbered_rules-requires-clause-known
numbered_rules-requires-clause-known g c =
    let le : g.N.RuleFamily.bits ≤ c.translate.new.b.vars = omega (arith, c.bit_count.ensures.size, c.new-b.ensures.vars, c.translate.ensures.extends.vars) in
    g.met.N.RuleFamily.ready c.args.rules.now c.translate.new.b.vars c.in_ok-ctl.ctl le (subst (λ rows. Covers rows c.in_ok-ctl.ctl) c.in-Ok.ensures c.in_ok-ctl.ensures.covers)

pub returns-clause-rules : goal.returns-clause-rules
returns-clause-rules g c =
    let f : ℕ → List Bool → Assignment → (ℕ → Leaf) → Bool = λ i w α cv. not (g.N.RuleFamily.may c.args.rules.now w α cv) || g.N.RuleFamily.asks c.args.rules.now i w α cv in
    let size : c.new-b.result.vars ≡ g.N.RuleFamily.bits + length c.in_ok-listed.listed.items = omega (arith, c.bit_count.ensures.size, c.len.ensures, c.new-b.ensures.vars) in
    subst (λ net. AreDesignedRules g.N.RuleFamily.rows g.N.RuleFamily.field g.N.RuleFamily.bits f c.args.ordered.now.design.terms net c.of.result) (sym c.finish.ensures)
    (subst (λ list. AreDesignedRules g.N.RuleFamily.rows g.N.RuleFamily.field g.N.RuleFamily.bits f c.args.ordered.now.design.terms c.numbered_rules.new.b list) (sym c.of.ensures)
    (designed g.N.RuleFamily.rows c.in-Ok.table.rows g.N.RuleFamily.places c.field_places.result.now g.N.RuleFamily.field g.N.RuleFamily.bits f c.args.ordered.now.design.terms c.in_ok-ctl.ctl
    c.in_ok-listed.listed.items c.in-Ok-numbered_rules.list.items c.new-b.result.vars
    c.in-Ok.ensures c.field_places.ensures g.met.N.RuleFamily.spelt c.in_ok-listed.ensures size c.translate.ensures.extends.vars c.in_ok-ctl.ensures.inside c.in_ok-ctl.ensures.encodes
    c.numbered_rules.ensures.extends c.in-Ok-numbered_rules.ensures.count c.in-Ok-numbered_rules.ensures.rules))

pub returns-clause-atoms : goal.returns-clause-atoms
returns-clause-atoms g c =
    subst (AreAtoms g.N.RuleFamily.rows c.args.ordered.now.design.terms) (sym c.of-in-Ok-numbered_rules.ensures)
    (subst (λ rows. AreAtoms rows c.args.ordered.now.design.terms c.in_ok-listed.listed.items) c.in-Ok.ensures c.in_ok-listed.ensures)
