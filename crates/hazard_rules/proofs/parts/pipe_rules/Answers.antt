use Rattle.std.proofs.Common.{List, sym, subst}
use Rattle.nets.specs.Nets.{ExtendsNet}
use Rattle.ctl_atoms.specs.declared.leaf.Atom.{Atom}
use Rattle.hazard_rules.specs.Parts.{AreRules, AreRuleGates}
use Rattle.hazard_rules.proofs.Designed.{rules_of}
use Rattle.hazard_rules.proofs.parts.pipe_rules.Goals as goal

pub returns-clause-rules : goal.returns-clause-rules
returns-clause-rules c = λ terms h.
    let new = c.rules_told.new.b in
    let list = c.in_ok-list.list in
    let told = subst (λ (xs : List Atom). AreRuleGates c.args.p.variant c.args.s new c.args.p.ctl xs list.items) c.as_slice.ensures.value c.in_ok-list.ensures.rules in
    let begins = subst (λ net. ExtendsNet net new) c.resume-b.ensures c.rules_told.ensures.extends in
    subst (λ net. AreRules c.args.p.variant terms c.args.s net c.of.result) (sym c.finish.ensures)
    (subst (λ them. AreRules c.args.p.variant terms c.args.s new them) (sym c.of.ensures)
    (rules_of c.args.p.variant terms c.args.s _ _ _ h.names begins c.in_ok-list.ensures.count told))
