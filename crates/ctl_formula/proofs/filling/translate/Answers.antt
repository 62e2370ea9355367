use Rattle.std.proofs.Common.{◌≡◌, ◌-◌, List, length, sym, subst}
use Rattle.hcl_types.specs.declared.term.Term.{Term}
use Rattle.hcl_types.specs.declared.table.Row.{Row}
use Rattle.ctl_atoms.specs.declared.leaf.Atom.{Atom}
use Rattle.ctl_atoms.specs.Atoms.{AreAtoms}
use Rattle.ctl_atoms.specs.Leaves.{AtomsAre}
use Rattle.ctl_equations.specs.Controls.{AreControls}
use Rattle.ctl_formula.proofs.OneByOne.{one_list}
use Rattle.ctl_formula.proofs.filling.translate.Goals as goal

pub returns-in-Ok-controls-clause-encodes : goal.returns-in-Ok-controls-clause-encodes
returns-in-Ok-controls-clause-encodes c = λ w α field cv asks are atoms s controls.
    let rows = c.args.t.now.rows in
    let terms = c.args.ordered.now.design.terms in
    let found = c.as_slice-atoms.result.now in
    let found_are = subst (λ (xs : List Atom). AreAtoms rows terms xs) (sym c.as_slice-atoms.ensures.value) c.in-Ok.ensures in
    let same : asks ≡ found = one_list rows terms c.args.ordered.now.order.ids c.requires.ordered asks found are found_are in
    let there = subst (λ (xs : List Atom). AtomsAre xs (c.args.b.now.vars - length xs) w α) same atoms in
    c.in-Ok-controls.ensures.encodes w α field cv (subst (λ k. AtomsAre found (k - length found) w α) (sym c.vars.ensures) there) s
    (subst (λ (rs : List Row). AreControls rs c.items-in-Ok.result.now field α cv) (sym c.items.ensures) (subst (λ (ts : List Term). AreControls rows ts field α cv) (sym c.items-in-Ok.ensures) controls))
