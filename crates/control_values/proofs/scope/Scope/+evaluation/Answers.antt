use Rattle.std.proofs.Common.{◌∙◌, sym, ap, if◌then◌else◌, map, List}
use Rattle.hcl_tree.specs.declared.tree.CmpOp.TheVariants.{Eq}
use Rattle.hcl_types.specs.declared.term.Term.{Term}
use Rattle.hcl_types.specs.Lists.{some}
use Rattle.hcl_types.specs.Terms.{value}
use Rattle.hcl_types.proofs.Values.{value_In}
use Rattle.ctl_atoms.specs.declared.leaf.Leaf.{Leaf}
use Rattle.ctl_atoms.specs.declared.leaf.Leaf.TheVariants.{Number}
use Rattle.ctl_atoms.specs.Leaves.{leaf_cmp, leaf_meaning}
use Rattle.control_values.specs.Given.{at, truths_in}
use Rattle.control_values.proofs.scope.Scope.+evaluation.Goals as goal

pub leaf_of-returns-in-In : goal.leaf_of-returns-in-In
leaf_of-returns-in-In t c =
    let s = c.args.self.now in
    let α = truths_in s in
    let v : Term → Leaf = value (leaf_meaning α) (at s.leaves.now) in
    c.truth_leaf-in-In.ensures ∙ (ap (λ b. Number (if b then 1 else 0))
    (c.some_equals.ensures ∙ (ap (λ l. some (leaf_cmp α Eq l) (map v c.items-in-In.result.now)) (c.leaf_of-left-in-In.ensures ∙ ap v c.get-in-In.ensures)
    ∙ ap (λ (ts : List Term). some (leaf_cmp α Eq (v c.in-In.x)) (map v ts)) c.items-in-In.ensures)) ∙ (sym (value_In (leaf_meaning α) (at s.leaves.now) c.in-In.x c.in-In.all) ∙ ap v (sym c.in-In.is)))
