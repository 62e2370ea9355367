use Rattle.std.proofs.Common.{◌∙◌, ◌≤◌, List, length, sym, subst, slice_set, ℕ}
use Rattle.std.proofs.lemmas.List.{at_drop_all}
use Rattle.hcl_types.specs.declared.table.Row.{Row}
use Rattle.hcl_types.specs.Equations.{evaluated_along}
use Rattle.hcl_types.specs.Tables.{IsOrderOf}
use Rattle.ctl_equations.specs.Controls.{AreControls, control_rule}
use Rattle.ctl_atoms.specs.declared.leaf.Leaf.{Leaf}
use Rattle.control_values.specs.Given.{assigned, at, field_at}
use Rattle.control_values.proofs.Solved.{leaves_solve}
use Rattle.control_values.proofs.filling.control_values.Goals as goal

pub returns-clause-solved : goal.returns-clause-solved
returns-clause-solved c =
    let rows = c.items-rows.result.now in
    let terms = c.args.ordered.now.design.terms in
    let field = field_at c.args.s.now.fields.now c.args.s.now.bits.now in
    let α = assigned c.args.s.now.atoms.now c.args.s.now.first c.args.s.now.bits.now in
    let ids = c.args.ordered.now.order.ids in
    let start = c.in_ok-leaves.leaves.items in
    let leaves = c.loop-id.leaves.items in
    let order = subst (λ (rs : List Row). IsOrderOf rs terms ids) (sym c.items-rows.ensures) c.requires.ordered in
    let past : length ids ≤ c.loop-id.id-index = subst (λ (ns : List ℕ). length ns ≤ c.loop-id.id-index) c.items-id-items.ensures c.loop-id-test.false in
    let end = sym c.loop-id.invariant.1 ∙ at_drop_all (λ (ns : List ℕ). evaluated_along at slice_set (control_rule rows terms field α) leaves ns) ids c.loop-id.id-index past in
    subst (λ (rs : List Row). AreControls rs terms field α (at leaves)) c.items-rows.ensures
    (subst (λ (ls : List Leaf). AreControls rows terms field α (at ls)) end
    (leaves_solve rows terms field α ids order start c.in_ok-leaves.ensures.whole c.in_ok-leaves.ensures.given))
