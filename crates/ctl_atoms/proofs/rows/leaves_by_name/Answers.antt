use Rattle.std.proofs.Common.{◌∙◌, ◌<◌, ◌≤◌, List, ap, get_or, length, sym, subst, slice_set, ℕ}
use Rattle.std.proofs.lemmas.List.{at_drop_all, length-set}
use Rattle.hcl_types.specs.declared.term.Term.{Term}
use Rattle.hcl_types.specs.declared.table.Row.{Row}
use Rattle.hcl_types.specs.Equations.{IsSolution, evaluated_along}
use Rattle.hcl_types.specs.Tables.{IsOrderOf}
use Rattle.ctl_atoms.specs.declared.leaf.Leaf.{Leaf}
use Rattle.ctl_atoms.specs.Rows.{leaf_rule, leaves_at}
use Rattle.ctl_atoms.proofs.Solved.{lists_solve, one_filled}
use Rattle.ctl_atoms.proofs.rows.leaves_by_name.Goals as goal

pub loop-id-preserved : goal.loop-id-preserved
loop-id-preserved c =
    let rows = c.items-rows.result.now in
    let terms = c.args.ordered.now.design.terms in
    let items = c.items-id-items.result.now in
    let i = c.loop-id.id-index in
    let lists = c.loop-id.lists.items in
    let inside : i < length c.args.ordered.now.order.ids = subst (λ (ns : List ℕ). i < length ns) c.items-id-items.ensures c.loop-id-test.true in
    let here = c.of.ensures ∙ (c.in_ok-leaves.ensures ∙ (ap (λ (ts : List Term). leaf_rule rows ts (get_or items i 0) (leaves_at c.as_slice.result.now)) c.items.ensures
    ∙ ap (λ (ls : List (List Leaf)). leaf_rule rows terms (get_or items i 0) (leaves_at ls)) c.as_slice.ensures.value)) in (
      length-set lists (get_or items i 0) c.of.result ∙ c.loop-id.invariant.0,
      one_filled rows terms lists c.args.ordered.now.order.ids items i c.of.result c.items-id-items.ensures inside here ∙ c.loop-id.invariant.1,
    )

pub returns-clause-solved : goal.returns-clause-solved
returns-clause-solved c =
    let rows = c.items-rows.result.now in
    let terms = c.args.ordered.now.design.terms in
    let ids = c.args.ordered.now.order.ids in
    let start = c.in_ok-lists.lists.items in
    let lists = c.loop-id.lists.items in
    let order = subst (λ (rs : List Row). IsOrderOf rs terms ids) (sym c.items-rows.ensures) c.requires.ordered in
    let past : length ids ≤ c.loop-id.id-index = subst (λ (ns : List ℕ). length ns ≤ c.loop-id.id-index) c.items-id-items.ensures c.loop-id-test.false in
    let end = sym c.loop-id.invariant.1 ∙ at_drop_all (λ (ns : List ℕ). evaluated_along leaves_at slice_set (leaf_rule rows terms) lists ns) ids c.loop-id.id-index past in
    subst (λ (rs : List Row). IsSolution (leaf_rule rs terms) (leaves_at lists)) c.items-rows.ensures
    (subst (λ (ls : List (List Leaf)). IsSolution (leaf_rule rows terms) (leaves_at ls)) end
    (lists_solve rows terms ids order start c.in_ok-lists.ensures.whole c.in_ok-lists.ensures.given))
