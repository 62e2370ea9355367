use Rattle.std.proofs.Common.{◌≡◌, drop, length, slice_set}
use Rattle.hcl_types.specs.Equations.{evaluated_along}
use Rattle.ctl_atoms.specs.Rows.{leaf_rule, leaves_at}
use Rattle.ctl_atoms.proofs.rows.leaves_by_name.Given as goal

abbrev pub invariant-loop-id : goal.invariant-loop-id
invariant-loop-id l = (length l.lists.items ≡ length l.initial.lists.items)
    × (evaluated_along leaves_at slice_set (leaf_rule l.rows l.ordered.design.terms) l.lists.items (drop l.id-index l.ordered.order.ids) ≡ evaluated_along leaves_at slice_set (leaf_rule l.rows l.ordered.design.terms) l.initial.lists.items l.ordered.order.ids)
