use Rattle.std.proofs.Common.{◌≡◌, drop, length, slice_set}
use Rattle.hcl_types.specs.Equations.{evaluated_along}
use Rattle.ctl_equations.specs.Controls.{control_rule}
use Rattle.control_values.specs.Given.{assigned, at, field_at}
use Rattle.control_values.proofs.filling.control_values.Given as goal

abbrev pub invariant-loop-id : goal.invariant-loop-id
invariant-loop-id l =
    let rule = control_rule l.rows l.ordered.design.terms (field_at l.s.fields.now l.s.bits.now) (assigned l.s.atoms.now l.s.first l.s.bits.now) in
    (length l.leaves.items ≡ length l.initial.leaves.items)
    × (evaluated_along at slice_set rule l.leaves.items (drop l.id-index l.ordered.order.ids) ≡ evaluated_along at slice_set rule l.initial.leaves.items l.ordered.order.ids)
