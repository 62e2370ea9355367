use Rattle.std.proofs.Common.{◌≡◌, drop, is_some}
use Rattle.hcl_binding.specs.Binding.{definition}
use Rattle.hcl_faults.proofs.binding.is_defined_by.Given as goal

abbrev pub invariant-loop-item : goal.invariant-loop-item
invariant-loop-item l = is_some (definition (drop l.item-index l.items) l.name) ≡ is_some (definition l.items l.name)
