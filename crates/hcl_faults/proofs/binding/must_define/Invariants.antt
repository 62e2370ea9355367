use Rattle.std.proofs.Common.{◌≡◌, drop}
use Rattle.hcl_binding.specs.Binding.{row_named}
use Rattle.hcl_faults.specs.BindFaults.{must_define}
use Rattle.hcl_faults.proofs.binding.must_define.Given as goal

abbrev pub invariant-loop-row : goal.invariant-loop-row
invariant-loop-row l = must_define (row_named (drop l.row-index l.rows) l.name) ≡ must_define (row_named l.rows l.name)
