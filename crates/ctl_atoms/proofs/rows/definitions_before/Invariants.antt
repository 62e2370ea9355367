use Rattle.std.proofs.Common.{◌≡◌, ◌+◌, ◌≤◌, drop, take, length}
use Rattle.hcl_types.specs.Tables.{defined}
use Rattle.ctl_atoms.proofs.rows.definitions_before.Given as goal

abbrev pub invariant-loop-row : goal.invariant-loop-row
invariant-loop-row l = (l.count + length (defined (drop l.row-index (take l.id l.rows))) ≡ length (defined (take l.id l.rows))) × (l.count ≤ l.row-index)
