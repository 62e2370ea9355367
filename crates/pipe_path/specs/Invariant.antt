-- What is true of every pipelined machine.
use Rattle.std.specs.Prelude.{ℕ, ◌≤◌, List}
use Rattle.hcl_types.specs.declared.term.Term.{Term}
use Rattle.hcl_types.specs.Tables.{IsBound, IsOrderOf}
use Rattle.dp_signals.specs.PipeTable.{pipe_rows}

-- the design is bound to PIPE's table, the order is one of this design, and no more records retired than there were
-- cycles
pub record IsPipe (terms : List Term) (order : List ℕ) (cycles retired : ℕ) : Type 0 where
  pub bound : IsBound pipe_rows terms
  pub ordered : IsOrderOf pipe_rows terms order
  pub counted : retired ≤ cycles
