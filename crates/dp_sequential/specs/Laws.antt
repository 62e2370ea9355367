-- What is true of every sequential datapath.
use Rattle.std.specs.Prelude.{◌≡◌, ℕ, ◌≤◌, List, ◌++◌, length}
use Rattle.y86_base.specs.declared.parts.Variant.{Variant}
use Rattle.hcl_types.specs.declared.table.Row.{Row}
use Rattle.dp_signals.specs.Layout.{IsLaidOut, ReadsInputs}
use Rattle.dp_signals.specs.PipeEquations.{constants}
use Rattle.dp_sequential.specs.Cycle.{block_by, record_by}
use Rattle.dp_sequential.specs.Path.{SequentialPath, machine_at}
use Rattle.dp_signals.specs.declared.sequential_rows.SignalRows.{SignalRows}

pub record IsSequential {S : Type 0} (rows : SignalRows) (path : SequentialPath S) : Type 0 where
  -- the table is laid out, and its hardware reads only the rows that it lists
  pub givens : List Row
  pub units : List Row
  pub defines : List Row
  pub layout : IsLaidOut path.table givens units defines path.hardware path.first
  pub size : length path.table ≡ path.count
  pub front : path.hardware ≤ path.count
  pub within : path.first ≤ path.count
  pub reads : (v : Variant) (s : S) → ReadsInputs units path.hardware path.first (path.block v s)
  -- the given values are the constants, then words of the state
  pub given : (s : S) → path.given s ≡ constants ++ path.words s
  pub given_size : (s : S) → length (path.given s) ≡ path.hardware
  -- hardware works on the machine at the PC of the cycle, and the record has that PC
  pub blocks : (v : Variant) (s : S) (n : ℕ) (f : ℕ → ℕ) → path.block v s n f ≡ block_by rows v (machine_at path s (path.pc s f)) n f
  pub tells : (s : S) (f : ℕ → ℕ) → path.told s f ≡ record_by rows (path.pc s f) (path.flags (path.next s f)) f
  -- a cycle keeps the size of the memory
  pub keeps : (s : S) (f : ℕ → ℕ) → length (path.mem (path.next s f)) ≡ length (path.mem s)
  pub starts : (image : List ℕ) → path.mem (path.start image) ≡ image
