-- The refusals of an HCL text that has no design over a table.
use Rattle.std.specs.Prelude.{◌≡◌, ◌⊎◌, ℕ, List, Ok, Err}
use Rattle.hcl_read.specs.Read.{IsFault, ReadsAs}
use Rattle.hcl_read.specs.declared.fault.HclFault.{HclFault}
use Rattle.hcl_tree.specs.declared.tree.File.{File}
use Rattle.hcl_binding.specs.Binding.{bound}
use Rattle.hcl_types.specs.Equations.{needs_of}
use Rattle.hcl_types.specs.Tables.{needs, row_names}
use Rattle.hcl_binding.specs.declared.fault.BindFault.{BindFault}
use Rattle.hcl_types.specs.declared.table.Row.{Row}
use Rattle.hcl_types.specs.declared.term.Term.{Term}
use Rattle.hcl_order.specs.Dependence.{FirstCycle}
use Rattle.cli_plans.specs.Lines.{bind_fault_line, cycle_line, hcl_fault_line, names_at}
use Rattle.cli_plans.specs.Plan.{Answer, refused}

-- the refusal of an HCL text with a fault
abbrev pub RefusesHcl : List ℕ → List ℕ → Answer → Type 0
RefusesHcl name text a = (fault : HclFault) × IsFault text fault × (a ≡ refused 5 (hcl_fault_line name fault))

-- the refusal of a text that can't be bound
pub record RefusesBinding (name : List ℕ) (rows : List Row) (text : List ℕ) (a : Answer) : Type 0 where
  pub file : File
  pub reads : ReadsAs text file
  pub fault : BindFault
  pub binds : bound rows file.items ≡ Err fault
  pub told : a ≡ refused 5 (bind_fault_line name fault)

-- the refusal of a text in which names depend on themselves: the first cycle is reported
pub record RefusesOrder (name : List ℕ) (rows : List Row) (text : List ℕ) (a : Answer) : Type 0 where
  pub file : File
  pub reads : ReadsAs text file
  pub terms : List Term
  pub binds : bound rows file.items ≡ Ok terms
  pub cycle : List ℕ
  pub first : FirstCycle (needs_of (needs rows terms)) cycle
  pub told : a ≡ refused 5 (cycle_line name (names_at (row_names rows) cycle))

abbrev pub RefusesDesign : List ℕ → List Row → List ℕ → Answer → Type 0
RefusesDesign name rows text a = RefusesHcl name text a ⊎ (RefusesBinding name rows text a ⊎ RefusesOrder name rows text a)
