-- Which faults of a file are reported.
use Rattle.std.specs.Prelude.{ℕ, ◌≡◌, ◌↔◌, true, List, [], Option, Some, None, Result, Ok, Err}
use Rattle.std.specs.List.{Contains}
use Rattle.hcl_design.specs.Designs.{HasDesign}
use Rattle.hcl_types.specs.declared.table.Datapath.{Datapath}
use Rattle.hcl_types.specs.declared.table.Datapath.TheVariants.{Seq, SeqPlus, Pipe}
use Rattle.hcl_types.specs.declared.table.Row.{Row}
use Rattle.yas_asm.specs.declared.fault.AsmFault.{AsmFault}
use Rattle.yas_asm.specs.declared.listing.Line.{Line}
use Rattle.yo_object.specs.declared.object.YoFault.{YoFault}
use Rattle.fault_report.specs.ObjectBytes.{puts_bytes}
use Rattle.fault_report.specs.declared.facts.Fault.{Fault}
use Rattle.fault_report.specs.declared.facts.Report.{Report}
use Rattle.fault_report.specs.declared.facts.Tables.{Tables}

-- one of the faults is on this line
pub record IsTold (line : ℕ) (faults : List Fault) : Type 0 where
  pub fault : Fault
  pub there : Contains faults fault
  pub place : fault.line ≡ line

-- no fault if the source is accepted; otherwise the line for which the assembler refuses it is among the reported lines
abbrev pub Reports : Result (List Line) AsmFault → List Fault → Type 0
Reports (Ok lines) faults = faults ≡ []
Reports (Err first) faults = IsTold first.line faults

-- if an object text is refused, the line for which it is refused is among the reported lines; an accepted one has no
-- fault exactly if it puts a byte
abbrev pub ReportsObject : List ℕ → Result (List ℕ) YoFault → List Fault → Type 0
ReportsObject text (Ok image) faults = (faults ≡ []) ↔ (puts_bytes text ≡ true)
ReportsObject text (Err first) faults = IsTold first.line faults

-- the table of a datapath
abbrev pub rows_in : Tables → Datapath → List Row
rows_in tables Seq = tables.seq.rows
rows_in tables SeqPlus = tables.seq_plus.rows
rows_in tables Pipe = tables.pipe.rows

-- the datapath that is asked for; any if none is
abbrev pub IsWanted : Option Datapath → Datapath → Type 0
IsWanted None path = Unit {0}
IsWanted (Some asked) path = path ≡ asked

-- the HCL text is a design for the datapath that is asked for, and the report names this datapath
pub record IsFaultless (tables : Tables) (asked : Option Datapath) (text : List ℕ) (named : Option Datapath) : Type 0 where
  pub path : Datapath
  pub wanted : IsWanted asked path
  pub same : named ≡ Some path
  pub design : HasDesign (rows_in tables path) text

-- an HCL text has no reported fault exactly if it is a design for the datapath that is asked for, or for some datapath
-- if none is
pub record ReportsHcl (tables : Tables) (asked : Option Datapath) (text : List ℕ) (report : Report) : Type 0 where
  pub faultless : report.faults ≡ [] → IsFaultless tables asked text report.datapath
  pub accepted : (path : Datapath) → IsWanted asked path → HasDesign (rows_in tables path) text → report.faults ≡ []
