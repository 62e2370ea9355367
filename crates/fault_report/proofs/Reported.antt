-- What a report on an HCL text says, from its parts.
use Rattle.std.proofs.Common.{◌≡◌, ◌≢◌, ◌↔◌, ℕ, List, [], Option, Some, refl}
use Rattle.fault_report.specs.Told.{IsWanted, ReportsHcl, rows_in}
use Rattle.fault_report.specs.declared.facts.Fault.{Fault}
use Rattle.fault_report.specs.declared.facts.Report.{Report}
use Rattle.fault_report.specs.declared.facts.Tables.{Tables}
use Rattle.hcl_design.proofs.Faults.{none_if_unread}
use Rattle.hcl_design.specs.Designs.{HasDesign}
use Rattle.hcl_faults.specs.Stops.{IsStopped}
use Rattle.hcl_faults.specs.declared.stop.Stopped.{Stopped}
use Rattle.hcl_types.specs.declared.table.Datapath.{Datapath}

-- the report for a datapath that fits if any does
pub reports : (t : Tables) (asked : Option Datapath) (text : List ℕ) (path : Datapath) (faults : List Fault) → IsWanted asked path →
    ((other : Datapath) → IsWanted asked other → HasDesign (rows_in t other) text → HasDesign (rows_in t path) text) → (faults ≡ []) ↔ HasDesign (rows_in t path) text →
    ReportsHcl t asked text (record { datapath = Some path; faults = faults })
reports t asked text path faults wanted fits exact = record {
  faultless = λ none. record { path = path; wanted = wanted; same = refl; design = exact.0 none };
  accepted = λ other is design. exact.1 (fits other is design);
}

-- the report on a text that isn't HCL
pub reports_stop : (t : Tables) (asked : Option Datapath) (text : List ℕ) (stop : Stopped) (report : Report) → IsStopped text stop → report.faults ≢ [] → ReportsHcl t asked text report
reports_stop t asked text stop report stopped some = record {
  faultless = λ none. absurd (some none);
  accepted = λ path wanted design. absurd (none_if_unread (rows_in t path) text stop.fault stopped.is_fault design);
}
