-- What `fault` prints for a file.
use Rattle.std.specs.Prelude.{ℕ, Bool, true, false, List, [], ◌∷◌, codes}
use Rattle.fault_output.specs.Json.{report_json}
use Rattle.fault_output.specs.Lines.{report_lines}
use Rattle.fault_report.specs.declared.facts.Fault.{Fault}
use Rattle.fault_report.specs.declared.facts.Report.{Report}

-- a line for each fault, or `no fault`
abbrev pub lines : List ℕ → List Fault → List ℕ
lines file [] = codes "no fault\n"
lines file (fault ∷ faults) = report_lines file (fault ∷ faults)

abbrev pub printed : Bool → List ℕ → Report → List ℕ
printed true file report = report_json file report
printed false file report = lines file report.faults
