-- A report of faults as lines of text.
use Rattle.std.specs.Prelude.{ℕ, ◌==◌, codes, List, [], ◌∷◌, ◌++◌, if◌then◌else◌}
use Rattle.y86_base.specs.Numeral.{numeral}
use Rattle.fault_report.specs.declared.facts.Fault.{Fault}

-- a line or a column, followed by a colon; nothing if there is none
unfoldable pub place_text : ℕ → List ℕ
place_text number = if number == 0 then [] else numeral 10 1 number ++ codes ":"

unfoldable pub front_text : List ℕ → Fault → List ℕ
front_text file fault = file ++ codes ":" ++ place_text fault.line ++ place_text fault.column

-- `FILE:LINE:COLUMN: SENTENCE`
unfoldable pub fault_line : List ℕ → Fault → List ℕ
fault_line file fault = front_text file fault ++ codes " " ++ fault.sentence ++ codes "\n"

-- a line for each fault
abbrev pub report_lines : List ℕ → List Fault → List ℕ
report_lines file [] = []
report_lines file (fault ∷ faults) = fault_line file fault ++ report_lines file faults
