-- The stops of the program as answers: their statuses and lines.
use Rattle.std.specs.Prelude.{ℕ, List, [], Option, Some, None}
use Rattle.cli_plans.specs.declared.stop_reason.InputFault as code_refusal
use Rattle.cli_plans.specs.declared.stop_reason.InputFault.TheVariants.{AtLine, AtPlace, OfNames}
use Rattle.cli_plans.specs.declared.stop_reason.StopReason as code
use Rattle.cli_plans.specs.declared.stop_reason.StopReason.TheVariants.{Usage, Read, Write, Refused, Memory, TooLong}
use Rattle.cli_plans.specs.Lines.{fault_line, memory_line, names_line, place_line, read_fault_line, too_long_line, usage_line}
use Rattle.cli_plans.specs.Plan.{Answer, refused}

abbrev pub status_of : code.StopReason → ℕ
status_of Usage = 2
status_of (Read name) = 3
status_of Write = 4
status_of (Refused name why) = 5
status_of Memory = 6
status_of (TooLong name limit) = 7

-- the line of a file that was refused
abbrev pub refusal_line : List ℕ → code_refusal.InputFault → List ℕ
refusal_line name (AtLine line why) = fault_line name line why.now
refusal_line name (AtPlace line column why) = place_line name line column why.now
refusal_line name (OfNames why names) = names_line name why.now names.items

abbrev pub line_of : code.StopReason → List ℕ
line_of Usage = usage_line
line_of (Read name) = read_fault_line name.now
line_of Write = []
line_of (Refused name why) = refusal_line name.now why
line_of Memory = memory_line
line_of (TooLong name limit) = too_long_line name.now limit

-- the name of a file whose read failed
abbrev pub read_name : code.StopReason → Option (List ℕ)
read_name (Read name) = Some name.now
read_name _ = None

-- the answer of a stop
abbrev pub answer_at : code.StopReason → Answer
answer_at stop = refused (status_of stop) (line_of stop)
