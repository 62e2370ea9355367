use Rattle.std.proofs.Common.{◌≡◌, ◌++◌, drop}
use Rattle.fault_output.specs.Lines.{report_lines}
use Rattle.fault_output.proofs.text.report_text.Given as goal

abbrev pub invariant-loop-fault : goal.invariant-loop-fault
invariant-loop-fault l = l.out.items ++ report_lines l.file (drop l.fault-index l.report.faults) ≡ report_lines l.file l.report.faults
