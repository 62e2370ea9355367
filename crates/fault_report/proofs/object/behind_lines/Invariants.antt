use Rattle.fault_report.proofs.object.behind_lines.Given as goal

abbrev pub decreases-lines : goal.decreases-lines
decreases-lines l = l.left
