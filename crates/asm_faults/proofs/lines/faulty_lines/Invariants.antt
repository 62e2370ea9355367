use Rattle.std.proofs.Common.{length}
use Rattle.asm_faults.proofs.LineLemmas.{Noted}
use Rattle.asm_faults.proofs.lines.faulty_lines.Given as goal

abbrev pub invariant-lines : goal.invariant-lines
invariant-lines l = Noted l.variant l.source l.number l.list.items l.rest

abbrev pub decreases-lines : goal.decreases-lines
decreases-lines l = length l.rest
