use Rattle.std.proofs.Common.{arith}
use Rattle.prog_gen.proofs.Valid.{irmovq_valid, opq_valid, rrmovq_valid, rmmovq_valid, mrmovq_valid, jxx_valid}
use Rattle.prog_gen.proofs.programs.draw_instruction.Goals as goal

pub returns-then-kind-eq0-clause-valid : goal.returns-then-kind-eq0-clause-valid
returns-then-kind-eq0-clause-valid c = rw c.instruction.ensures (irmovq_valid _ _ (omega arith))

pub returns-then-kind-eq1-clause-valid : goal.returns-then-kind-eq1-clause-valid
returns-then-kind-eq1-clause-valid c = rw c.instruction-then-kind-eq1.ensures (opq_valid _ _ _ (omega arith) (omega arith) (omega arith))

pub returns-then-kind-eq2-clause-valid : goal.returns-then-kind-eq2-clause-valid
returns-then-kind-eq2-clause-valid c = rw c.instruction-then-kind-eq2.ensures (rrmovq_valid _ _ _ (omega arith) (omega arith) (omega arith))

pub returns-then-kind-eq3-clause-valid : goal.returns-then-kind-eq3-clause-valid
returns-then-kind-eq3-clause-valid c = rw c.instruction-then-kind-eq3.ensures (rmmovq_valid _ _ (omega arith))

pub returns-then-kind-eq4-clause-valid : goal.returns-then-kind-eq4-clause-valid
returns-then-kind-eq4-clause-valid c = rw c.instruction-then-kind-eq4.ensures (mrmovq_valid _ _ (omega arith))

pub returns-else-kind-eq4-clause-valid : goal.returns-else-kind-eq4-clause-valid
returns-else-kind-eq4-clause-valid c = rw c.instruction-else-kind-eq4.ensures (jxx_valid _ _ (omega arith))
