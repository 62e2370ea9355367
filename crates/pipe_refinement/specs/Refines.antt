-- What a pipelined machine and the run of instructions have in common.
use Rattle.std.specs.Prelude.{◌≡◌, ◌≢◌, ℕ, ◌*◌, ◌≤◌, ◌⊎◌, true, List, length}
use Rattle.y86_base.specs.declared.parts.Stat.TheVariants.{Aok, Pip}
use Rattle.y86_base.specs.declared.parts.Variant.{Variant}
use Rattle.y86_isa.specs.declared.machine.Machine.{Machine}
use Rattle.y86_isa.specs.Run.{run, records}
use Rattle.hcl_types.specs.declared.term.Term.{Term}
use Rattle.dp_signals.specs.PipeRun.{PipeHistory, PipeRun, ended_by_status, end_pc}

-- a pipelined machine that has stopped holds what the machine of the instructions holds, and that one has stopped too
pub record StopsAs (p : PipeHistory) (m : Machine) : Type 0 where
  pub registers : p.state.regs ≡ m.regs
  pub flags : p.state.flags ≡ m.flags
  pub memory : p.state.mem ≡ m.mem
  pub pc : end_pc p.state p.end ≡ m.pc
  pub stat : p.end ≡ m.stat
  pub not_aok : m.stat ≢ Aok

-- For every machine that the design reaches on the image in k cycles: its records are the first records of the run of
-- instructions, and its registers are those after them. If it has stopped, it is like the machine of that run. It
-- stops in the cycle in which a record that isn't AOK retires. It never ends because a register is both stalled and
-- bubbled. By the end of cycle 5n, n instructions have retired, or it has stopped.
pub record Refines (v : Variant) (terms : List Term) (image : List ℕ) (k : ℕ) : Type 0 where
  pub records : (p : PipeHistory) → PipeRun v terms image k p → p.records ≡ records v image (length p.records)
  pub registers : (p : PipeHistory) → PipeRun v terms image k p → p.state.regs ≡ (run v image (length p.records)).regs
  pub stop : (p : PipeHistory) → PipeRun v terms image k p → ended_by_status p.end ≡ true → StopsAs p (run v image (length p.records))
  pub stops_at_once : (p : PipeHistory) → PipeRun v terms image k p → (run v image (length p.records)).stat ≢ Aok → ended_by_status p.end ≡ true
  pub never_pip : (p : PipeHistory) → PipeRun v terms image k p → p.end ≢ Pip
  pub five_cycles : (n : ℕ) (p : PipeHistory) → 5 * n ≤ k → PipeRun v terms image (5 * n) p → (n ≤ length p.records) ⊎ (ended_by_status p.end ≡ true)
