-- SEQ (CS:APP 3e, section 4.3): the equations and the cycle of Cycle, at SEQ's rows. Its state is the machine of the
-- instruction level.
use Rattle.std.specs.Prelude.{ℕ, List, [], ◌∷◌, ◌++◌, Option}
use Rattle.y86_base.specs.declared.parts.Variant.{Variant}
use Rattle.y86_isa.specs.Machine.{start}
use Rattle.y86_isa.specs.declared.machine.Machine.{Machine}
use Rattle.y86_isa.specs.declared.machine.Rec.{Rec}
use Rattle.hcl_types.specs.declared.term.Term.{Term}
use Rattle.dp_signals.specs.PipeEquations.{constants}
use Rattle.dp_signals.specs.SeqNames as signal
use Rattle.dp_signals.specs.SeqTable.{seq_rows}
use Rattle.dp_signals.specs.SequentialRows.{seq}
use Rattle.dp_sequential.specs.Cycle.{block_by, record_by, stepped}
use Rattle.dp_sequential.specs.Path.{IsCycle, RunFrom, SequentialPath, Solves}

-- the values given as a cycle begins: the constants, and the PC
unfoldable pub seq_given : Machine → List ℕ
seq_given s = constants ++ (s.pc ∷ [])

-- the state after a cycle: it leads to new_pc
unfoldable pub seq_next : Machine → (ℕ → ℕ) → Machine
seq_next s f = stepped seq s f (f signal.new_pc)

-- the record of a cycle: the PC as it begins, and the flags after it
unfoldable pub seq_record : Machine → (ℕ → ℕ) → Rec
seq_record s f = record_by seq s.pc (seq_next s f).flags f

abbrev pub seq_path : SequentialPath Machine
seq_path =
    record {
      table = seq_rows;
      hardware = signal.hardware;
      first = signal.defined;
      count = signal.count;
      given = seq_given;
      words = λ s. s.pc ∷ [];
      block = block_by seq;
      regs = λ s. s.regs;
      flags = λ s. s.flags;
      stat = λ s. s.stat;
      mem = λ s. s.mem;
      pc = λ s f. s.pc;
      start = start;
      next = seq_next;
      told = seq_record;
    }

-- f gives the values of a cycle that begins in the state s
abbrev pub SeqSolves : Variant → List Term → Machine → (ℕ → ℕ) → Type 0
SeqSolves = Solves seq_path

-- one cycle from s to t with the record r, if there is one
abbrev pub IsSeqCycle : Variant → List Term → Machine → Option Rec → Machine → Type 0
IsSeqCycle = IsCycle seq_path

-- s is the machine of the design k cycles after m, and these are the records of the cycles
abbrev pub SeqRunFrom : Variant → List Term → Machine → ℕ → Machine → List Rec → Type 0
SeqRunFrom = RunFrom seq_path

-- the run of the design on an image
abbrev pub SeqRun : Variant → List Term → List ℕ → ℕ → Machine → List Rec → Type 0
SeqRun v terms image k s records = SeqRunFrom v terms (start image) k s records
