-- The run of SEQ+, as a relation on the number of cycles, and its end.
use Rattle.std.specs.Prelude.{◌≡◌, ℕ, List, Option}
use Rattle.y86_base.specs.declared.parts.Variant.{Variant}
use Rattle.y86_isa.specs.Machine.{start}
use Rattle.y86_isa.specs.declared.machine.Machine.{Machine}
use Rattle.y86_isa.specs.declared.machine.Rec.{Rec}
use Rattle.hcl_types.specs.declared.term.Term.{Term}
use Rattle.dp_signals.specs.After.{IsAfter}
use Rattle.dp_sequential.specs.Path.{IsCycle, SequentialPath}
use Rattle.seq_plus.specs.PlusCycle.{plus_next, plus_record}
use Rattle.seq_plus.specs.PlusEquations.{PlusSolves, at_pc, plus_block, plus_given, plus_words}
use Rattle.seq_plus.specs.PlusNames as row
use Rattle.seq_plus.specs.PlusTable.{plus_rows}
use Rattle.seq_plus.specs.declared.state.PlusState.{PlusState}

-- the state as the first cycle begins: as after a nop that is followed by address 0; the rest is as at the level of
-- instructions
abbrev pub plus_start : List ℕ → PlusState
plus_start image =
    record {
      previous = record { icode = 1; cnd = 0; val_m = 0; val_c = 0; val_p = 0 };
      regs = (start image).regs;
      flags = (start image).flags;
      stat = (start image).stat;
      mem = image;
    }

-- SEQ+ as a sequential datapath: it works at the PC that the file computes
abbrev pub plus_path : SequentialPath PlusState
plus_path =
    record {
      table = plus_rows;
      hardware = row.hardware;
      first = row.defined;
      count = row.count;
      given = plus_given;
      words = plus_words;
      block = plus_block;
      regs = λ t. t.regs;
      flags = λ t. t.flags;
      stat = λ t. t.stat;
      mem = λ t. t.mem;
      pc = λ t f. f row.pc;
      start = plus_start;
      next = plus_next;
      told = plus_record;
    }

-- one cycle from s to t with the record r, if there is one
abbrev pub IsPlusCycle : Variant → List Term → PlusState → Option Rec → PlusState → Type 0
IsPlusCycle = IsCycle plus_path

-- s is the state of the design k cycles after m, and these are the records of the cycles
abbrev pub PlusRunFrom : Variant → List Term → PlusState → ℕ → PlusState → List Rec → Type 0
PlusRunFrom v terms = IsAfter (IsPlusCycle v terms)

-- the signal pc in a state: by values which solve the equations of a cycle that begins in that state
abbrev pub PcIs : Variant → List Term → PlusState → ℕ → Type 0
PcIs v terms t pc = (f : ℕ → ℕ) × PlusSolves v terms t f × (f row.pc ≡ pc)

-- The machine reported at the end: its PC is the signal pc in the state reached. If a cycle stopped, this is the PC of
-- that cycle, since nothing that a signal reads has changed.
abbrev pub PlusEndIs : Variant → List Term → PlusState → Machine → Type 0
PlusEndIs v terms t end = (pc : ℕ) × PcIs v terms t pc × (end ≡ at_pc t pc)

-- the run of the design on an image
abbrev pub PlusRun : Variant → List Term → List ℕ → ℕ → PlusState → List Rec → Type 0
PlusRun v terms image k t records = PlusRunFrom v terms (plus_start image) k t records
