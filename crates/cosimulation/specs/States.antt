-- Equal final states, and the first part in which two differ.
use Rattle.std.specs.Prelude.{◌≡◌, ◌≢◌, ℕ, ◌/◌, ◌<◌, List, length}
use Rattle.y86_base.specs.Registers.{register}
use Rattle.y86_isa.specs.declared.machine.Machine.{Machine}
use Rattle.yis_run.specs.Report.{aligned_word}
use Rattle.cosimulation.specs.declared.states.Part.{Part}
use Rattle.cosimulation.specs.declared.states.Part.TheVariants.{Stat, Pc, Flags, Register, Memory}

-- the registers below this number have the same words
abbrev pub SameRegisters : List ℕ → List ℕ → ℕ → Type 0
SameRegisters one other number = (k : ℕ) → k < number → register one k ≡ register other k

-- the aligned words of memory below this index are the same
abbrev pub SameWords : List ℕ → List ℕ → ℕ → Type 0
SameWords one other index = (k : ℕ) → k < index → aligned_word one k ≡ aligned_word other k

-- the same status, PC, flags, registers and words of memory
pub record SameState (m n : Machine) : Type 0 where
  pub stat : m.stat ≡ n.stat
  pub pc : m.pc ≡ n.pc
  pub flags : m.flags ≡ n.flags
  pub registers : SameRegisters m.regs n.regs 15
  pub memory : SameWords m.mem n.mem (length m.mem / 8)

-- The parts before this one are the same. The order is status, PC, flags, registers by number, words of memory by
-- index.
abbrev pub SameBefore : Machine → Machine → Part → Type 0
SameBefore m n (Stat a b) = Unit {0}
SameBefore m n (Pc a b) = m.stat ≡ n.stat
SameBefore m n (Flags a b) = (m.stat ≡ n.stat) × (m.pc ≡ n.pc)
SameBefore m n (Register k a b) = (m.stat ≡ n.stat) × (m.pc ≡ n.pc) × (m.flags ≡ n.flags) × SameRegisters m.regs n.regs k
SameBefore m n (Memory k a b) =
    (m.stat ≡ n.stat) × (m.pc ≡ n.pc) × (m.flags ≡ n.flags) × SameRegisters m.regs n.regs 15 × SameWords m.mem n.mem k

-- they differ in a part, where they have these values
abbrev pub DiffersIn : Machine → Machine → Part → Type 0
DiffersIn m n (Stat a b) = (a ≡ m.stat) × (b ≡ n.stat) × (a ≢ b)
DiffersIn m n (Pc a b) = (a ≡ m.pc) × (b ≡ n.pc) × (a ≢ b)
DiffersIn m n (Flags a b) = (a ≡ m.flags) × (b ≡ n.flags) × (a ≢ b)
DiffersIn m n (Register k a b) = (a ≡ register m.regs k) × (b ≡ register n.regs k) × (a ≢ b)
DiffersIn m n (Memory k a b) = (a ≡ aligned_word m.mem k) × (b ≡ aligned_word n.mem k) × (a ≢ b)

-- this is the first part in which they differ, and they have these values there
pub record FirstDiffersIn (m n : Machine) (part : Part) : Type 0 where
  pub before : SameBefore m n part
  pub differs : DiffersIn m n part
