-- A sequential datapath, by the type S of its state as a cycle begins, and its runs.
use Rattle.std.specs.Prelude.{◌≡◌, ℕ, ◌-◌, true, false, List, Option, Some, None}
use Rattle.y86_base.specs.declared.parts.Flags.{Flags}
use Rattle.y86_base.specs.declared.parts.Stat.{Stat}
use Rattle.y86_base.specs.declared.parts.Variant.{Variant}
use Rattle.y86_isa.specs.Machine.{is_aok}
use Rattle.y86_isa.specs.declared.machine.Machine.{Machine}
use Rattle.y86_isa.specs.declared.machine.Rec.{Rec}
use Rattle.hcl_types.specs.declared.table.Row.{Row}
use Rattle.hcl_types.specs.declared.term.Term.{Term}
use Rattle.hcl_types.specs.Equations.{IsSolution}
use Rattle.dp_signals.specs.After.{IsAfter}
use Rattle.dp_signals.specs.Equations.{IsOver, rule_of}

-- a sequential datapath; the functions ℕ → ℕ are the values of a cycle, by row
pub record SequentialPath (S : Type 0) : Type 0 where
  -- the rows of its signals, the given ones first
  pub table : List Row
  -- the first row of hardware, the first row that a file defines, and the number of rows
  pub hardware : ℕ
  pub first : ℕ
  pub count : ℕ
  -- the values of the given rows as a cycle begins: constants, and the words of the state
  pub given : S → List ℕ
  pub words : S → List ℕ
  -- what hardware computes in a row
  pub block : Variant → S → ℕ → (ℕ → ℕ) → ℕ
  -- the parts of a machine that the state holds
  pub regs : S → List ℕ
  pub flags : S → Flags
  pub stat : S → Stat
  pub mem : S → List ℕ
  -- the PC at which a cycle works
  pub pc : S → (ℕ → ℕ) → ℕ
  -- the state at the start of a run on a memory image, and after a cycle
  pub start : List ℕ → S
  pub next : S → (ℕ → ℕ) → S
  -- the record of a cycle
  pub told : S → (ℕ → ℕ) → Rec

-- the machine that a state gives at a PC
abbrev pub machine_at : {S : Type 0} → SequentialPath S → S → ℕ → Machine
machine_at path s pc = record { regs = path.regs s; flags = path.flags s; pc = pc; stat = path.stat s; mem = path.mem s }

-- the value that the equation of row n demands
abbrev pub rule_in : {S : Type 0} → SequentialPath S → Variant → List Term → S → ℕ → (ℕ → ℕ) → ℕ
rule_in path v terms s = rule_of (path.given s) path.first (path.block v s) terms

-- f gives the values of a cycle that begins in the state s
abbrev pub Solves : {S : Type 0} → SequentialPath S → Variant → List Term → S → (ℕ → ℕ) → Type 0
Solves path v terms s f = IsSolution (rule_in path v terms s) f

-- values that begin with those given in the state s: the other rows may hold what another cycle left
abbrev pub AreGivenIn : {S : Type 0} → SequentialPath S → S → List ℕ → Type 0
AreGivenIn path s values = IsOver (path.given s) (path.count - path.hardware) values

-- one cycle from s to t with the record r, if there is one: a machine whose status isn't AOK stays and leaves no record; any other goes to
-- the next state by values that solve the equations, and leaves a record
pub record IsCycle {S : Type 0} (path : SequentialPath S) (v : Variant) (terms : List Term) (s : S) (r : Option Rec) (t : S) : Type 0 where
  pub ended : is_aok (path.stat s) ≡ false → (t ≡ s) × (r ≡ None)
  pub goes : is_aok (path.stat s) ≡ true → (f : ℕ → ℕ) × Solves path v terms s f × (t ≡ path.next s f) × (r ≡ Some (path.told s f))

-- s is the state of the design k cycles after m, and these are the records of the cycles
abbrev pub RunFrom : {S : Type 0} → SequentialPath S → Variant → List Term → S → ℕ → S → List Rec → Type 0
RunFrom path v terms = IsAfter (IsCycle path v terms)

-- the signal pc in a state: by values which solve the equations of a cycle that begins in that state
abbrev pub PcIs : {S : Type 0} → SequentialPath S → Variant → List Term → S → ℕ → Type 0
PcIs path v terms s pc = (f : ℕ → ℕ) × Solves path v terms s f × (path.pc s f ≡ pc)

-- the machine reported in a state, at its signal pc
abbrev pub EndIs : {S : Type 0} → SequentialPath S → Variant → List Term → S → Machine → Type 0
EndIs path v terms s end = (pc : ℕ) × PcIs path v terms s pc × (end ≡ machine_at path s pc)
