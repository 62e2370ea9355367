-- The equations that the values of SEQ+'s signals solve in one cycle, one for each row of its table, without order: those of SEQ, but the
-- machine of the cycle is at the PC that the file computes.
use Rattle.std.specs.Prelude.{ℕ, List, [], ◌∷◌, ◌++◌}
use Rattle.y86_base.specs.declared.parts.Variant.{Variant}
use Rattle.y86_isa.specs.declared.machine.Machine.{Machine}
use Rattle.hcl_types.specs.declared.term.Term.{Term}
use Rattle.hcl_types.specs.Equations.{IsSolution}
use Rattle.dp_signals.specs.Equations.{rule_of}
use Rattle.dp_signals.specs.PipeEquations.{constants}
use Rattle.dp_sequential.specs.Cycle.{block_by}
use Rattle.seq_plus.specs.PlusNames as row
use Rattle.seq_plus.specs.declared.state.PlusState.{PlusState}

-- the machine that a state gives at a PC
abbrev pub at_pc : PlusState → ℕ → Machine
at_pc t pc = record { regs = t.regs; flags = t.flags; pc = pc; stat = t.stat; mem = t.mem }

-- what the previous instruction left, and the values given as a cycle begins: the constants and these words
abbrev pub plus_words : PlusState → List ℕ
plus_words t = t.previous.icode ∷ t.previous.cnd ∷ t.previous.val_m ∷ t.previous.val_c ∷ t.previous.val_p ∷ []

unfoldable pub plus_given : PlusState → List ℕ
plus_given t = constants ++ plus_words t

-- the value of a hardware row
unfoldable pub plus_block : Variant → PlusState → ℕ → (ℕ → ℕ) → ℕ
plus_block v t n f = block_by row.plus v (at_pc t (f row.pc)) n f

-- the value that the equation of row n demands
abbrev pub plus_rule : Variant → List Term → PlusState → ℕ → (ℕ → ℕ) → ℕ
plus_rule v terms t = rule_of (plus_given t) row.pc (plus_block v t) terms

-- f gives the values of a cycle that begins in the state t
abbrev pub PlusSolves : Variant → List Term → PlusState → (ℕ → ℕ) → Type 0
PlusSolves v terms t f = IsSolution (plus_rule v terms t) f
