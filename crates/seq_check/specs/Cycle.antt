-- The control valuation of a cycle of SEQ+.
use Rattle.std.specs.Prelude.{ℕ}
use Rattle.y86_base.specs.Words.{set}
use Rattle.y86_base.specs.declared.parts.Variant.{Variant}
use Rattle.y86_isa.specs.Blocks.{next_address}
use Rattle.y86_isa.specs.Table.{row}
use Rattle.seq_refinement.specs.Cycle as seq
use Rattle.seq_plus.specs.PlusEquations.{at_pc}
use Rattle.seq_plus.specs.PlusNames as name
use Rattle.seq_plus.specs.declared.state.PlusState.{PlusState}
use Rattle.seq_check.specs.Fields.{Fields}

-- the next PC of the cycle's instruction
abbrev pub pc_behind : Variant → (ℕ → ℕ) → ℕ
pc_behind v f = next_address (row v (f name.imem_icode)).next (f name.pc) (f name.valP) (f name.valC) (f name.valM) (set (f name.Cnd))

-- the lines of the cycle: what the previous instruction left, and what the cycle reads at the PC that it computes
abbrev pub fields_at : Variant → PlusState → (ℕ → ℕ) → Fields
fields_at v t f = record { icode = t.previous.icode; cnd = t.previous.cnd; line = seq.fields_at name.plus v (at_pc t (f name.pc)) f }
