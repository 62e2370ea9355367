-- Tests on the row of an icode.
use Rattle.std.specs.Prelude.{ℕ, Bool}
use Rattle.y86_base.specs.declared.parts.Variant.{Variant}
use Rattle.y86_isa.specs.declared.columns.Row.{Row}
use Rattle.y86_isa.specs.Table.{row}
use Rattle.y86_isa.specs.RowTests.{next_is_val_m, next_is_branch, stores_val_a, select_a_is_val_p, select_a_is_val_a, has_operand_a}
use Rattle.y86_isa.specs.Blocks.{is_load, is_store}
use Rattle.pipe_gates.specs.declared.columns.RowTest.{RowTest}
use Rattle.pipe_gates.specs.declared.columns.RowTest.TheVariants.{Ret, Jump, StoresA, CarriesP, CarriesA, Loads, Stores, SetsFlags, Conditional, Computes}

-- the row's instruction is a ret, is a jump, stores valA, carries valP in the place of valA, carries valA
-- itself, reads memory, writes it, sets the flags, has a conditional destination, uses the ALU
abbrev pub row_passes : Row → RowTest → Bool
row_passes r Ret = next_is_val_m r.next
row_passes r Jump = next_is_branch r.next
row_passes r StoresA = stores_val_a r.memory
row_passes r CarriesP = select_a_is_val_p r
row_passes r CarriesA = select_a_is_val_a r
row_passes r Loads = is_load r.memory
row_passes r Stores = is_store r.memory
row_passes r SetsFlags = r.sets_flags
row_passes r Conditional = r.conditional
row_passes r Computes = has_operand_a r.alu_a

abbrev pub has : Variant → RowTest → ℕ → Bool
has v test icode = row_passes (row v icode) test
