-- What the tables of signals of all sequential datapaths share (CS:APP 3e, figures 4.23 and 4.26 to 4.31).
use Rattle.std.specs.Prelude.{ℕ, List, [], ◌∷◌, ◌++◌, codes}
use Rattle.hcl_types.specs.declared.table.Class.TheVariants.{Code, Value, Truth}
use Rattle.hcl_types.specs.declared.table.Role.TheVariants.{Hardware, Defined}
use Rattle.hcl_types.specs.declared.table.Row.{Row}
use Rattle.dp_signals.specs.Tables.{constant_rows, signal, signals}
use Rattle.dp_signals.specs.declared.sequential_rows.SignalRows.{SignalRows}

-- the signals that hardware computes, with the rows on which they depend: everything that is read after the first byte
-- also depends on the rows in pc
abbrev pub hardware_rows : SignalRows → List ℕ → List Row
hardware_rows r pc =
    signal Code (Hardware (r.pc ∷ [])) (codes "imem_icode") ∷
    signal Code (Hardware (r.pc ∷ [])) (codes "imem_ifun") ∷
    signal Truth (Hardware (r.pc ∷ [])) (codes "imem_error") ∷
    signal Code (Hardware (pc ++ r.need_regids ∷ [])) (codes "rA") ∷
    signal Code (Hardware (pc ++ r.need_regids ∷ [])) (codes "rB") ∷
    signal Value (Hardware (pc ++ r.need_regids ∷ r.need_val_c ∷ [])) (codes "valC") ∷
    signal Value (Hardware (pc ++ r.need_regids ∷ r.need_val_c ∷ [])) (codes "valP") ∷
    signal Value (Hardware (r.src_a ∷ [])) (codes "valA") ∷
    signal Value (Hardware (r.src_b ∷ [])) (codes "valB") ∷
    signal Value (Hardware (r.alu_a ∷ r.alu_b ∷ r.alufun ∷ [])) (codes "valE") ∷
    signal Truth (Hardware (r.ifun ∷ [])) (codes "Cnd") ∷
    signal Value (Hardware (r.mem_addr ∷ r.mem_read ∷ [])) (codes "valM") ∷
    signal Truth (Hardware (r.mem_addr ∷ r.mem_read ∷ r.mem_write ∷ [])) (codes "dmem_error") ∷ []

-- the instruction's control, which the HCL file defines
unfoldable pub control_rows : List Row
control_rows =
    signals Code Defined (codes "icode" ∷ codes "ifun" ∷ []) ++
    signals Truth Defined (codes "instr_valid" ∷ codes "need_regids" ∷ codes "need_valC" ∷ []) ++
    signals Code Defined (codes "srcA" ∷ codes "srcB" ∷ codes "dstE" ∷ codes "dstM" ∷ []) ++
    signals Value Defined (codes "aluA" ∷ codes "aluB" ∷ []) ++
    signals Code Defined (codes "alufun" ∷ []) ++
    signals Truth Defined (codes "set_cc" ∷ []) ++
    signals Value Defined (codes "mem_addr" ∷ []) ++
    signals Truth Defined (codes "mem_read" ∷ codes "mem_write" ∷ []) ++
    signals Value Defined (codes "mem_data" ∷ []) ++
    signals Code Defined (codes "Stat" ∷ [])

-- a table: the constants, the state's rows, hardware's rows, and the rows that a file defines: those before the control
-- of the instruction, that control, and those after it
abbrev pub table_of : List Row → List Row → List Row → List Row → List Row
table_of held hardware before behind = constant_rows ++ (held ++ (hardware ++ (before ++ (control_rows ++ behind))))
