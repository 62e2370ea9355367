-- The lines of one cycle of SEQ or SEQ+: a line for each stage (CS:APP 3e, figures 4.27 to 4.31), the flags, and the
-- changes.
use Rattle.std.specs.Prelude.{ℕ, true, ◌==◌, List, ◌++◌, codes, Option, None, if◌then◌else◌}
use Rattle.y86_base.specs.Words.{set}
use Rattle.y86_base.specs.declared.parts.Flags.{Flags}
use Rattle.y86_isa.specs.Blocks.{data_store}
use Rattle.y86_isa.specs.declared.machine.Store.{Store}
use Rattle.seq_plus.specs.declared.state.PreviousInstruction.{PreviousInstruction}
use Rattle.pipe_stage_text.specs.Cycle.{flags_line, register_lines, store_line, writes}
use Rattle.pipe_stage_text.specs.Instruction.{instruction}
use Rattle.pipe_stage_text.specs.Numbers.{address, function_pair, number_pair, register_pair, status_pair, text_pair, word_pair}
use Rattle.pipe_stage_text.specs.declared.stage_content.StageContent.{StageContent}
use Rattle.seq_text.specs.Signals.{Sources}
use Rattle.seq_text.specs.declared.signals.Signals.{Signals}

-- ---- the stages

-- the instruction of a cycle; it has no row in a diagram
abbrev pub held : Signals → StageContent
held s =
    record { row = 0; live = true; failed = set s.imem_error; addr = s.pc; icode = s.icode; ifun = s.ifun; r_a = s.r_a; r_b = s.r_b; val_c = s.val_c }

unfoldable pub fetch_codes : Signals → List ℕ
fetch_codes s = number_pair (codes " icode ") s.icode ++ number_pair (codes " ifun ") s.ifun

unfoldable pub fetch_read : Signals → List ℕ
fetch_read s =
    number_pair (codes " imem_icode ") s.imem_icode
    ++ (number_pair (codes " imem_ifun ") s.imem_ifun ++ number_pair (codes " imem_error ") s.imem_error)

unfoldable pub fetch_needs : Signals → List ℕ
fetch_needs s =
    number_pair (codes " instr_valid ") s.instr_valid
    ++ (number_pair (codes " need_regids ") s.need_regids ++ number_pair (codes " need_valC ") s.need_val_c)

unfoldable pub fetch_fields : Signals → List ℕ
fetch_fields s =
    register_pair (codes " rA ") s.r_a
    ++ (register_pair (codes " rB ") s.r_b ++ (word_pair (codes " valC ") s.val_c ++ word_pair (codes " valP ") s.val_p))

unfoldable pub fetch_place : Signals → List ℕ
fetch_place s = codes "F at " ++ address s.pc

unfoldable pub fetch_text : Signals → List ℕ
fetch_text s = codes " | " ++ (instruction (held s) ++ codes "\n")

unfoldable pub fetch_line : Signals → List ℕ
fetch_line s = fetch_place s ++ (fetch_codes s ++ (fetch_read s ++ (fetch_needs s ++ (fetch_fields s ++ fetch_text s))))

unfoldable pub decode_line : Signals → List ℕ
decode_line s =
    register_pair (codes "D srcA ") s.src_a
    ++ (register_pair (codes " srcB ") s.src_b
    ++ (word_pair (codes " valA ") s.val_a ++ (word_pair (codes " valB ") s.val_b ++ codes "\n")))

unfoldable pub execute_signals : Signals → List ℕ
execute_signals s =
    word_pair (codes "E aluA ") s.alu_a
    ++ (word_pair (codes " aluB ") s.alu_b
    ++ (function_pair (codes " alufun ") s.alufun
    ++ (number_pair (codes " set_cc ") s.set_cc ++ (word_pair (codes " valE ") s.val_e ++ number_pair (codes " Cnd ") s.cnd))))

unfoldable pub execute_sources : Sources → List ℕ
execute_sources from = text_pair (codes " aluA_from ") from.alu_a ++ text_pair (codes " aluB_from ") from.alu_b

unfoldable pub execute_line : Signals → Sources → List ℕ
execute_line s from = execute_signals s ++ (execute_sources from ++ codes "\n")

unfoldable pub memory_access : Signals → List ℕ
memory_access s =
    word_pair (codes "M mem_addr ") s.mem_addr
    ++ (number_pair (codes " mem_read ") s.mem_read
    ++ (number_pair (codes " mem_write ") s.mem_write ++ word_pair (codes " mem_data ") s.mem_data))

unfoldable pub memory_signals : Signals → List ℕ
memory_signals s =
    word_pair (codes " valM ") s.val_m ++ (number_pair (codes " dmem_error ") s.dmem_error ++ status_pair (codes " Stat ") s.stat)

unfoldable pub memory_sources : Sources → List ℕ
memory_sources from = text_pair (codes " mem_addr_from ") from.mem_addr ++ text_pair (codes " mem_data_from ") from.mem_data

unfoldable pub memory_line : Signals → Sources → List ℕ
memory_line s from = memory_access s ++ (memory_signals s ++ (memory_sources from ++ codes "\n"))

unfoldable pub write_line : Signals → List ℕ
write_line s = register_pair (codes "W dstE ") s.dst_e ++ (register_pair (codes " dstM ") s.dst_m ++ codes "\n")

unfoldable pub stage_lines : Signals → Sources → List ℕ
stage_lines s from = fetch_line s ++ (decode_line s ++ (execute_line s from ++ (memory_line s from ++ write_line s)))

-- ---- the PC

-- SEQ's PC update
unfoldable pub pc_source : List ℕ → Sources → List ℕ
pc_source key from = text_pair key from.pc

unfoldable pub update_line : ℕ → Sources → List ℕ
update_line new_pc from = word_pair (codes "P new_pc ") new_pc ++ (pc_source (codes " new_pc_from ") from ++ codes "\n")

-- SEQ+'s PC, from the values that the previous instruction left
unfoldable pub previous_words : PreviousInstruction → List ℕ
previous_words p =
    number_pair (codes "P pIcode ") p.icode
    ++ (number_pair (codes " pCnd ") p.cnd
    ++ (word_pair (codes " pValM ") p.val_m ++ (word_pair (codes " pValC ") p.val_c ++ word_pair (codes " pValP ") p.val_p)))

unfoldable pub choice_line : PreviousInstruction → ℕ → Sources → List ℕ
choice_line p pc from = previous_words p ++ (word_pair (codes " pc ") pc ++ (pc_source (codes " pc_from ") from ++ codes "\n"))

-- ---- what is written if Stat is AOK: dstE and then dstM, and the store

unfoldable pub told_writes : Signals → List (ℕ × ℕ)
told_writes s = writes (s.stat == 1) s.dst_e s.val_e s.dst_m s.val_m

unfoldable pub told_store : Signals → Option Store
told_store s = if s.stat == 1 then data_store s.mem_addr s.mem_data (set s.mem_write) (set s.dmem_error) else None

-- the flags as the cycle begins, and what is written at its end
unfoldable pub state_lines : Flags → Signals → List ℕ
state_lines flags s = flags_line flags ++ (register_lines (told_writes s) ++ store_line (told_store s))
