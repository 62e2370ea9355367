-- The lines of one cycle: for a state of the machine, the value f of each signal, and the sources of picked values.
use Rattle.std.specs.Prelude.{ℕ, Bool, ◌==◌, nat_lt, List, [], ◌∷◌, ◌++◌, map, codes, Option, Some, None, if◌then◌else◌}
use Rattle.std.specs.List.{concat}
use Rattle.y86_base.specs.Stat.{stat_name}
use Rattle.y86_base.specs.declared.parts.Flags.{Flags}
use Rattle.y86_base.specs.declared.parts.Stat.{Stat}
use Rattle.y86_isa.specs.declared.machine.Store.{Store}
use Rattle.dp_signals.specs.PipeCycle.{store_of}
use Rattle.dp_signals.specs.PipeNames as row
use Rattle.y86_base.specs.Words.{set}
use Rattle.dp_signals.specs.declared.pipe_state.PipeState.{PipeState}
use Rattle.pipe_stage_text.specs.Instruction.{instruction}
use Rattle.pipe_stage_text.specs.Numbers.{address, function_pair, number_pair, register_pair, status_pair, text_pair, word_pair}
use Rattle.pipe_stage_text.specs.Sources.{SourceNames}
use Rattle.pipe_stage_text.specs.declared.stage_content.StageContent.{StageContent}
use Rattle.pipe_stage_text.specs.declared.stage_contents.StageContents.{StageContents}

-- the update of a pipeline register that the file requests by stall and bubble
abbrev pub next_word : Bool → Bool → List ℕ
next_word stall bubble =
    if stall then (if bubble then codes "both" else codes "stall") else (if bubble then codes "bubble" else codes "load")

abbrev pub place : StageContent → List ℕ
place h = if h.live then address h.addr else codes "-"

-- the head of the line of a stage: its letter, what it holds, its stall and bubble, and its status; and the end of the
-- line
unfoldable pub head : List ℕ → StageContent → Bool → Bool → ℕ → List ℕ
head letter h stall bubble stat =
    letter
    ++ (number_pair (codes " row ") h.row ++ (codes " at " ++ (place h ++ (codes " next " ++ (next_word stall bubble ++ status_pair (codes " stat ") stat)))))

unfoldable pub tail : StageContent → List ℕ
tail h = codes " | " ++ (instruction h ++ codes "\n")

-- ---- the stages

unfoldable pub fetch_words : PipeState → (ℕ → ℕ) → List ℕ
fetch_words p f =
    word_pair (codes " F_predPC ") p.pred_pc
    ++ (word_pair (codes " f_valC ") (f row.f_valC)
    ++ (word_pair (codes " f_valP ") (f row.f_valP) ++ word_pair (codes " f_predPC ") (f row.f_predPC)))

unfoldable pub fetch_source : SourceNames → List ℕ
fetch_source from = text_pair (codes " f_pc_from ") from.pc

unfoldable pub fetch_line : StageContent → PipeState → (ℕ → ℕ) → SourceNames → List ℕ
fetch_line h p f from =
    head (codes "F") h (set (f row.F_stall)) (set (f row.F_bubble)) (f row.f_stat) ++ (fetch_words p f ++ (fetch_source from ++ tail h))

unfoldable pub decode_fields : PipeState → List ℕ
decode_fields p =
    register_pair (codes " rA ") p.d.r_a
    ++ (register_pair (codes " rB ") p.d.r_b ++ (word_pair (codes " valC ") p.d.val_c ++ word_pair (codes " valP ") p.d.val_p))

unfoldable pub decode_signals : (ℕ → ℕ) → List ℕ
decode_signals f =
    register_pair (codes " d_srcA ") (f row.d_srcA)
    ++ (register_pair (codes " d_srcB ") (f row.d_srcB)
    ++ (register_pair (codes " d_dstE ") (f row.d_dstE)
    ++ (register_pair (codes " d_dstM ") (f row.d_dstM)
    ++ (word_pair (codes " d_valA ") (f row.d_valA) ++ word_pair (codes " d_valB ") (f row.d_valB)))))

unfoldable pub decode_sources : SourceNames → List ℕ
decode_sources from = text_pair (codes " d_valA_from ") from.val_a ++ text_pair (codes " d_valB_from ") from.val_b

unfoldable pub decode_line : StageContent → PipeState → (ℕ → ℕ) → SourceNames → List ℕ
decode_line h p f from =
    head (codes "D") h (set (f row.D_stall)) (set (f row.D_bubble)) p.d.stat
    ++ (decode_fields p ++ (decode_signals f ++ (decode_sources from ++ tail h)))

unfoldable pub execute_words : PipeState → List ℕ
execute_words p = word_pair (codes " valC ") p.e.val_c ++ (word_pair (codes " valA ") p.e.val_a ++ word_pair (codes " valB ") p.e.val_b)

unfoldable pub execute_registers : PipeState → List ℕ
execute_registers p =
    register_pair (codes " srcA ") p.e.src_a
    ++ (register_pair (codes " srcB ") p.e.src_b
    ++ (register_pair (codes " dstE ") p.e.dst_e ++ register_pair (codes " dstM ") p.e.dst_m))

unfoldable pub execute_operands : (ℕ → ℕ) → List ℕ
execute_operands f =
    word_pair (codes " aluA ") (f row.aluA)
    ++ (word_pair (codes " aluB ") (f row.aluB)
    ++ (function_pair (codes " alufun ") (f row.alufun) ++ number_pair (codes " set_cc ") (f row.set_cc)))

unfoldable pub execute_signals : (ℕ → ℕ) → List ℕ
execute_signals f =
    number_pair (codes " e_Cnd ") (f row.e_Cnd)
    ++ (word_pair (codes " e_valE ") (f row.e_valE) ++ register_pair (codes " e_dstE ") (f row.e_dstE))

unfoldable pub execute_line : StageContent → PipeState → (ℕ → ℕ) → List ℕ
execute_line h p f =
    head (codes "E") h (set (f row.E_stall)) (set (f row.E_bubble)) p.e.stat
    ++ (execute_words p ++ (execute_registers p ++ (execute_operands f ++ (execute_signals f ++ tail h))))

unfoldable pub memory_fields : PipeState → List ℕ
memory_fields p =
    number_pair (codes " Cnd ") p.m.cnd
    ++ (word_pair (codes " valE ") p.m.val_e
    ++ (word_pair (codes " valA ") p.m.val_a
    ++ (register_pair (codes " dstE ") p.m.dst_e ++ register_pair (codes " dstM ") p.m.dst_m)))

unfoldable pub memory_signals : (ℕ → ℕ) → List ℕ
memory_signals f =
    word_pair (codes " mem_addr ") (f row.mem_addr)
    ++ (number_pair (codes " mem_read ") (f row.mem_read)
    ++ (number_pair (codes " mem_write ") (f row.mem_write)
    ++ (word_pair (codes " m_valM ") (f row.m_valM) ++ status_pair (codes " m_stat ") (f row.m_stat))))

unfoldable pub memory_line : StageContent → PipeState → (ℕ → ℕ) → List ℕ
memory_line h p f =
    head (codes "M") h (set (f row.M_stall)) (set (f row.M_bubble)) p.m.stat ++ (memory_fields p ++ (memory_signals f ++ tail h))

unfoldable pub write_fields : PipeState → List ℕ
write_fields p =
    word_pair (codes " valE ") p.w.val_e
    ++ (word_pair (codes " valM ") p.w.val_m
    ++ (register_pair (codes " dstE ") p.w.dst_e ++ register_pair (codes " dstM ") p.w.dst_m))

unfoldable pub write_line : StageContent → PipeState → (ℕ → ℕ) → List ℕ
write_line h p f =
    head (codes "W") h (set (f row.W_stall)) (set (f row.W_bubble)) p.w.stat
    ++ (write_fields p ++ (status_pair (codes " Stat ") (f row.Stat) ++ tail h))

-- the stages; `fetch` is what is fetched, and `watch` what the others hold
unfoldable pub stage_lines : StageContents → StageContent → PipeState → (ℕ → ℕ) → SourceNames → List ℕ
stage_lines watch fetch p f from =
    fetch_line fetch p f from ++ (decode_line watch.d p f from ++ (execute_line watch.e p f ++ (memory_line watch.m p f ++ write_line watch.w p f)))

-- ---- flags, registers and memory

abbrev pub bit : Bool → ℕ
bit b = if b then 1 else 0

unfoldable pub flags_line : Flags → List ℕ
flags_line flags =
    number_pair (codes "flags ZF ") (bit flags.zf)
    ++ (number_pair (codes " SF ") (bit flags.sf) ++ (number_pair (codes " OF ") (bit flags.of) ++ codes "\n"))

-- the registers that a cycle writes, each with its word: the destination of valE and then that of valM; PIPE writes
-- only if W_stat is AOK
abbrev pub written : ℕ → ℕ → List (ℕ × ℕ)
written register word = if nat_lt register 15 then (register, word) ∷ [] else []

abbrev pub writes : Bool → ℕ → ℕ → ℕ → ℕ → List (ℕ × ℕ)
writes done dst_e val_e dst_m val_m = if done then written dst_e val_e ++ written dst_m val_m else []

unfoldable pub told_writes : PipeState → (ℕ → ℕ) → List (ℕ × ℕ)
told_writes p f = writes (p.w.stat == 1) (f row.w_dstE) (f row.w_valE) (f row.w_dstM) (f row.w_valM)

abbrev pub register_line : ℕ × ℕ → List ℕ
register_line write = register_pair (codes "write ") write.0 ++ (word_pair (codes " ") write.1 ++ codes "\n")

unfoldable pub register_lines : List (ℕ × ℕ) → List ℕ
register_lines writes = concat (map register_line writes)

-- the store that a cycle does
abbrev pub told_store : PipeState → (ℕ → ℕ) → Option Store
told_store p f = store_of p f

unfoldable pub store_line : Option Store → List ℕ
store_line None = []
store_line (Some s) = codes "store " ++ (address s.addr ++ (word_pair (codes " ") s.word ++ codes "\n"))

-- ---- a cycle, by its number

unfoldable pub cycle_text : ℕ → StageContents → StageContent → PipeState → (ℕ → ℕ) → SourceNames → List ℕ
cycle_text number watch fetch p f from =
    number_pair (codes "cycle ") number
    ++ (codes "\n" ++ (stage_lines watch fetch p f from ++ (flags_line p.flags ++ (register_lines (told_writes p f) ++ store_line (told_store p f)))))

-- ---- how a run ended: its status, and how many cycles it had and instructions retired

unfoldable pub end_line : Stat → ℕ → ℕ → List ℕ
end_line end cycles retired =
    codes "end " ++ (stat_name end ++ (number_pair (codes " cycles ") cycles ++ (number_pair (codes " retired ") retired ++ codes "\n")))
