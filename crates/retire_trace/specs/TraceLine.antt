-- The line of a trace: what one instruction did.
use Rattle.std.specs.Prelude.{ℕ, ◌==◌, nat_lt, codes, List, [], ◌∷◌, ◌++◌, Option, Some, None, if◌then◌else◌}
use Rattle.std.specs.List.{concat}
use Rattle.y86_base.specs.Numeral.{numeral}
use Rattle.y86_base.specs.Registers.{register_name}
use Rattle.y86_base.specs.Stat.{stat_name}
use Rattle.y86_base.specs.declared.parts.Flags.{Flags}
use Rattle.y86_base.specs.declared.parts.Stat.{Stat}
use Rattle.y86_isa.specs.Table.{no_register}
use Rattle.y86_isa.specs.declared.machine.Rec.{Rec}
use Rattle.y86_isa.specs.declared.machine.Store.{Store}
use Rattle.yis_run.specs.Report.{flag}

-- a code of 4 bits as a hex digit, and `?` for any other number
unfoldable pub digit : ℕ → List ℕ
digit n = if nat_lt n 16 then numeral 16 1 n else codes "?"

-- the address and the first byte of the instruction
unfoldable pub head : ℕ → ℕ → ℕ → List ℕ
head pc icode ifun = concat (codes "0x" ∷ numeral 16 3 pc ∷ codes " " ∷ digit icode ∷ digit ifun ∷ [])

-- a register that was written, and its word; nothing for register 15
unfoldable pub written : ℕ → ℕ → List ℕ
written number word =
    if number == no_register then []
    else concat (codes " " ∷ register_name number ∷ codes "=0x" ∷ numeral 16 16 word ∷ [])

-- a word that was stored
unfoldable pub stored : Option Store → List ℕ
stored None = []
stored (Some s) = concat (codes " [0x" ∷ numeral 16 4 s.addr ∷ codes "]=0x" ∷ numeral 16 16 s.word ∷ [])

-- the flags ZF, SF and OF after the instruction, and its status
unfoldable pub tail : Flags → Stat → List ℕ
tail flags stat =
    concat (codes " " ∷ flag flags.zf ∷ flag flags.sf ∷ flag flags.of ∷ codes " " ∷ stat_name stat ∷ codes "\n" ∷ [])

-- the line of a record: the destination of valE comes before that of valM
unfoldable pub trace_line : Rec → List ℕ
trace_line r =
    head r.pc r.icode r.ifun ++ written r.dst_e r.val_e ++ written r.dst_m r.val_m ++ stored r.store ++ tail r.flags r.stat
