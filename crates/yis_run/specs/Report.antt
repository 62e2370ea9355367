-- The report of a run as text, as the simulator yis of CS:APP prints it: how the run stopped, the registers that aren't 0, and the
-- words of memory that changed.
use Rattle.std.specs.Prelude.{ℕ, ◌*◌, ◌/◌, Bool, ◌==◌, codes, List, [], ◌∷◌, ◌++◌, length, map, unwrap_or, if◌then◌else◌}
use Rattle.std.specs.List.{concat, range_with_len}
use Rattle.y86_base.specs.Image.{word_at}
use Rattle.y86_base.specs.Numeral.{numeral}
use Rattle.y86_base.specs.Registers.{register, register_name}
use Rattle.y86_base.specs.Stat.{stat_name}
use Rattle.y86_base.specs.declared.parts.Flags.{Flags}
use Rattle.y86_base.specs.declared.parts.Stat.{Stat}
use Rattle.y86_isa.specs.declared.machine.Machine.{Machine}
use Rattle.yis_run.specs.declared.outcome.End.{End}

-- a flag as a digit
abbrev pub flag : Bool → List ℕ
flag b = if b then codes "1" else codes "0"

-- how a run stopped: after how many steps, where, with which status and which condition codes
unfoldable pub stopped : ℕ → ℕ → Stat → Flags → List ℕ
stopped steps pc stat flags =
    concat (codes "Stopped in " ∷ numeral 10 1 steps ∷ codes " steps at PC = 0x" ∷ numeral 16 1 pc ∷ codes ".  Status '" ∷ stat_name stat ∷
    codes "', CC Z=" ∷ flag flags.zf ∷ codes " S=" ∷ flag flags.sf ∷ codes " O=" ∷ flag flags.of ∷ codes "\n" ∷ [])

-- a change: what changed, its word at the start and its word at the end
unfoldable pub change : List ℕ → ℕ → ℕ → List ℕ
change name old new =
    name ++ concat (codes ":\t0x" ∷ numeral 16 16 old ∷ codes "\t0x" ∷ numeral 16 16 new ∷ codes "\n" ∷ [])

-- the line of a register, which is 0 at the start; no line if it is 0 at the end too
unfoldable pub register_line : List ℕ → ℕ → List ℕ
register_line registers number =
    if register registers number == 0 then [] else change (register_name number) 0 (register registers number)

-- the number-th aligned word of a memory, counted from 0
abbrev pub aligned_word : List ℕ → ℕ → ℕ
aligned_word memory number = unwrap_or (word_at memory (8 * number)) 0

-- its address, as it is printed
abbrev pub word_name : ℕ → List ℕ
word_name number = codes "0x" ++ numeral 16 4 (8 * number)

-- the line of an aligned word of memory; no line if it is as at the start
unfoldable pub memory_line : List ℕ → List ℕ → ℕ → List ℕ
memory_line first memory number =
    if aligned_word first number == aligned_word memory number then []
    else change (word_name number) (aligned_word first number) (aligned_word memory number)

-- the texts for 0 to n - 1, one after another
unfoldable pub each_below : ℕ → (ℕ → List ℕ) → List ℕ
each_below n text = concat (map text (range_with_len 0 n))

-- the lines of the registers, and the lines of the words of a memory that was `first` at the start
abbrev pub register_lines : List ℕ → List ℕ
register_lines registers = each_below 15 (register_line registers)

abbrev pub memory_lines : List ℕ → List ℕ → List ℕ
memory_lines first memory = each_below (length first / 8) (memory_line first memory)

-- the report of a run that began on the memory `first`, ended with a machine, and took this number of steps
unfoldable pub report : List ℕ → Machine → ℕ → List ℕ
report first machine steps =
    stopped steps machine.pc machine.stat machine.flags
    ++ codes "Changes to registers:\n" ++ register_lines machine.regs
    ++ codes "\nChanges to memory:\n" ++ memory_lines first machine.mem

-- the machine with which a run ended
abbrev pub ended : End → Machine
ended end = record { regs = end.regs.now; flags = end.flags; pc = end.pc; stat = end.stat; mem = end.mem.now }
