-- Generated programs: instructions that are drawn one after another, followed by a data area.
use Rattle.std.specs.Prelude.{ℕ, zero, suc, ◌+◌, ◌-◌, ◌*◌, ◌/◌, ◌%◌, ◌==◌, if◌then◌else◌, List, [], ◌++◌, length, replicate}
use Rattle.y86_isa.specs.declared.encoding.Instr.{Instr}
use Rattle.y86_isa.specs.Encoding.{encoded}
use Rattle.y86_isa.specs.Table.{no_register}
use Rattle.prog_gen.specs.Draws.{lcg_next, lcg_output}

-- where the data area of a program of n instructions begins: at the least multiple of 8 from 10n + 8 on
abbrev pub data_start : ℕ → ℕ
data_start n = (10 * n + 15) / 8 * 8

-- what a draw returns, from its new word, as a register, one of the first fourteen, and as an address, that of one of
-- 256 words from a data area's start on
abbrev pub register : ℕ → ℕ
register word = lcg_output word % 14

abbrev pub address : ℕ → ℕ → ℕ
address data_at word = data_at + 8 * (lcg_output word % 256)

-- the register that no instruction writes: it stays 0, so that an address is the constant itself
abbrev pub zero_register : ℕ
zero_register = 14

-- an instruction, and the word after its draws
pub record Drawn : Type 0 where
  pub instr : Instr
  pub word : ℕ

abbrev pub drawn : ℕ → ℕ → ℕ → ℕ → ℕ → ℕ → Drawn
drawn icode ifun r_a r_b val_c word = record { instr = record { icode = icode; ifun = ifun; r_a = r_a; r_b = r_b; val_c = val_c }; word = word }

-- the instruction of a kind at an address; its own draws leave these words, one after another, and it uses as many as
-- it needs
abbrev pub drawn_as : ℕ → ℕ → ℕ → ℕ → ℕ → ℕ → Drawn
drawn_as kind data_at at first second third =
    if kind == 0 then drawn 3 0 no_register (register second) (lcg_output first) second  -- irmovq V, rB
    else (if kind == 1 then drawn 6 (lcg_output first % 4) (register second) (register third) 0 third  -- OPq rA, rB
    else (if kind == 2 then drawn 2 (lcg_output first % 7) (register second) (register third) 0 third  -- rrmovq or cmovXX rA, rB
    else (if kind == 3 then drawn 4 0 (register first) zero_register (address data_at second) second  -- rmmovq rA, A(%r14)
    else (if kind == 4 then drawn 5 0 (register second) zero_register (address data_at first) second  -- mrmovq A(%r14), rA
    else drawn 7 (lcg_output first % 7) no_register no_register (at + 9) first))))  -- jXX to the instruction behind it

-- the instruction at an address, drawn by a generator with this word: its kind first
unfoldable pub next_drawn : ℕ → ℕ → ℕ → Drawn
next_drawn data_at at word =
    drawn_as (lcg_output (lcg_next word) % 6) data_at at (lcg_next (lcg_next word)) (lcg_next (lcg_next (lcg_next word))) (lcg_next (lcg_next (lcg_next (lcg_next word))))

-- the bytes of the given number of instructions, from an address on
unfoldable pub code : ℕ → ℕ → ℕ → ℕ → List ℕ
code data_at zero at word = []
code data_at (suc n) at word =
    encoded (next_drawn data_at at word).instr ++ code data_at n (at + length (encoded (next_drawn data_at at word).instr)) (next_drawn data_at at word).word

-- bytes, followed by zeros up to a size
abbrev pub padded : ℕ → List ℕ → List ℕ
padded size bytes = bytes ++ replicate (size - length bytes) 0

-- the image of program n: n instructions, drawn with seed n, then zeros (the first is a halt), then 2048 bytes of data
unfoldable pub program : ℕ → List ℕ
program n = padded (data_start n + 2048) (code (data_start n) n 0 n)
