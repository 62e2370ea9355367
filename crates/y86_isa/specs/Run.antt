-- Runs: the machine after n steps, and the records of these steps.
use Rattle.std.specs.Prelude.{◌≡◌, ℕ, zero, suc, ◌+◌, ◌^◌, ◌<◌, ◌≤◌, List, [], ◌++◌, length, All, Option, Some, None, slice_get, if◌then◌else◌}
use Rattle.std.specs.Option.{option_to_list}
use Rattle.y86_base.specs.Image.{IsSize}
pub use Rattle.y86_base.specs.Image.{IsImage}
use Rattle.y86_base.specs.declared.parts.Stat.TheVariants.{Aok}
use Rattle.y86_base.specs.declared.parts.Variant.{Variant}
use Rattle.y86_isa.specs.declared.fetch.Fetched.{Fetched}
use Rattle.y86_isa.specs.declared.machine.Machine.{Machine}
use Rattle.y86_isa.specs.declared.machine.Rec.{Rec}
use Rattle.y86_isa.specs.declared.machine.Store.{Store}
use Rattle.y86_isa.specs.Table.{row, is_instruction}
use Rattle.y86_isa.specs.Blocks.{high_half, low_half}
use Rattle.y86_isa.specs.Machine.{start}
use Rattle.y86_isa.specs.Step.{advance, retired}

-- a machine of the processor's sizes: 15 registers, words below 2^64, and a memory that is an image
pub record IsMachine (m : Machine) : Type 0 where
  pub memory : IsImage m.mem
  pub registers : length m.regs ≡ 15
  pub words : All (λ word. word < 2 ^ 64) m.regs
  pub pc : m.pc < 2 ^ 64

-- the register fields of a fetched instruction are halves of a byte, and its other numbers are words
pub record FitsFields (f : Fetched) : Type 0 where
  pub r_a : f.r_a ≤ 15
  pub r_b : f.r_b ≤ 15
  pub val_c : f.val_c < 2 ^ 64
  pub val_p : f.val_p < 2 ^ 64

-- the machine n steps later
unfoldable pub run_from : Variant → Machine → ℕ → Machine
run_from v m zero = m
run_from v m (suc n) = run_from v (advance v m) n

-- the records of these steps, the first one first
unfoldable pub records_from : Variant → Machine → ℕ → List Rec
records_from v m zero = []
records_from v m (suc n) = option_to_list (retired v m) ++ records_from v (advance v m) n

-- the run of an image: the machine that starts on it, n steps later
abbrev pub run : Variant → List ℕ → ℕ → Machine
run v image n = run_from v (start image) n

abbrev pub records : Variant → List ℕ → ℕ → List Rec
records v image n = records_from v (start image) n

-- how many bytes from the PC on an instruction fetches, also counting those outside: none if its first byte is outside,
-- only that byte if it begins no instruction, else the length that its row gives
abbrev pub count_by_first : Variant → Option ℕ → ℕ
count_by_first v None = 0
count_by_first v (Some byte) = if is_instruction v (high_half byte) (low_half byte) then (row v (high_half byte)).length else 1

abbrev pub fetched_count : Variant → List ℕ → ℕ → ℕ
fetched_count v memory pc = count_by_first v (slice_get memory pc)

-- the instruction at the PC fetches the byte at this address
pub record IsFetched (v : Variant) (memory : List ℕ) (pc address : ℕ) : Type 0 where
  pub from : pc ≤ address
  pub to : address < pc + fetched_count v memory pc
  pub inside : address < length memory

-- another memory of the same size has the same bytes at the addresses that the instruction at the PC fetches
pub record SameFetch (v : Variant) (memory other : List ℕ) (pc : ℕ) : Type 0 where
  pub sized : IsSize (length memory)
  pub size : length other ≡ length memory
  pub bytes : (address : ℕ) → IsFetched v memory pc address → slice_get other address ≡ slice_get memory address

-- the address is one of the 8 bytes of a store, or of the store of a record
abbrev pub IsInStore : Option Store → ℕ → Type 0
IsInStore None address = ⊥
IsInStore (Some store) address = (store.addr ≤ address) × (address < store.addr + 8)

abbrev pub IsStoredBy : Option Rec → ℕ → Type 0
IsStoredBy None address = ⊥
IsStoredBy (Some r) address = IsInStore r.store address

-- no instruction among the first n fetches a byte that an earlier one stored
abbrev pub Pure : Variant → List ℕ → ℕ → Type 0
Pure v image n =
    (i j address : ℕ) → i < n → j < i → (run v image i).stat ≡ Aok → IsFetched v (run v image i).mem (run v image i).pc address →
    IsStoredBy (retired v (run v image j)) address → ⊥
