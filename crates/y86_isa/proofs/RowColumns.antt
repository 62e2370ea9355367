-- What the columns of a row imply for the work of its instruction.
use Rattle.std.proofs.Common.{◌≡◌, ℕ, ◌<◌, Bool, true, false, not, ◌||◌, ◌==◌, List, length, refl}
use Rattle.y86_base.specs.declared.parts.Variant.{Variant}
use Rattle.y86_base.specs.declared.parts.Variant.TheVariants.{Base, Full}
use Rattle.y86_isa.specs.declared.columns.MemoryColumn.{MemoryColumn}
use Rattle.y86_isa.specs.declared.columns.MemoryColumn.TheVariants.{NoMem, StoreA, StoreP, LoadE, LoadA}
use Rattle.y86_isa.specs.declared.columns.RegisterColumn.{RegisterColumn}
use Rattle.y86_isa.specs.declared.columns.RegisterColumn.TheVariants.{Dash, FieldA, FieldB, Stack}
use Rattle.y86_isa.specs.declared.columns.NextPcColumn.{NextPcColumn}
use Rattle.y86_isa.specs.declared.columns.NextPcColumn.TheVariants.{Branch, Fall, Itself, Loaded, Target}
use Rattle.y86_isa.specs.declared.columns.Row.{Row}
use Rattle.y86_isa.specs.Table.{row, rows}
use Rattle.y86_isa.proofs.Rows.{row-numbered}
use Rattle.y86_isa.specs.RowTests.{accesses, is_dash}
use Rattle.y86_isa.specs.Blocks.{data_error, data_read, destination_e, is_load, is_store, register_number}

-- ---- registers

-- a column of a dash names no register
pub dash_is : (y : RegisterColumn) (a b : ℕ) → is_dash y ≡ true → register_number y a b ≡ 15
dash_is Dash a b h = refl
dash_is FieldA a b h = cc
dash_is FieldB a b h = cc
dash_is Stack a b h = cc

-- if valE has no destination, it has none after the condition either
pub none_late : (conditional cnd : Bool) (n : ℕ) → n ≡ 15 → destination_e conditional cnd n ≡ 15
none_late true true n e = e
none_late true false n e = refl
none_late false cnd n e = e

-- ---- memory

-- an access has the same error at equal addresses
pub error_by : (a : MemoryColumn) (mem : List ℕ) (x y : ℕ) → (accesses a ≡ true → x ≡ y) → data_error mem x (is_load a) (is_store a) ≡ data_error mem y (is_load a) (is_store a)
unfolding data_error
error_by NoMem mem x y h = refl
error_by StoreA mem x y h = rw (h refl) refl
error_by StoreP mem x y h = rw (h refl) refl
error_by LoadE mem x y h = rw (h refl) refl
error_by LoadA mem x y h = rw (h refl) refl

-- and reads the same word
pub read_by : (a : MemoryColumn) (mem : List ℕ) (x y : ℕ) → (accesses a ≡ true → x ≡ y) → data_read mem x (is_load a) ≡ data_read mem y (is_load a)
unfolding data_read
read_by NoMem mem x y h = refl
read_by StoreA mem x y h = refl
read_by StoreP mem x y h = refl
read_by LoadE mem x y h = rw (h refl) refl
read_by LoadA mem x y h = rw (h refl) refl

-- ---- the next PC

-- the next PC is the instruction's own: it isn't followed by another
abbrev pub is_itself : NextPcColumn → Bool
is_itself Itself = true
is_itself Fall = false
is_itself Branch = false
is_itself Target = false
is_itself Loaded = false

-- among the icodes that have a row, only halt has no next PC
abbrev pub next_test : ℕ → Row → Bool
next_test icode r = not (is_itself r.next) || (icode == 0)

-- and each row agrees
pub next_at : (v : Variant) (icode : ℕ) → icode < length (rows v) → next_test icode (row v icode) ≡ true
next_at Base icode lt = row-numbered next_test Base refl icode lt
next_at Full icode lt = row-numbered next_test Full refl icode lt
