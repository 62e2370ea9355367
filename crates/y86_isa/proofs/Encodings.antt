-- Register fields of an instruction fit a half byte.
use Rattle.std.proofs.Common.{ℕ, ◌≤◌, Bool, true, false, arith}
use Rattle.y86_isa.specs.Encoding.{NamesRegister}

-- a register field is at most 15
pub field_most : (used : Bool) (field : ℕ) → NamesRegister used field → field ≤ 15
field_most true field h = omega arith
field_most false field h = omega arith
