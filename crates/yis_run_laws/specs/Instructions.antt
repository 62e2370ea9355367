-- The instructions of a run, by their index: the machine before each, and what it does.
use Rattle.std.specs.Prelude.{◌≡◌, ℕ, Bool, true, not, List}
use Rattle.y86_base.specs.declared.parts.Variant.{Variant}
use Rattle.y86_isa.specs.declared.columns.Row.{Row}
use Rattle.y86_isa.specs.declared.machine.Machine.{Machine}
use Rattle.y86_isa.specs.declared.work.Work.{Work}
use Rattle.y86_isa.specs.Table.{row}
use Rattle.y86_isa.specs.Machine.{is_aok}
use Rattle.y86_isa.specs.RowTests.{next_is_val_m}
use Rattle.y86_isa.specs.Run.{run}
use Rattle.y86_isa.specs.Work.{work}

-- the machine before instruction i of the run of an image, and the work of that instruction
unfoldable pub state_before : Variant → List ℕ → ℕ → Machine
state_before v image i = run v image i

unfoldable pub work_at : Variant → List ℕ → ℕ → Work
work_at v image i = work v (state_before v image i)

-- its row in the instruction table
abbrev pub instruction_row : Variant → List ℕ → ℕ → Row
instruction_row v image i = row v (work_at v image i).icode

-- the run reaches instruction i: no earlier instruction has stopped it
abbrev pub RunReaches : Variant → List ℕ → ℕ → Type 0
RunReaches v image i = is_aok (state_before v image i).stat ≡ true

-- instruction i stops the run; instruction i loads the PC from memory, as ret does
abbrev pub stops_at : Variant → List ℕ → ℕ → Bool
stops_at v image i = not (is_aok (work_at v image i).stat)

abbrev pub ret_at : Variant → List ℕ → ℕ → Bool
ret_at v image i = next_is_val_m (instruction_row v image i).next
