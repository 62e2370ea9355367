-- What the record of a cycle of SEQ+ says.
use Rattle.std.specs.Prelude.{◌≡◌, ℕ}
use Rattle.y86_isa.specs.Laws.{IsRecordOfStep}
use Rattle.y86_isa.specs.declared.machine.Rec.{Rec}
use Rattle.seq_plus.specs.PlusNames as row
use Rattle.seq_plus.specs.PlusEquations.{at_pc}
use Rattle.seq_plus.specs.declared.state.PlusState.{PlusState}

-- The record of a cycle from s to t, whose signals have the values f, reports all that the cycle changed, as a step at
-- the PC that the file computes: its address is the signal pc. Its icode and ifun are the signals of these names.
pub record TellsCycle (s t : PlusState) (f : ℕ → ℕ) (r : Rec) : Type 0 where
  pub step : IsRecordOfStep (at_pc s (f row.pc)) (at_pc t (f row.pc)) r
  pub icode : r.icode ≡ f row.icode
  pub ifun : r.ifun ≡ f row.ifun
