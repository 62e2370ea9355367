-- A pipelined machine as its callers see it, and what one call of `cycle` does.
use Rattle.std.specs.Prelude.{◌≡◌, ℕ, ◌+◌, true, false, List, length, Option, Some, None}
use Rattle.std.specs.Option.{option_to_list}
use Rattle.y86_base.specs.Stat.{stat_of}
use Rattle.y86_base.specs.declared.parts.Stat.{Stat}
use Rattle.y86_base.specs.declared.parts.Stat.TheVariants as stat
use Rattle.y86_base.specs.declared.parts.Variant.{Variant}
use Rattle.y86_isa.specs.Machine.{is_aok}
use Rattle.y86_isa.specs.declared.machine.Machine.{Machine}
use Rattle.y86_isa.specs.declared.machine.Rec.{Rec}
use Rattle.hcl_types.specs.declared.term.Term.{Term}
use Rattle.dp_signals.specs.PipeCycle.{ending, next, retires}
use Rattle.dp_signals.specs.PipeEquations.{Solves}
use Rattle.dp_signals.specs.PipeNames as row
use Rattle.dp_signals.specs.PipeRun.{end_by, end_pc}
use Rattle.dp_signals.specs.PipeState.{start_state}
use Rattle.dp_signals.specs.declared.register_updates.CycleEnd.{CycleEnd}
use Rattle.dp_signals.specs.declared.register_updates.CycleEnd.TheVariants.{Going, Stopped, Pip}
use Rattle.dp_signals.specs.declared.pipe_state.PipeState.{PipeState}
use Rattle.pipe_path.specs.declared.pipe.Cycled.{Cycled}
use Rattle.pipe_path.specs.declared.pipe.Cycled.TheVariants as told

-- the instruction set, the design with its order, the state, the numbers of cycles done and records retired, and how
-- the machine ended: AOK while it goes on
pub record PipeMachine : Type 0 where
  pub variant : Variant
  pub terms : List Term
  pub order : List ℕ
  pub state : PipeState
  pub cycles : ℕ
  pub retired : ℕ
  pub end : Stat

-- a machine with these parts
abbrev pub seen : Variant → List Term → List ℕ → PipeState → ℕ → ℕ → Stat → PipeMachine
seen v terms order state cycles retired end =
    record { variant = v; terms = terms; order = order; state = state; cycles = cycles; retired = retired; end = end }

-- the machine before its first cycle
abbrev pub started : Variant → List Term → List ℕ → List ℕ → PipeMachine
started v terms order image = seen v terms order (start_state image) 0 0 stat.Aok

-- the machine after a cycle with these values
abbrev pub after_cycle : PipeMachine → (ℕ → ℕ) → PipeMachine
after_cycle p f =
    record p {
      state = next p.state f;
      cycles = p.cycles + 1;
      retired = p.retired + length (option_to_list (retires p.state f));
      end = end_by (ending f) (stat_of (f row.Stat));
    }

-- the result of the call for a cycle: how it ended, and the record that retired
abbrev pub going_answer : Option Rec → Cycled
going_answer None = told.Bubble
going_answer (Some r) = told.Retired r

abbrev pub call_answer : CycleEnd → Option Rec → Cycled
call_answer Going r = going_answer r
call_answer Stopped r = told.Stopped r
call_answer Pip r = told.Pip r

-- a call on the machine p that returns r and leaves the machine q: after the end nothing changes, and before it the
-- machine does one cycle with values that solve the cycle's equations
pub record IsPipeCall (p : PipeMachine) (r : Cycled) (q : PipeMachine) : Type 0 where
  pub ended : is_aok p.end ≡ false → (r ≡ told.Ended) × (q ≡ p)
  pub goes : is_aok p.end ≡ true →
      (f : ℕ → ℕ) × Solves p.variant p.terms p.state f × (q ≡ after_cycle p f) × (r ≡ call_answer (ending f) (retires p.state f))

-- the machine's end, as a machine of the instruction level
abbrev pub end_of : PipeMachine → Machine
end_of p =
    record { regs = p.state.regs; flags = p.state.flags; pc = end_pc p.state p.end; stat = p.end; mem = p.state.mem }
