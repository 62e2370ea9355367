-- Runs of PIPE to their end or to a limit of cycles.
use Rattle.std.specs.Prelude.{◌≡◌, ℕ, zero, suc, ◌<◌, ◌≤◌, true, false, List}
use Rattle.y86_base.specs.declared.parts.Variant.{Variant}
use Rattle.y86_isa.specs.Machine.{is_aok}
use Rattle.y86_isa.specs.declared.machine.Machine.{Machine}
use Rattle.hcl_types.specs.declared.term.Term.{Term}
use Rattle.dp_signals.specs.PipeRun.{PipeHistory, IsPipeCycle, start_pipe, end_pc}

-- p is the machine of the design on an image after the given number of cycles; it hadn't ended before any of them
abbrev pub RunsFor : Variant → List Term → List ℕ → ℕ → PipeHistory → Type 0
RunsFor v terms image zero p = p ≡ start_pipe image
RunsFor v terms image (suc k) p = (q : PipeHistory) × RunsFor v terms image k q × (is_aok q.end ≡ true) × IsPipeCycle v terms q p

-- p is the machine at its end, or at the limit of cycles if it doesn't end before
pub record RunsTo (v : Variant) (terms : List Term) (image : List ℕ) (limit cycles : ℕ) (p : PipeHistory) : Type 0 where
  pub within : cycles ≤ limit
  pub goes : RunsFor v terms image cycles p
  pub whole : cycles < limit → is_aok p.end ≡ false

-- the end of a run, as the machine of the instruction level that it represents
abbrev pub end_of : PipeHistory → Machine
end_of p = record { regs = p.state.regs; flags = p.state.flags; pc = end_pc p.state p.end; stat = p.end; mem = p.state.mem }
