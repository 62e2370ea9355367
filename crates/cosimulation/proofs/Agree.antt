-- Under a design that refines the run of instructions on an image, the comparison finds no difference.
use Rattle.std.proofs.Common.{◌≡◌, ℕ, ◌+◌, false, List, [], ◌∷◌, ◌++◌, length, Option, Some, None, refl, sym, ap, ◌∙◌, subst, arith}
use Rattle.std.proofs.lemmas.List.{length_push}
use Rattle.std.specs.Option.{option_to_list}
use Rattle.dp_signals.specs.PipeRun as run
use Rattle.hcl_types.specs.declared.term.Term.{Term}
use Rattle.pipe_path.specs.Pipe.{PipeMachine, end_of, started}
use Rattle.pipe_refinement.specs.Refines.{Refines, StopsAs}
use Rattle.prog_cosim.proofs.Drives.{driven, machine}
use Rattle.prog_cosim.proofs.Refined.{off_stopped, pipe_run}
use Rattle.retire_trace.specs.Drive.{CallsFor}
use Rattle.y86_base.specs.Registers.{register}
use Rattle.y86_base.specs.declared.parts.Variant.{Variant}
use Rattle.yis_run.specs.Report.{aligned_word}
use Rattle.y86_isa.specs.Machine.{is_aok, start}
use Rattle.y86_isa.specs.Run.{records, run as run_of}
use Rattle.y86_isa.specs.Step.{retired}
use Rattle.y86_isa.specs.declared.machine.Machine.{Machine}
use Rattle.y86_isa.specs.declared.machine.Rec.{Rec}
use Rattle.y86_isa.proofs.Runs.{records_from-last}
use Rattle.cosimulation.specs.Lockstep.{IsAlike, IsCompared, IsFirstDifferent}
use Rattle.cosimulation.specs.States.{DiffersIn}
use Rattle.cosimulation.specs.Agreement.{FindsNone}
use Rattle.cosimulation.specs.declared.lockstep.Compared.{Compared}
use Rattle.cosimulation.specs.declared.lockstep.Compared.TheVariants.{Same, Open, Record, State}
use Rattle.cosimulation.specs.declared.lockstep.RecordDiffers.{RecordDiffers}
use Rattle.cosimulation.specs.declared.states.Part.{Part}
use Rattle.cosimulation.specs.declared.states.Part.TheVariants.{Stat, Pc, Flags, Register, Memory}

module _ (v : Variant) (terms : List Term) (order image : List ℕ) (refines : (k : ℕ) → Refines v terms image k) where
  ran : (k : ℕ) (q : PipeMachine) (rs : List Rec) → CallsFor (started v terms order image) k q rs → run.PipeRun v terms image k (machine q rs)
  ran k q rs goes = pipe_run v terms image k (machine q rs) (driven v terms order image k q rs goes).goes

  one_by : (xs : List Rec) (o : Option Rec) (one : Rec) → xs ++ one ∷ [] ≡ xs ++ option_to_list o → o ≡ Some one
  one_by [] None one e = absurd (cc (e))
  one_by [] (Some other) one e = cc (e)
  one_by (x ∷ xs) o one e = one_by xs o one (cc (e))

  no_other : (d : RecordDiffers) → IsFirstDifferent v (started v terms order image) (start image) d → ⊥
  no_other d f =
      let rs : List Rec = records v image d.before ++ d.retired ∷ [] in
      let is : rs ≡ records v image (length rs) = (refines d.cycle).records (machine f.after rs) (ran d.cycle f.after rs f.goes) in
      let count : length rs ≡ d.before + 1 = omega (arith, length_push (records v image d.before) d.retired, f.alike.count) in
      let all : rs ≡ records v image d.before ++ option_to_list (retired v (run_of v image d.before)) =
      is ∙ (ap (records v image) count ∙ records_from-last v (start image) d.before) in
      f.differs (f.wanted ∙ one_by (records v image d.before) (retired v (run_of v image d.before)) d.retired all)

  same_machine : (steps cycles : ℕ) (q : PipeMachine) → IsAlike v (started v terms order image) (start image) cycles steps q → is_aok q.end ≡ false → StopsAs (machine q (records v image steps)) (run_of v image steps)
  same_machine steps cycles q a off =
      let here : run.PipeRun v terms image cycles (machine q (records v image steps)) = ran cycles q (records v image steps) a.goes in
      subst (λ (k : ℕ). StopsAs (machine q (records v image steps)) (run_of v image k)) a.count
      ((refines cycles).stop (machine q (records v image steps)) here (off_stopped q.end off ((refines cycles).never_pip (machine q (records v image steps)) here)))

  no_part : (m n : Machine) (part : Part) → m ≡ n → DiffersIn m n part → ⊥
  no_part m n (Stat a b) e (p, q, differs) = differs (p ∙ (ap (λ (x : Machine). x.stat) e ∙ sym q))
  no_part m n (Pc a b) e (p, q, differs) = differs (p ∙ (ap (λ (x : Machine). x.pc) e ∙ sym q))
  no_part m n (Flags a b) e (p, q, differs) = differs (p ∙ (ap (λ (x : Machine). x.flags) e ∙ sym q))
  no_part m n (Register k a b) e (p, q, differs) = differs (p ∙ (ap (λ (x : Machine). register x.regs k) e ∙ sym q))
  no_part m n (Memory k a b) e (p, q, differs) = differs (p ∙ (ap (λ (x : Machine). aligned_word x.mem k) e ∙ sym q))

  pub finds_none : (limit : ℕ) (c : Compared) → IsCompared v (started v terms order image) (start image) limit c → FindsNone c
  finds_none limit (Same steps cycles) is = tt
  finds_none limit (Open steps) is = tt
  finds_none limit (Record d) is = no_other d is.1
  finds_none limit (State steps cycles part) (q, a, within, off, first) =
      let s = same_machine steps cycles q a off in
      let e : end_of q ≡ run_of v image steps = rw (s.registers, s.flags, s.memory, s.pc, s.stat) refl in
      no_part (end_of q) (run_of v image steps) part e first.differs
