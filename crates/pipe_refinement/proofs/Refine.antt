-- Cycles whose values have the facts refine the run of instructions.
use Rattle.std.proofs.Common.{◌≡◌, ◌≢◌, ℕ, zero, suc, ◌+◌, ◌*◌, ◌<◌, ◌≤◌, ◌⊎◌, inl, inr, Bool, true, false, ◌&&◌, ◌||◌, List, [], length, refl, sym, ap, ◌∙◌, subst, arith, add-one}
use Rattle.std.proofs.lemmas.Bool.{false≢true}
use Rattle.y86_base.specs.declared.parts.Stat.TheVariants.{Aok, Pip}
use Rattle.y86_base.specs.declared.parts.Stat.{Stat}
use Rattle.y86_isa.specs.Machine.{is_aok}
use Rattle.yis_pure_runs.specs.Near.{NearPure}
use Rattle.y86_isa.proofs.Runs.{is_aok-from_not}
use Rattle.y86_isa.specs.Run.{IsImage, records, records_from, run, run_from}
use Rattle.yis_run_laws.specs.Instructions.{state_before, stops_at}
use Rattle.hcl_types.specs.declared.term.Term.{Term}
use Rattle.dp_signals.specs.PipeCycle.{ending}
use Rattle.dp_signals.specs.PipeEquations.{Solves}
use Rattle.dp_signals.specs.PipeRun.{PipeHistory, PipeRun, after_cycle, end_by, ended_by_status}
use Rattle.dp_signals.specs.PipeState.{start_state}
use Rattle.dp_signals.specs.declared.register_updates.CycleEnd.TheVariants.{Going}
use Rattle.dp_signals.proofs.PipeRows.{pipe_hardware_rows, pipe_holds}
use Rattle.pipe_refinement.specs.Invariant.{RunContext, CouplingInvariant, run_flow}
use Rattle.pipe_refinement.specs.Kinds.{Schedule, requested_controls, fetched_kind, in_w, is_good, next_schedule, start_schedule}
use Rattle.pipe_refinement.specs.Refines.{Refines, StopsAs}
use Rattle.pipe_motion.specs.Flow.{flow_legal, path}
use Rattle.pipe_refinement.specs.Theorems.{MeetsFacts}
use Rattle.pipe_refinement.proofs.Bound.{dist, dist_least, shorter}
use Rattle.pipe_refinement.proofs.Empties.{empty_d_bubble, empty_e_bubble, empty_m_bubble, empty_w_bubble}
use Rattle.pipe_refinement.proofs.Motions.{motion_of}
use Rattle.pipe_refinement.proofs.Step.{is_going, kept_inv}
use Rattle.pipe_refinement.proofs.Stop.{Ended, ended_now}

start_legal : (je rm : Bool) → (je || true) && (rm || true) ≡ true
start_legal true true = refl
start_legal true false = refl
start_legal false true = refl
start_legal false false = refl

pub start_inv : (x : RunContext) → CouplingInvariant x 0 start_schedule (start_state x.image) []
unfolding state_before run_flow run_from records_from flow_legal path
start_inv x = record {
  live_d = refl;
  live_e = refl;
  live_m = refl;
  live_w = refl;
  right_m = refl;
  right_w = refl;
  live = λ i lt. absurd (omega arith);
  last_live = refl;
  few = omega arith;
  empty_d = λ _. empty_d_bubble;
  empty_e = λ _. empty_e_bubble;
  empty_m = λ _. empty_m_bubble;
  empty_w = λ _. empty_w_bubble;
  wrong_d = λ h. cc;
  wrong_e = λ h. cc;
  good_d = λ h. cc;
  good_e = λ h. cc;
  good_m = λ h. cc;
  good_w = λ h. cc;
  regs = refl;
  mem = refl;
  flags = refl;
  legal = start_legal x.s.je x.s.rm;
  awaited = refl;
  path_holds = λ _. refl;
  recs = refl;
  counted = refl;
}

pub record Running (x : RunContext) (k : ℕ) (p : PipeHistory) : Type 0 where
  pub config : Schedule
  pub inv : CouplingInvariant x k config p.state p.records
  pub aok : p.end ≡ Aok
  pub soon : k + dist config ≤ 5 * config.retired + 5

module _ (x : RunContext) (terms : List Term) (n : ℕ) (image : IsImage x.image) (pure : NearPure x.v x.image n) (gives : MeetsFacts x terms n) where
  ends_aok : (f : ℕ → ℕ) (s : Stat) → ending f ≡ Going → end_by (ending f) s ≡ Aok
  ends_aok f s e = rw e refl

  keep : (k : ℕ) (q : PipeHistory) (f : ℕ → ℕ) → k < n → (r : Running x k q) → Solves x.v terms q.state f →
      (is_good r.config.w ≡ true → stops_at x.v x.image (in_w r.config) ≡ false) → Running x (k + 1) (after_cycle q f)
  keep k q f lt r s on =
      let h = gives k r.config q.state q.records f lt r.inv s in
      let st = pipe_holds x.v terms q.state f s in
      let b = pipe_hardware_rows x.v terms q.state f s in
      let y = h.cycle on in
      let m = motion_of x q.state f r.config y.0 r.inv.right_m r.inv.right_w y.1.motion in
      let less = shorter x q.state f r.config y.0 r.inv.legal m in
      record {
        config = next_schedule (requested_controls f) (fetched_kind y.0) r.config;
        inv = kept_inv x n k r.config q.state f q.records y.0 image pure lt r.inv st b h.always y.1 on;
        aok = ends_aok f _ (is_going x n k r.config q.state f q.records y.0 image pure lt r.inv st b h.always y.1 on);
        soon = omega (arith, less, r.soon);
      }

  step : (k : ℕ) (q : PipeHistory) (f : ℕ → ℕ) → k < n → (r : Running x k q) → Solves x.v terms q.state f → Running x (k + 1) (after_cycle q f) ⊎ Ended x (after_cycle q f)
  step k q f lt r s = by _ _ refl refl
    where
      by : (w z : Bool) → is_good r.config.w ≡ w → stops_at x.v x.image (in_w r.config) ≡ z → Running x (k + 1) (after_cycle q f) ⊎ Ended x (after_cycle q f)
      by true true w z =
          let h = gives k r.config q.state q.records f lt r.inv s in
          inr (ended_now x k r.config q f image r.inv (pipe_hardware_rows x.v terms q.state f s) h.always w z)
      by true false w z = inl (keep k q f lt r s (λ _. z))
      by false z w e = inl (keep k q f lt r s (λ g. absurd (false≢true (sym w ∙ g))))

  runs : (k : ℕ) (p : PipeHistory) → k ≤ n → PipeRun x.v terms x.image k p → Running x k p ⊎ Ended x p
  runs zero p le e = subst (λ z. Running x 0 z ⊎ Ended x z) (sym e) (inl (record { config = start_schedule; inv = start_inv x; aok = refl; soon = omega arith }))
  runs (suc k) p le r = elim (runs k r.0 (omega arith) r.1) [
    | inl run ↦
        let g = r.2.goes (ap is_aok run.aok) in
        subst (λ z. Running x (suc k) z ⊎ Ended x z) (sym g.2) (subst (λ j. Running x j (after_cycle r.0 g.0) ⊎ Ended x (after_cycle r.0 g.0)) (add-one k) (step k r.0 g.0 (omega arith) run g.1))
    | inr e ↦ inr (subst (Ended x) (sym (r.2.ended e.stopped)) e)
  ]

  aok_not_pip : Aok ≢ Pip
  aok_not_pip e = false≢true (sym (ap is_aok e))

  same_records : (p : PipeHistory) → Running x n p ⊎ Ended x p → p.records ≡ records x.v x.image (length p.records)
  same_records p (inl run) = run.inv.recs ∙ ap (records x.v x.image) (sym run.inv.counted)
  same_records p (inr e) = e.records_are

  same_registers : (p : PipeHistory) → Running x n p ⊎ Ended x p → p.state.regs ≡ (run x.v x.image (length p.records)).regs
  unfolding state_before
  same_registers p (inl run) = run.inv.regs ∙ ap (λ j. (state_before x.v x.image j).regs) (sym run.inv.counted)
  same_registers p (inr e) = e.regs

  stops_as : (p : PipeHistory) → Running x n p ⊎ Ended x p → ended_by_status p.end ≡ true → StopsAs p (run x.v x.image (length p.records))
  unfolding state_before
  stops_as p (inl run) h = absurd (false≢true (sym (ap ended_by_status run.aok) ∙ h))
  stops_as p (inr e) h =
      record {
        registers = e.regs;
        flags = e.flags;
        memory = e.mem;
        pc = e.pc;
        stat = e.stat;
        not_aok = λ z. false≢true (sym e.stopped ∙ ap is_aok (e.stat ∙ z));
      }

  stops_now : (p : PipeHistory) → Running x n p ⊎ Ended x p → (run x.v x.image (length p.records)).stat ≢ Aok → ended_by_status p.end ≡ true
  unfolding state_before
  stops_now p (inl run) off =
      absurd (false≢true (sym (is_aok-from_not _ off) ∙ (ap (λ j. is_aok (state_before x.v x.image j).stat) run.inv.counted ∙ run.inv.last_live)))
  stops_now p (inr e) off = e.halted

  not_pip : (p : PipeHistory) → Running x n p ⊎ Ended x p → p.end ≢ Pip
  not_pip p (inl run) e = aok_not_pip (sym run.aok ∙ e)
  not_pip p (inr z) e = z.not_pip e

  bound : (m : ℕ) (p : PipeHistory) → Running x (5 * m) p ⊎ Ended x p → (m ≤ length p.records) ⊎ (ended_by_status p.end ≡ true)
  bound m p (inl run) = inl (omega (arith, run.soon, dist_least run.config, run.inv.counted))
  bound m p (inr e) = inr e.halted

  pub refines : Refines x.v terms x.image n
  refines = record {
    records = λ p r. same_records p (runs n p (omega arith) r);
    registers = λ p r. same_registers p (runs n p (omega arith) r);
    stop = λ p r h. stops_as p (runs n p (omega arith) r) h;
    stops_at_once = λ p r off. stops_now p (runs n p (omega arith) r) off;
    never_pip = λ p r. not_pip p (runs n p (omega arith) r);
    five_cycles = λ m p le r. bound m p (runs (5 * m) p le r);
  }
