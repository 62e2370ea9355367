-- A run has one answer.
use Rattle.std.proofs.Common.{◌≡◌, ◌⊎◌, ℕ, zero, suc, ◌<◌, ◌≤◌, Bool, true, List, length, sym, ap, ◌∙◌, subst, inl, inr, arith}
use Rattle.dp_signals.specs.PipeRun.{PipeHistory, PipeRun}
use Rattle.dp_signals.specs.PipeTable.{pipe_rows}
use Rattle.hcl_order.proofs.Members.{last_or, le_or}
use Rattle.hcl_types.specs.Tables.{IsBound, IsOrderOf}
use Rattle.hcl_types.specs.declared.term.Term.{Term}
use Rattle.pipe_path.proofs.OneRun as pipe
use Rattle.prog_cosim.specs.Cosimulation.{IsCosimulation, run_limit}
use Rattle.prog_cosim.specs.RunsTo.{RunsFor, RunsTo, end_of}
use Rattle.prog_cosim.specs.declared.both.CosimResult.{CosimResult}
use Rattle.prog_gen.specs.Programs.{program}
use Rattle.seq_path.proofs.Runs as seq
use Rattle.seq_plus.specs.PlusNames as row
use Rattle.seq_plus.specs.PlusEquations.{at_pc}
use Rattle.seq_plus.specs.PlusRun.{PlusEndIs, plus_start}
use Rattle.seq_plus.specs.declared.state.PlusState.{PlusState}
use Rattle.seq_plus.proofs.OneRun as plus
use Rattle.seq_plus.proofs.OneRun.{plus_unique}
use Rattle.y86_base.specs.declared.parts.Variant.{Variant}
use Rattle.y86_base.specs.declared.parts.Stat.TheVariants.{Hlt}
use Rattle.y86_isa.specs.Machine.{is_aok, start}
use Rattle.y86_isa.specs.Run.{run}
use Rattle.y86_isa.specs.declared.machine.Machine.{Machine}
use Rattle.y86_isa.specs.declared.machine.Rec.{Rec}
use Rattle.cli_runs.specs.Answers.{PipeAnswers, SeqAnswers}
use Rattle.cli_plans.specs.Stages.{run_status}
use Rattle.cli_runs.specs.Big.{BigAnswers, big_line, big_status}
use Rattle.cli_plans.specs.Datapaths.{IsMachineRun}
use Rattle.seq_plus.specs.Datapaths.{rows_of}
use Rattle.cli_runs.specs.PipeRuns.{run_text}
use Rattle.cli_plans.specs.Plan.{Answer, done}
use Rattle.hcl_types.specs.declared.table.SequentialDatapath.{SequentialDatapath}
use Rattle.hcl_types.specs.declared.table.SequentialDatapath.TheVariants.{Seq, SeqPlus}
use Rattle.y86_answer_laws.proofs.Least.{same_bools}
use Rattle.yis_run.specs.Report.{report}
use Rattle.std.proofs.Common.{◌++◌}

-- ---- SEQ and SEQ+

module _ (v : Variant) (terms : List Term) (ids image : List ℕ) where
  plus_ends_one : IsBound (rows_of SeqPlus) terms → IsOrderOf (rows_of SeqPlus) terms ids → (t : PlusState) (a b : Machine) → PlusEndIs v terms t a → PlusEndIs v terms t b → a ≡ b
  plus_ends_one bound o t a b h k =
      let f = h.1 in
      let g = k.1 in
      let pc : h.0 ≡ k.0 = sym f.2 ∙ plus_unique v t terms ids bound o f.0 g.0 f.1 g.1 row.pc ∙ g.2 in
      h.2 ∙ ap (at_pc t) pc ∙ sym k.2

  pub runs_one : (which : SequentialDatapath) → IsBound (rows_of which) terms → IsOrderOf (rows_of which) terms ids → (n : ℕ) (a b : Machine) (rs xs : List Rec) →
      IsMachineRun which v terms image n a rs → IsMachineRun which v terms image n b xs → (a ≡ b) × (rs ≡ xs)
  runs_one Seq bound o n a b rs xs h k = seq.run_alone v terms ids bound o (start image) n a b rs xs h k
  runs_one SeqPlus bound o n a b rs xs h k =
      let one = plus.run_alone v terms ids bound o (plus_start image) n h.0 k.0 rs xs h.1 k.1 in
      (plus_ends_one bound o k.0 a b (subst (λ t. PlusEndIs v terms t a) one.0 h.2) k.2, one.1)

  pub seq_answers_one : (which : SequentialDatapath) → IsBound (rows_of which) terms → IsOrderOf (rows_of which) terms ids → (limit : ℕ) (a b : Answer) →
      SeqAnswers which v terms limit image a → SeqAnswers which v terms limit image b → a ≡ b
  seq_answers_one which bound o limit a b h k =
      let one = runs_one which bound o limit h.0 k.0 h.1 k.1 h.2 k.2 in
      h.3 ∙ ap (λ (e : Machine). done (run_status e.stat) (report image e (length h.1))) one.0 ∙ ap (λ (rs : List Rec). done (run_status k.0.stat) (report image k.0 (length rs))) one.1 ∙ sym k.3

-- ---- PIPE

module _ (v : Variant) (terms : List Term) (ids : List ℕ) (bound : IsBound pipe_rows terms) (o : IsOrderOf pipe_rows terms ids) (image : List ℕ) where
  as_run : (k : ℕ) (p : PipeHistory) → RunsFor v terms image k p → PipeRun v terms image k p
  as_run zero p h = h
  as_run (suc k) p h = (h.0, as_run k h.0 h.1, h.3)

  -- before each cycle the machine had not ended
  going : (k c : ℕ) (p : PipeHistory) → RunsFor v terms image k p → c < k → (q : PipeHistory) × PipeRun v terms image c q × (is_aok q.end ≡ true)
  going zero c p h lt = absurd (omega (arith, lt))
  going (suc k) c p h lt = by (λ l. going k c h.0 h.1 l) (last_or c k lt)
    where
      by : (c < k → (q : PipeHistory) × PipeRun v terms image c q × (is_aok q.end ≡ true)) → (c < k) ⊎ (c ≡ k) → (q : PipeHistory) × PipeRun v terms image c q × (is_aok q.end ≡ true)
      by earlier (inl l) = earlier l
      by earlier (inr e) = (h.0, subst (λ n. PipeRun v terms image n h.0) (sym e) (as_run k h.0 h.1), h.2)

  no_later : (limit c d : ℕ) (p q : PipeHistory) → RunsTo v terms image limit c p → RunsTo v terms image limit d q → c < d → ⊥
  no_later limit c d p q h k lt =
      let there = going d c q k.goes lt in
      let same : there.0 ≡ p = pipe.run_alone v terms ids bound o image c there.0 p there.1 (as_run c p h.goes) in
      absurd (cc (there.2, ap (λ (m : PipeHistory). is_aok m.end) same, h.whole (omega (arith, lt, k.within))))

  pub runs_to_one : (limit c d : ℕ) (p q : PipeHistory) → RunsTo v terms image limit c p → RunsTo v terms image limit d q → (c ≡ d) × (p ≡ q)
  runs_to_one limit c d p q h k = by (le_or c d) (le_or d c)
    where
      by : (c ≤ d) ⊎ (d < c) → (d ≤ c) ⊎ (c < d) → (c ≡ d) × (p ≡ q)
      by (inr lt) x = absurd (no_later limit d c q p k h lt)
      by (inl le) (inr lt) = absurd (no_later limit c d p q h k lt)
      by (inl le) (inl ge) =
          let same : c ≡ d = omega (arith, le, ge) in
          (same, pipe.run_alone v terms ids bound o image c p q (as_run c p h.goes) (subst (λ n. PipeRun v terms image n q) (sym same) (as_run d q k.goes)))

  pub pipe_answers_one : (limit : ℕ) (trace : Bool) (verdict : List ℕ) (a b : Answer) → PipeAnswers v terms limit trace verdict image a →
      PipeAnswers v terms limit trace verdict image b → a ≡ b
  pipe_answers_one limit trace verdict a b h k =
      let one = runs_to_one limit h.0 k.0 h.1 k.1 h.2 k.2 in
      h.3 ∙ ap (λ n. done (run_status h.1.end) (verdict ++ run_text trace image n h.1)) one.0
      ∙ ap (λ (p : PipeHistory). done (run_status p.end) (verdict ++ run_text trace image k.0 p)) one.1 ∙ sym k.3

-- ---- the instructions and PIPE, as in `big`

module _ (v : Variant) (terms : List Term) (ids : List ℕ) (bound : IsBound pipe_rows terms) (o : IsOrderOf pipe_rows terms ids) (n : ℕ) where
  -- both reports are the same bytes
  abbrev Alike : ℕ → PipeHistory → Type 0
  Alike steps p = report (program n) (run v (program n) (run_limit n)) steps ≡ report (program n) (end_of p) (length p.records)

  alike : (s t : ℕ) (p q : PipeHistory) → s ≡ t → p ≡ q → Alike s p → Alike t q
  alike s t p q e f h = subst (λ x. Alike t x) f (subst (λ x. Alike x p) e h)

  abbrev Halted : PipeHistory → Type 0
  Halted p = ((run v (program n) (run_limit n)).stat ≡ Hlt) × (p.end ≡ Hlt)

  abbrev made : ℕ → ℕ → Bool → Bool → CosimResult
  made steps cycles same halted = record { steps = steps; cycles = cycles; same = same; halted = halted }

  both_one : (a b : CosimResult) → IsCosimulation v terms n a → IsCosimulation v terms n b → a ≡ b
  both_one a b h k =
      let one = runs_to_one v terms ids bound o (program n) (run_limit n) a.cycles b.cycles h.end k.end h.runs k.runs in
      let steps : a.steps ≡ b.steps = h.steps ∙ sym k.steps in
      let same : a.same ≡ b.same = same_bools a.same b.same
      (λ t. k.same.1 (alike a.steps b.steps h.end k.end steps one.1 (h.same.0 t)))
      (λ t. h.same.1 (alike b.steps a.steps k.end h.end (sym steps) (sym one.1) (k.same.0 t))) in
      let halted : a.halted ≡ b.halted = same_bools a.halted b.halted
      (λ t. k.halted.1 (subst Halted one.1 (h.halted.0 t))) (λ t. h.halted.1 (subst Halted (sym one.1) (k.halted.0 t))) in
      ap (λ (x : ℕ). made x a.cycles a.same a.halted) steps ∙ ap (λ (x : ℕ). made b.steps x a.same a.halted) one.0
      ∙ ap (λ (x : Bool). made b.steps b.cycles x a.halted) same ∙ ap (λ (x : Bool). made b.steps b.cycles b.same x) halted

  pub big_one : (a b : Answer) → BigAnswers v terms n a → BigAnswers v terms n b → a ≡ b
  big_one a b h k = h.2 ∙ ap (λ both. done (big_status both) (big_line n both)) (both_one h.0 k.0 h.1 k.1) ∙ sym k.2
