-- A design has one verdict.
use Rattle.std.proofs.Common.{◌≡◌, ◌⊎◌, ℕ, ◌≤◌, Bool, List, sym, ap, ◌∙◌, subst, inl, inr}
use Rattle.control_check.specs.PipeVerdicts as pipe
use Rattle.control_check.proofs.OneSettings.{settings_alike}
use Rattle.ctl_atoms.specs.declared.leaf.Atom.{Atom}
use Rattle.dp_signals.specs.PipeTable.{pipe_rows}
use Rattle.hcl_types.specs.Tables.{IsOrderOf, row_names}
use Rattle.hcl_types.specs.declared.table.Row.{Row}
use Rattle.hcl_types.specs.declared.term.Term.{Term}
use Rattle.pipe_fields.specs.Layout.{bit_count}
use Rattle.pipe_motion.specs.declared.settings.Settings.{Settings}
use Rattle.pipe_obligations.specs.FileSettings.{IsFalseAt, IsLeastFalse}
use Rattle.pipe_obligations.specs.FileSettings.{PipeControls}
use Rattle.bdd_decide.specs.Decisions.{IsLeastOf}
use Rattle.ctl_verdicts.specs.ObligationSet as plain
use Rattle.verdict_text.specs.PipeLines.{pipe_no, pipe_yes}
use Rattle.y86_base.specs.declared.parts.Variant.{Variant}
use Rattle.cli_checks.specs.Checks.{AnswersNoSeq, PipeChecks, SeqChecks}
use Rattle.cli_verdicts.specs.Verdicts.{AnswersYesPipe, AnswersNoPipe, RefusesControl, RefusesPipe}
use Rattle.cli_checks.specs.Sequential.{no_text}
use Rattle.seq_plus.specs.Datapaths.{rows_of}
use Rattle.seq_check.specs.Datapaths.{questions_of}
use Rattle.seq_check.specs.Verdicts.{Accepts, Rejects}
use Rattle.cli_plans.specs.Lines.{blank_names, names_at, names_line}
use Rattle.cli_plans.specs.Plan.{Answer, done, refused}
use Rattle.hcl_types.specs.declared.table.SequentialDatapath.{SequentialDatapath}
use Rattle.hcl_order.proofs.Members.{le_or}
use Rattle.ctl_atoms.specs.Atoms.{AreAtoms}
use Rattle.hcl_laws.proofs.Atoms.{mixed_has_no_atoms, mixed_is_not_over, one_list, one_mixed, over_has_no_atoms}
use Rattle.y86_answer_laws.proofs.Least.{least_false_one, least_one}
use Rattle.std.proofs.Common.{◌<◌, arith, length, codes, ◌+◌, ◌∷◌, []}

-- ---- a design without control values

module _ (name : List ℕ) (rows : List Row) (terms : List Term) (ids : List ℕ) (ordered : IsOrderOf rows terms ids) where
  pub control_one : (a b : Answer) → RefusesControl name rows terms a → RefusesControl name rows terms b → a ≡ b
  control_one a b (inl h) (inl k) =
      h.told ∙ ap (λ n. refused 5 (names_line name (codes "Mixed") (blank_names (names_at (row_names rows) (n ∷ []))))) (one_mixed rows terms h.row k.row h.first k.first) ∙ sym k.told
  control_one a b (inl h) (inr k) = absurd (mixed_is_not_over rows terms h.row h.first k.over)
  control_one a b (inr h) (inl k) = absurd (mixed_is_not_over rows terms k.row k.first h.over)
  control_one a b (inr h) (inr k) = h.told ∙ sym k.told

  pub control_apart : (a : Answer) → RefusesControl name rows terms a → (atoms : List Atom) → AreAtoms rows terms atoms → ⊥
  control_apart a (inl h) atoms are = mixed_has_no_atoms rows terms h.row atoms h.first are
  control_apart a (inr h) atoms are = over_has_no_atoms rows terms ids ordered atoms h.over are

-- ---- SEQ and SEQ+

accepted_atoms : (which : SequentialDatapath) (v : Variant) (terms : List Term) → Accepts which v terms → (atoms : List Atom) × AreAtoms (rows_of which) terms atoms
accepted_atoms which v terms h = (h.atoms, h.are)

not_both : (which : SequentialDatapath) (v : Variant) (terms : List Term) (rule : ℕ) (w : List Bool) → Accepts which v terms → Rejects which v terms rule w → ⊥
not_both which v terms rule w h k = k.refused h.holds

module _ (which : SequentialDatapath) (name : List ℕ) (v : Variant) (terms : List Term) (ids : List ℕ) (ordered : IsOrderOf (rows_of which) terms ids) where
  denied_one : (a b : Answer) → AnswersNoSeq which v terms a → AnswersNoSeq which v terms b → a ≡ b
  denied_one a b h k =
      let atoms = one_list (rows_of which) terms ids ordered h.rejected.atoms k.rejected.atoms h.rejected.are k.rejected.are in
      let least = least_false_one (questions_of which v) terms k.rejected.atoms h.rule k.rule h.valuation k.valuation
      (subst (λ xs. plain.IsLeastFalseOf (questions_of which v) terms xs h.rule h.valuation) atoms h.rejected.least) k.rejected.least in
      h.told ∙ ap (λ xs. done 1 (no_text which h.rule h.valuation xs)) atoms ∙ ap (λ r. done 1 (no_text which r h.valuation k.rejected.atoms)) least.0
      ∙ ap (λ w. done 1 (no_text which k.rule w k.rejected.atoms)) least.1 ∙ sym k.told

  pub seq_check_one : (a b : Answer) → SeqChecks which name v terms a → SeqChecks which name v terms b → a ≡ b
  seq_check_one a b (inl h) (inl k) = h.told ∙ sym k.told
  seq_check_one a b (inl h) (inr (inl k)) = absurd (not_both which v terms k.rule k.valuation h.accepted k.rejected)
  seq_check_one a b (inl h) (inr (inr k)) =
      let atoms = accepted_atoms which v terms h.accepted in
      absurd (control_apart name (rows_of which) terms ids ordered b k atoms.0 atoms.1)
  seq_check_one a b (inr (inl h)) (inl k) = absurd (not_both which v terms h.rule h.valuation k.accepted h.rejected)
  seq_check_one a b (inr (inr h)) (inl k) =
      let atoms = accepted_atoms which v terms k.accepted in
      absurd (control_apart name (rows_of which) terms ids ordered a h atoms.0 atoms.1)
  seq_check_one a b (inr (inl h)) (inr (inl k)) = denied_one a b h k
  seq_check_one a b (inr (inl h)) (inr (inr k)) = absurd (control_apart name (rows_of which) terms ids ordered b k h.rejected.atoms h.rejected.are)
  seq_check_one a b (inr (inr h)) (inr (inl k)) = absurd (control_apart name (rows_of which) terms ids ordered a h k.rejected.atoms k.rejected.are)
  seq_check_one a b (inr (inr h)) (inr (inr k)) = control_one name (rows_of which) terms ids ordered a b h k

-- ---- PIPE

module _ (name : List ℕ) (v : Variant) (terms : List Term) (ids : List ℕ) (ordered : IsOrderOf pipe_rows terms ids) where
  pub settings_one : (s t : Settings) → pipe.AreSettings v terms s → pipe.AreSettings v terms t → s ≡ t
  settings_one s t h k = settings_alike v terms ids ordered s t h k

  pub atoms_one : (s t : Settings) (h : pipe.AreSettings v terms s) (k : pipe.AreSettings v terms t) → h.atoms ≡ k.atoms
  atoms_one s t h k = one_list pipe_rows terms ids ordered h.atoms k.atoms h.are k.are

  as_least : (s : Settings) (atoms : List Atom) (r : ℕ) (w : List Bool) → IsLeastFalse v atoms (PipeControls terms) s r w →
      IsLeastOf (bit_count + length atoms) (IsFalseAt v atoms (PipeControls terms) s r) w
  as_least s atoms r w h = record { size = h.size; holds = h.fails; least = λ u size f x lt agree zero. h.least_valuation u size f x agree zero }

  least_pipe_one : (s : Settings) (atoms : List Atom) (r t : ℕ) (w u : List Bool) → IsLeastFalse v atoms (PipeControls terms) s r w →
      IsLeastFalse v atoms (PipeControls terms) s t u → (r ≡ t) × (w ≡ u)
  least_pipe_one s atoms r t w u h k = by (le_or r t) (le_or t r)
    where
      by : (r ≤ t) ⊎ (t < r) → (t ≤ r) ⊎ (r < t) → (r ≡ t) × (w ≡ u)
      by (inr lt) o = absurd (h.least_rule t k.first lt u k.size k.fails)
      by (inl le) (inr lt) = absurd (k.least_rule r h.first lt w h.size h.fails)
      by (inl le) (inl ge) =
          let same : r ≡ t = omega (arith, le, ge) in
          let moved = subst (λ n. IsLeastFalse v atoms (PipeControls terms) s n u) (sym same) k in
          (same, least_one _ _ w u (as_least s atoms r w h) (as_least s atoms r u moved))

  pub denies_pipe_one : (a b : Answer) → AnswersNoPipe v terms a → AnswersNoPipe v terms b → a ≡ b
  denies_pipe_one a b h k =
      let settings = settings_one h.rejected.found k.rejected.found h.rejected.settings k.rejected.settings in
      let atoms = atoms_one h.rejected.found k.rejected.found h.rejected.settings k.rejected.settings in
      let moved : IsLeastFalse v k.rejected.settings.atoms (PipeControls terms) k.rejected.found h.rule h.valuation =
      subst (λ s. IsLeastFalse v k.rejected.settings.atoms (PipeControls terms) s h.rule h.valuation) settings
      (subst (λ xs. IsLeastFalse v xs (PipeControls terms) h.rejected.found h.rule h.valuation) atoms h.rejected.least) in
      let least = least_pipe_one k.rejected.found k.rejected.settings.atoms h.rule k.rule h.valuation k.valuation moved k.rejected.least in
      h.told ∙ ap (λ xs. done 1 (pipe_no (row_names pipe_rows) h.rule h.valuation xs)) atoms ∙ ap (λ r. done 1 (pipe_no (row_names pipe_rows) r h.valuation k.rejected.settings.atoms)) least.0
      ∙ ap (λ w. done 1 (pipe_no (row_names pipe_rows) k.rule w k.rejected.settings.atoms)) least.1 ∙ sym k.told

  pub accepts_pipe_one : (a b : Answer) → AnswersYesPipe v terms a → AnswersYesPipe v terms b → a ≡ b
  accepts_pipe_one a b h k =
      h.told ∙ ap (λ s. done 0 (pipe_yes s)) (settings_one h.settings k.settings h.accepted.settings k.accepted.settings) ∙ sym k.told

  pub refuses_pipe_one : (a b : Answer) → RefusesPipe name v terms a → RefusesPipe name v terms b → a ≡ b
  refuses_pipe_one a b (inl h) (inl k) = denies_pipe_one a b h k
  refuses_pipe_one a b (inl h) (inr k) = absurd (control_apart name pipe_rows terms ids ordered b k h.rejected.settings.atoms h.rejected.settings.are)
  refuses_pipe_one a b (inr h) (inl k) = absurd (control_apart name pipe_rows terms ids ordered a h k.rejected.settings.atoms k.rejected.settings.are)
  refuses_pipe_one a b (inr h) (inr k) = control_one name pipe_rows terms ids ordered a b h k

  pub pipe_apart : (a b : Answer) → AnswersYesPipe v terms a → RefusesPipe name v terms b → ⊥
  pipe_apart a b h (inl k) = k.rejected.refused h.settings h.accepted
  pipe_apart a b h (inr k) = control_apart name pipe_rows terms ids ordered b k h.accepted.settings.atoms h.accepted.settings.are

  pub pipe_check_one : (a b : Answer) → PipeChecks name v terms a → PipeChecks name v terms b → a ≡ b
  pipe_check_one a b (inl h) (inl k) = accepts_pipe_one a b h k
  pipe_check_one a b (inl h) (inr k) = absurd (pipe_apart a b h k)
  pipe_check_one a b (inr h) (inl k) = absurd (pipe_apart b a k h)
  pipe_check_one a b (inr h) (inr k) = refuses_pipe_one a b h k
