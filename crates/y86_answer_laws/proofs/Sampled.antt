-- A sample has one answer.
use Rattle.std.proofs.Common.{◌≡◌, ◌⊎◌, ℕ, ◌<◌, ◌≤◌, List, length, sym, ap, ◌∙◌, subst, inl, inr, arith}
use Rattle.dp_signals.specs.PipeTable.{pipe_rows}
use Rattle.hcl_order.proofs.Members.{le_or}
use Rattle.hcl_types.specs.Tables.{IsOrderOf}
use Rattle.hcl_types.specs.declared.term.Term.{Term}
use Rattle.pipe_motion.specs.declared.settings.Settings.{Settings}
use Rattle.pipe_obligations.specs.FileSettings.{IsFalseAt}
use Rattle.pipe_obligations.specs.FileSettings.{PipeControls}
use Rattle.prog_gen.specs.Choices.{valuation}
use Rattle.ctl_atoms.specs.declared.leaf.Atom.{Atom}
use Rattle.y86_base.specs.declared.parts.Variant.{Variant}
use Rattle.cli_plans.specs.Plan.{Answer, done}
use Rattle.cli_obligations.specs.Samples.{DrawnOf, FindsFirst, FindsNone, IsFalseDrawn, SampleAnswers, AnswersFound, found_line}
use Rattle.y86_answer_laws.proofs.Checked.{atoms_one, control_apart, control_one, settings_one}

module _ (name : List ℕ) (v : Variant) (terms : List Term) (ids : List ℕ) (ordered : IsOrderOf pipe_rows terms ids) (seed count : ℕ) where
  abbrev At : List Atom → Settings → ℕ → ℕ → Type 0
  At atoms settings i k = IsFalseAt v atoms (PipeControls terms) settings k (valuation v (length atoms) seed i)

  -- what is false, is false at the one list of atoms and the one list of settings
  moved : (d e : DrawnOf v terms) (i k : ℕ) → IsFalseDrawn v terms d seed i k → IsFalseDrawn v terms e seed i k
  moved d e i k h =
      subst (λ s. At e.are.atoms s i k) (settings_one name v terms ids ordered d.settings e.settings d.are e.are)
      (subst (λ xs. At xs d.settings i k) (atoms_one name v terms ids ordered d.settings e.settings d.are e.are) h)

  none_or_first : (i r : ℕ) → FindsNone v terms seed count → FindsFirst v terms seed count i r → ⊥
  none_or_first i r h k = h.none i k.within r k.from_one k.to_last (moved k.drawn h.drawn i r k.fails)

  -- no find is earlier than the first
  no_earlier : (i j r s : ℕ) → FindsFirst v terms seed count i r → FindsFirst v terms seed count j s → i < j → ⊥
  no_earlier i j r s h k lt = k.earlier i lt r h.from_one h.to_last (moved h.drawn k.drawn i r h.fails)

  no_lesser : (i r s : ℕ) → FindsFirst v terms seed count i r → FindsFirst v terms seed count i s → r < s → ⊥
  no_lesser i r s h k lt = k.before r h.from_one lt (moved h.drawn k.drawn i r h.fails)

  same_index : (i j r s : ℕ) → FindsFirst v terms seed count i r → FindsFirst v terms seed count j s → i ≡ j
  same_index i j r s h k = by (le_or i j) (le_or j i)
    where
      by : (i ≤ j) ⊎ (j < i) → (j ≤ i) ⊎ (i < j) → i ≡ j
      by (inr lt) o = absurd (no_earlier j i s r k h lt)
      by (inl le) (inr lt) = absurd (no_earlier i j r s h k lt)
      by (inl le) (inl ge) = omega (arith, le, ge)

  same_rule : (i r s : ℕ) → FindsFirst v terms seed count i r → FindsFirst v terms seed count i s → r ≡ s
  same_rule i r s h k = by (le_or r s) (le_or s r)
    where
      by : (r ≤ s) ⊎ (s < r) → (s ≤ r) ⊎ (r < s) → r ≡ s
      by (inr lt) o = absurd (no_lesser i s r k h lt)
      by (inl le) (inr lt) = absurd (no_lesser i r s h k lt)
      by (inl le) (inl ge) = omega (arith, le, ge)

  found_one : (a b : Answer) → AnswersFound v terms seed count a → AnswersFound v terms seed count b → a ≡ b
  found_one a b h k =
      let index = same_index h.index k.index h.rule k.rule h.finds k.finds in
      let rule = same_rule k.index h.rule k.rule (subst (λ i. FindsFirst v terms seed count i h.rule) index h.finds) k.finds in
      h.told ∙ ap (λ i. done 1 (found_line i h.rule)) index ∙ ap (λ r. done 1 (found_line k.index r)) rule ∙ sym k.told

  pub sample_one : (a b : Answer) → SampleAnswers name v terms seed count a → SampleAnswers name v terms seed count b → a ≡ b
  sample_one a b (inl h) (inl k) = h.told ∙ sym k.told
  sample_one a b (inl h) (inr (inl k)) = absurd (none_or_first k.index k.rule h.finds k.finds)
  sample_one a b (inl h) (inr (inr k)) = absurd (control_apart name pipe_rows terms ids ordered b k h.finds.drawn.are.atoms h.finds.drawn.are.are)
  sample_one a b (inr (inl h)) (inl k) = absurd (none_or_first h.index h.rule k.finds h.finds)
  sample_one a b (inr (inr h)) (inl k) = absurd (control_apart name pipe_rows terms ids ordered a h k.finds.drawn.are.atoms k.finds.drawn.are.are)
  sample_one a b (inr (inl h)) (inr (inl k)) = found_one a b h k
  sample_one a b (inr (inl h)) (inr (inr k)) = absurd (control_apart name pipe_rows terms ids ordered b k h.finds.drawn.are.atoms h.finds.drawn.are.are)
  sample_one a b (inr (inr h)) (inr (inl k)) = absurd (control_apart name pipe_rows terms ids ordered a h k.finds.drawn.are.atoms k.finds.drawn.are.are)
  sample_one a b (inr (inr h)) (inr (inr k)) = control_one name pipe_rows terms ids ordered a b h k
