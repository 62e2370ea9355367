-- A file has at most one list of settings, and isn't both accepted and rejected.
use Rattle.std.proofs.Common.{◌≡◌, ℕ, ◌<◌, Bool, true, false, List, refl, sym, ap, ◌∙◌, subst, length, get_or}
use Rattle.std.proofs.lemmas.Bool.{false≢true}
use Rattle.std.proofs.lemmas.List.{ext_get_or}
use Rattle.y86_base.specs.declared.parts.Variant.{Variant}
use Rattle.hcl_types.specs.Tables.{IsOrderOf}
use Rattle.hcl_types.specs.declared.term.Term.{Term}
use Rattle.dp_signals.specs.PipeTable.{pipe_rows}
use Rattle.ctl_atoms.specs.Atoms.{AreAtoms}
use Rattle.ctl_atoms.specs.Leaves.{Assignment}
use Rattle.ctl_atoms.specs.declared.leaf.Atom.{Atom}
use Rattle.ctl_atoms.specs.declared.leaf.Leaf.{Leaf}
use Rattle.ctl_atoms.proofs.Solved.{leaves_exist}
use Rattle.pipe_fields.specs.Layout.{Fields, fields_of}
use Rattle.pipe_fields.proofs.Told.{in_range}
use Rattle.pipe_motion.specs.declared.settings.Settings.{Settings}
use Rattle.pipe_obligations.specs.Rules.{obligation}
use Rattle.pipe_obligations.specs.FileSettings.{Decides, Everywhere, IsLeastFalse, Somewhere, ValuationTruth, alu_passes_target, picks_target, witnesses_je, witnesses_lf, witnesses_rm, PipeControls}
use Rattle.pipe_obligations.specs.StageFlows.{flow_of}
use Rattle.hazard_rules.proofs.Designed.{freed, je_freed, lf_freed, rm_freed}
use Rattle.control_check.specs.PipeVerdicts.{AcceptsPipe, AreSettings}

pub one_list : (terms : List Term) (ids : List ℕ) → IsOrderOf pipe_rows terms ids → (a b : List Atom) → AreAtoms pipe_rows terms a → AreAtoms pipe_rows terms b → a ≡ b
one_list terms ids o a b h k = (let some = leaves_exist pipe_rows terms ids o in h.are some.0 some.1 ∙ sym (k.are some.0 some.1))

-- two truths that decide one statement are the same
decided_alike : {P : Type 0} (a b : Bool) → Decides a P → Decides b P → a ≡ b
decided_alike true true h k = refl
decided_alike true false h k = absurd (k.no refl (h.yes refl))
decided_alike false true h k = absurd (h.no refl (k.yes refl))
decided_alike false false h k = refl

-- whether a jump carries its target doesn't depend on the settings
carries_alike : (v : Variant) (s s' : Settings) (c : Fields) (α : Assignment) (cv : ℕ → Leaf) → alu_passes_target v s c α cv ≡ alu_passes_target v s' c α cv
unfolding alu_passes_target flow_of
carries_alike v s s' c α cv = refl

module _ (v : Variant) (terms : List Term) (ids : List ℕ) (o : IsOrderOf pipe_rows terms ids) where
  seven_alike : (xs ys : List Bool) → length xs ≡ 7 → length ys ≡ 7 → ((i : ℕ) → i < 7 → get_or xs i false ≡ get_or ys i false) → xs ≡ ys
  seven_alike xs ys p q each = ext_get_or false xs ys (p ∙ sym q) (λ i lt. each i (subst (λ n. i < n) p lt))

  module _ (s s' : Settings) (h : AreSettings v terms s) (k : AreSettings v terms s') where
    same_atoms : k.atoms ≡ h.atoms
    same_atoms = one_list terms ids o k.atoms h.atoms k.are h.are

    -- truths that decide, in two lists of settings, whether a formula holds everywhere or somewhere
    always_alike : (a b : Bool) (f f' : List Atom → ValuationTruth) → ((them : List Atom) (c : Fields) (α : Assignment) (cv : ℕ → Leaf) → f them c α cv ≡ f' them c α cv) →
        Decides a (Everywhere v h.atoms (PipeControls terms) (f h.atoms)) → Decides b (Everywhere v k.atoms (PipeControls terms) (f' k.atoms)) → a ≡ b
    always_alike a b f f' same p q =
        let alike : f ≡ f' = λ i them c α cv. same them c α cv i in
        decided_alike a b p
        (subst (λ (g : List Atom → ValuationTruth). Decides b (Everywhere v h.atoms (PipeControls terms) (g h.atoms))) (sym alike)
        (subst (λ (them : List Atom). Decides b (Everywhere v them (PipeControls terms) (f' them))) same_atoms q))

    once_alike : (a b : Bool) (f f' : List Atom → ValuationTruth) → ((them : List Atom) (c : Fields) (α : Assignment) (cv : ℕ → Leaf) → f them c α cv ≡ f' them c α cv) →
        Decides a (Somewhere v h.atoms (PipeControls terms) (f h.atoms)) → Decides b (Somewhere v k.atoms (PipeControls terms) (f' k.atoms)) → a ≡ b
    once_alike a b f f' same p q =
        let alike : f ≡ f' = λ i them c α cv. same them c α cv i in
        decided_alike a b p
        (subst (λ (g : List Atom → ValuationTruth). Decides b (Somewhere v h.atoms (PipeControls terms) (g h.atoms))) (sym alike)
        (subst (λ (them : List Atom). Decides b (Somewhere v them (PipeControls terms) (f' them))) same_atoms q))

    pub settings_alike : s ≡ s'
    settings_alike =
        let pt : s.pt ≡ s'.pt = seven_alike s.pt s'.pt h.forward k.forward (λ i lt. always_alike _ _ (λ them. picks_target v them i false) (λ them. picks_target v them i false) (λ them c α cv. refl) (h.set.pt i lt) (k.set.pt i lt)) in
        let pb : s.pb ≡ s'.pb = seven_alike s.pb s'.pb h.backward k.backward (λ i lt. always_alike _ _ (λ them. picks_target v them i true) (λ them. picks_target v them i true) (λ them c α cv. refl) (h.set.pb i lt) (k.set.pb i lt)) in
        let tv : s.tv ≡ s'.tv = always_alike _ _ (λ them. alu_passes_target v s) (λ them. alu_passes_target v s') (λ them c α cv. carries_alike v s s' c α cv) h.set.tv k.set.tv in
        let free = freed s s'.pt s'.pb s'.tv pt pb tv in
        let lf : s.lf ≡ s'.lf = once_alike _ _ (λ them. witnesses_lf v s them) (λ them. witnesses_lf v s' them)
        (λ them c α cv. lf_freed v s them c α cv ∙ ap (λ (x : Settings). witnesses_lf v x them c α cv) free ∙ sym (lf_freed v s' them c α cv)) h.set.lf k.set.lf in
        let je : s.je ≡ s'.je = once_alike _ _ (λ them. witnesses_je v s them) (λ them. witnesses_je v s' them)
        (λ them c α cv. je_freed v s them c α cv ∙ ap (λ (x : Settings). witnesses_je v x them c α cv) free ∙ sym (je_freed v s' them c α cv)) h.set.je k.set.je in
        let rm : s.rm ≡ s'.rm = once_alike _ _ (λ them. witnesses_rm v s them) (λ them. witnesses_rm v s' them)
        (λ them c α cv. rm_freed v s them c α cv ∙ ap (λ (x : Settings). witnesses_rm v x them c α cv) free ∙ sym (rm_freed v s' them c α cv)) h.set.rm k.set.rm in
        λ i. record { pt = pt i; pb = pb i; tv = tv i; lf = lf i; je = je i; rm = rm i }

  -- a design with an obligation that is false somewhere is accepted at no settings
  pub never_accepted : (s s' : Settings) (rule : ℕ) (w : List Bool) (h : AreSettings v terms s) → IsLeastFalse v h.atoms (PipeControls terms) s rule w → AcceptsPipe v terms s' → ⊥
  never_accepted s s' rule w h least a =
      let here = subst (λ (them : List Atom). Everywhere v them (PipeControls terms) (obligation v s' them rule)) (same_atoms s s' h a.settings) (a.holds.obligations rule least.first least.last) in
      let holds = subst (λ (x : Settings). Everywhere v h.atoms (PipeControls terms) (obligation v x h.atoms rule)) (sym (settings_alike s s' h a.settings)) here in
      let f = least.fails in
      false≢true (sym f.false_there ∙ holds (fields_of w) f.α f.cv (in_range w) f.controls)
