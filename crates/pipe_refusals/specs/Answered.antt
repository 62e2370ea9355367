-- The answer on a file for PIPE: the verdict, and for a refusal each obligation that is false somewhere, with its
-- least counterexample.
use Rattle.std.specs.Prelude.{ℕ, ◌+◌, ◌≡◌, ◌≤◌, ◌<◌, Bool, true, false, List, ◌∷◌, get_or, length}
use Rattle.y86_base.specs.declared.parts.Variant.{Variant}
use Rattle.hcl_types.specs.declared.term.Term.{Term}
use Rattle.dp_signals.specs.PipeTable.{pipe_rows}
use Rattle.ctl_atoms.specs.Atoms.{AreAtoms}
use Rattle.ctl_atoms.specs.declared.leaf.Atom.{Atom}
use Rattle.pipe_fields.specs.Layout.{bit_count}
use Rattle.pipe_motion.specs.declared.settings.Settings.{Settings}
use Rattle.pipe_obligations.specs.Rules.{obligation, rule_count}
use Rattle.pipe_obligations.specs.FileSettings.{Everywhere, IsFalseAt, PipeControls}
use Rattle.control_check.specs.PipeVerdicts.{AcceptsPipe, AreSettings, RejectsPipe}
use Rattle.findings.specs.Refuted.{AreAllRefuted}
use Rattle.pipe_diagnosis.specs.Diagnosis.{IsDiagnosis}
use Rattle.pipe_refusals.specs.declared.answer.PipeAnswer.{PipeAnswer}
use Rattle.pipe_refusals.specs.declared.answer.PipeAnswer.TheVariants.{Yes, No}
use Rattle.pipe_diagnosis.specs.declared.refusal.Refusal.{Refusal}
use Rattle.pipe_diagnosis.specs.declared.refusal.Refutation.{Refutation}

-- w is at most each valuation at which obligation i is false: where such a valuation first differs from w, w has 0
-- and it has 1.
abbrev pub IsLeast : Variant → List Term → Settings → List Atom → ℕ → List Bool → Type 0
IsLeast v terms s atoms i w =
    (u : List Bool) → length u ≡ bit_count + length atoms → IsFalseAt v atoms (PipeControls terms) s i u
    → (x : ℕ) → ((z : ℕ) → z < x → get_or w z false ≡ get_or u z false) → get_or u x false ≡ false → get_or w x false ≡ false

-- An obligation that is false somewhere: its least counterexample, and the diagnosis there.
pub record IsRefutation (v : Variant) (terms : List Term) (s : Settings) (atoms : List Atom) (x : Refutation) : Type 0 where
  pub first : 1 ≤ x.rule
  pub last : x.rule ≤ rule_count
  pub size : length x.valuation.bits ≡ bit_count + length atoms
  pub least : IsLeast v terms s atoms x.rule x.valuation.bits
  pub diagnosis : IsDiagnosis v terms s atoms x.rule x.valuation.bits x.diagnosis

-- exactly these of the obligations from 1 to `until` are false somewhere
abbrev pub AreRefuted : Variant → List Term → Settings → List Atom → ℕ → List Refutation → Type 0
AreRefuted v terms s atoms = AreAllRefuted (λ (x : Refutation). x.rule) (IsRefutation v terms s atoms) (λ i. Everywhere v atoms (PipeControls terms) (obligation v s atoms i))

pub record IsRefusal (v : Variant) (terms : List Term) (r : Refusal) : Type 0 where
  pub settings : AreSettings v terms r.settings
  pub atoms : AreAtoms pipe_rows terms r.atoms
  pub rejects : RejectsPipe v terms r.first.rule r.first.valuation.bits
  pub refuted : AreRefuted v terms r.settings r.atoms rule_count (r.first ∷ r.others)

abbrev pub IsAnswer : Variant → List Term → PipeAnswer → Type 0
IsAnswer v terms (Yes s) = AcceptsPipe v terms s
IsAnswer v terms (No r) = IsRefusal v terms r

abbrev pub is_yes : PipeAnswer → Bool
is_yes (Yes s) = true
is_yes (No r) = false
