-- The answer on a file for SEQ or SEQ+: the verdict, and for a refusal each obligation that is false somewhere, with
-- its least counterexample.
use Rattle.std.specs.Prelude.{ℕ, ◌+◌, ◌≡◌, ◌≤◌, Bool, true, false, List, ◌∷◌, length}
use Rattle.y86_base.specs.declared.parts.Variant.{Variant}
use Rattle.hcl_types.specs.declared.term.Term.{Term}
use Rattle.ctl_atoms.specs.Atoms.{AreAtoms}
use Rattle.ctl_atoms.specs.Leaves.{Assignment}
use Rattle.ctl_atoms.specs.declared.leaf.Atom.{Atom}
use Rattle.ctl_atoms.specs.declared.leaf.Leaf.{Leaf}
use Rattle.ctl_equations.specs.Controls.{AreControls}
use Rattle.net_fields.specs.FieldSpecs.{InRange, number_among, total}
use Rattle.bdd_decide.specs.Decisions.{IsLeastOf}
use Rattle.seq_obligations.specs.Obligations.{rule_count}
use Rattle.ctl_verdicts.specs.ObligationSet.{IsFalseAtBits}
use Rattle.seq_plus.specs.Datapaths.{rows_of}
use Rattle.seq_check.specs.Datapaths.{questions_of, spots_of}
use Rattle.seq_check.specs.Verdicts.{Accepts, Rejects}
use Rattle.hcl_types.specs.declared.table.SequentialDatapath.{SequentialDatapath}
use Rattle.findings.specs.Refuted.{AreAllRefuted}
use Rattle.seq_diagnosis.specs.Diagnosis.{IsDiagnosis}
use Rattle.seq_diagnosis.specs.declared.refusal.Refusal.{Refusal}
use Rattle.seq_diagnosis.specs.declared.refusal.Refutation.{Refutation}
use Rattle.seq_refusals.specs.declared.answer.SeqAnswer.{SeqAnswer}
use Rattle.seq_refusals.specs.declared.answer.SeqAnswer.TheVariants.{Yes, No}

-- obligation i holds at every valuation
abbrev pub Everywhere : SequentialDatapath → Variant → List Term → ℕ → Type 0
Everywhere which v terms i =
    (xs : List ℕ) (α : Assignment) (cv : ℕ → Leaf) → InRange (spots_of which) xs → AreControls (rows_of which) terms (number_among (spots_of which) xs) α cv
    → (questions_of which v).asks i xs α cv ≡ true

-- An obligation that is false somewhere: its least counterexample, and the diagnosis there.
pub record IsRefutation (which : SequentialDatapath) (v : Variant) (terms : List Term) (atoms : List Atom) (x : Refutation) : Type 0 where
  pub first : 1 ≤ x.rule
  pub last : x.rule ≤ rule_count
  pub least : IsLeastOf (total (spots_of which) + length atoms) (IsFalseAtBits (questions_of which v) terms atoms x.rule) x.valuation.bits
  pub diagnosis : IsDiagnosis which v terms atoms x.rule x.valuation.bits x.diagnosis

-- exactly these of the obligations from 1 to `until` are false somewhere
abbrev pub AreRefuted : SequentialDatapath → Variant → List Term → List Atom → ℕ → List Refutation → Type 0
AreRefuted which v terms atoms = AreAllRefuted (λ (x : Refutation). x.rule) (IsRefutation which v terms atoms) (Everywhere which v terms)

pub record IsRefusal (which : SequentialDatapath) (v : Variant) (terms : List Term) (r : Refusal) : Type 0 where
  pub atoms : AreAtoms (rows_of which) terms r.atoms
  pub rejects : Rejects which v terms r.first.rule r.first.valuation.bits
  pub refuted : AreRefuted which v terms r.atoms rule_count (r.first ∷ r.others)

abbrev pub IsAnswer : SequentialDatapath → Variant → List Term → SeqAnswer → Type 0
IsAnswer which v terms Yes = Accepts which v terms
IsAnswer which v terms (No r) = IsRefusal which v terms r

abbrev pub is_yes : SeqAnswer → Bool
is_yes Yes = true
is_yes (No r) = false
