-- The diagnosis of a valuation at which an obligation of SEQ or SEQ+ is false.
use Rattle.std.specs.Prelude.{ℕ, ◌≡◌, Bool, false, List, map}
use Rattle.y86_base.specs.declared.parts.Variant.{Variant}
use Rattle.hcl_types.specs.declared.term.Term.{Term}
use Rattle.ctl_atoms.specs.declared.leaf.Leaf.{Leaf}
use Rattle.ctl_atoms.specs.declared.leaf.Atom.{Atom}
use Rattle.ctl_atoms.specs.Leaves.{Assignment, AtomsAre}
use Rattle.ctl_equations.specs.Controls.{AreControls}
use Rattle.control_values.specs.Given.{assigned, at, field_at}
use Rattle.net_fields.specs.FieldSpecs.{decoded, total}
use Rattle.findings.specs.Findings.{are_right, finding}
use Rattle.seq_plus.specs.Datapaths.{rows_of}
use Rattle.seq_check.specs.Datapaths.{defined_of, questions_of, spots_of}
use Rattle.seq_requirements.specs.Requirements.{requirements}
use Rattle.hcl_types.specs.declared.table.SequentialDatapath.{SequentialDatapath}
use Rattle.seq_diagnosis.specs.declared.diagnosis.Diagnosis.{Diagnosis}

-- the numbers of the fields that bits spell, and the truths that they give the atoms
abbrev pub numbers_at : SequentialDatapath → List Bool → List ℕ
numbers_at which w = decoded (spots_of which) 0 w

abbrev pub truths_at : SequentialDatapath → List Atom → List Bool → Assignment
truths_at which atoms w = assigned atoms (total (spots_of which)) w

-- what obligation i demands at the valuation that the bits spell
abbrev pub asks_at : SequentialDatapath → Variant → ℕ → List Bool → Assignment → (ℕ → Leaf) → Bool
asks_at which v i w α cv = (questions_of which v).asks i (numbers_at which w) α cv

-- Obligation i is false at the valuation that the bits spell.
abbrev pub Fails : SequentialDatapath → Variant → List Term → List Atom → ℕ → List Bool → Type 0
Fails which v terms atoms i w =
    (α : Assignment) (cv : ℕ → Leaf) → AtomsAre atoms (total (spots_of which)) w α → AreControls (rows_of which) terms (field_at (spots_of which) w) α cv → asks_at which v i w α cv ≡ false

-- A right diagnosis. The leaves are the control values at the valuation.
pub record IsDiagnosis (which : SequentialDatapath) (v : Variant) (terms : List Term) (atoms : List Atom) (i : ℕ) (w : List Bool) (diagnosis : Diagnosis) : Type 0 where
  pub atoms_are : AtomsAre atoms (total (spots_of which)) w (truths_at which atoms w)
  pub controls : AreControls (rows_of which) terms (field_at (spots_of which) w) (truths_at which atoms w) (at diagnosis.leaves)
  pub false_there : asks_at which v i w (truths_at which atoms w) (at diagnosis.leaves) ≡ false
  -- a finding for each requirement
  pub findings : diagnosis.findings ≡ map (finding (defined_of which) terms (truths_at which atoms w) (at diagnosis.leaves)) (requirements which v (numbers_at which w) i)
  -- at least one isn't met
  pub one_wrong : are_right diagnosis.findings ≡ false
