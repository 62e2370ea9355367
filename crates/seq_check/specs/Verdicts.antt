-- Verdicts on HCL files for SEQ and SEQ+.
use Rattle.std.specs.Prelude.{ℕ, Bool, true, false, List}
use Rattle.y86_base.specs.declared.parts.Variant.{Variant}
use Rattle.hcl_types.specs.declared.term.Term.{Term}
use Rattle.ctl_atoms.specs.Atoms.{AreAtoms}
use Rattle.ctl_atoms.specs.declared.leaf.Atom.{Atom}
use Rattle.seq_refinement.specs.Accepted.{AcceptedSeq, RefinesSeq}
use Rattle.ctl_verdicts.specs.ObligationSet.{IsLeastFalseOf}
use Rattle.seq_check.specs.Accepted.{AcceptedPlus, RefinesPlus}
use Rattle.seq_plus.specs.Datapaths.{rows_of}
use Rattle.seq_check.specs.Datapaths.{questions_of}
use Rattle.hcl_types.specs.declared.table.SequentialDatapath.{SequentialDatapath}
use Rattle.hcl_types.specs.declared.table.SequentialDatapath.TheVariants.{Seq, SeqPlus}
use Rattle.seq_check.specs.declared.verdict.SeqVerdict.{SeqVerdict}
use Rattle.seq_check.specs.declared.verdict.SeqVerdict.TheVariants.{Yes, No}

-- each of the obligations holds at every control valuation of the design
abbrev pub Accepted : SequentialDatapath → Variant → List Term → Type 0
Accepted Seq v terms = AcceptedSeq v terms
Accepted SeqPlus v terms = AcceptedPlus v terms

-- on every image and for every number of cycles, its machine is that of the run of instructions
abbrev pub Refines : SequentialDatapath → Variant → List Term → Type 0
Refines Seq v terms = RefinesSeq v terms
Refines SeqPlus v terms = RefinesPlus v terms

-- no definition of the design mixes codes with words, it has at most 64 atoms, and every obligation holds at every
-- valuation
pub record Accepts (which : SequentialDatapath) (v : Variant) (terms : List Term) : Type 0 where
  pub atoms : List Atom
  pub are : AreAtoms (rows_of which) terms atoms
  pub holds : Accepted which v terms

-- the same is true of its definitions and atoms, but an obligation is false at some valuation: rule is the first such
-- obligation, and w the least valuation at which it is false
pub record Rejects (which : SequentialDatapath) (v : Variant) (terms : List Term) (rule : ℕ) (w : List Bool) : Type 0 where
  pub atoms : List Atom
  pub are : AreAtoms (rows_of which) terms atoms
  pub refused : Accepted which v terms → ⊥
  pub least : IsLeastFalseOf (questions_of which v) terms atoms rule w

abbrev pub IsVerdictOn : SequentialDatapath → Variant → List Term → SeqVerdict → Type 0
IsVerdictOn which v terms Yes = Accepts which v terms
IsVerdictOn which v terms (No rule valuation atoms) = Rejects which v terms rule valuation.bits × AreAtoms (rows_of which) terms atoms

abbrev pub is_yes : SeqVerdict → Bool
is_yes Yes = true
is_yes (No rule valuation atoms) = false
