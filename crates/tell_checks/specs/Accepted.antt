-- What the status of `check` says of the file.
use Rattle.std.specs.Prelude.{ℕ, ◌⊎◌, Bool, List}
use Rattle.control_check.specs.PipeVerdicts.{RefinesPipe, RejectsPipe}
use Rattle.ctl_atoms.specs.declared.fault.CtlFault.{CtlFault}
use Rattle.ctl_verdicts.specs.ObligationSet.{IsFault}
use Rattle.ctl_verdicts.specs.declared.fault.CheckFault.TheVariants.{Ctl}
use Rattle.hcl_design.specs.Designs.{HasDesign, IsDesign}
use Rattle.hcl_types.specs.Tables.{IsOrderOf}
use Rattle.hcl_types.specs.declared.table.Datapath.{Datapath}
use Rattle.hcl_types.specs.declared.table.Datapath.TheVariants as all
use Rattle.hcl_types.specs.declared.table.SequentialDatapath.{SequentialDatapath}
use Rattle.hcl_types.specs.declared.table.SequentialDatapath.TheVariants.{Seq, SeqPlus}
use Rattle.hcl_types.specs.declared.term.Term.{Term}
use Rattle.seq_check.specs.Verdicts.{Refines, Rejects}
use Rattle.seq_plus.specs.Datapaths.{table_rows}
use Rattle.y86_base.specs.declared.parts.Variant.{Variant}

-- the datapath under a design does what the instructions mean, for every program that the theorem covers
abbrev pub RefinesOn : Datapath → Variant → List Term → Type 0
RefinesOn all.Seq v terms = Refines Seq v terms
RefinesOn all.SeqPlus v terms = Refines SeqPlus v terms
RefinesOn all.Pipe v terms = RefinesPipe v terms

-- the text has a design for the datapath, its signals have an order, so that each cycle has its values, and the datapath
-- under it does what the instructions mean
pub record IsAcceptedText (path : Datapath) (v : Variant) (text : List ℕ) : Type 0 where
  pub terms : List Term
  pub design : IsDesign (table_rows path) text terms
  pub order : List ℕ
  pub ordered : IsOrderOf (table_rows path) terms order
  pub refines : RefinesOn path v terms

-- an obligation is false somewhere: its number, and the bits of a counterexample
abbrev pub BreaksPipe : Variant → List Term → Type 0
BreaksPipe v terms = (rule : ℕ) × (bits : List Bool) × RejectsPipe v terms rule bits

abbrev pub BreaksSequential : SequentialDatapath → Variant → List Term → Type 0
BreaksSequential which v terms = (rule : ℕ) × (bits : List Bool) × Rejects which v terms rule bits

abbrev pub BreaksOn : Datapath → Variant → List Term → Type 0
BreaksOn all.Seq v terms = BreaksSequential Seq v terms
BreaksOn all.SeqPlus v terms = BreaksSequential SeqPlus v terms
BreaksOn all.Pipe v terms = BreaksPipe v terms

-- the text has a design for the datapath, and the design breaks an obligation
pub record IsRejectedText (path : Datapath) (v : Variant) (text : List ℕ) : Type 0 where
  pub terms : List Term
  pub design : IsDesign (table_rows path) text terms
  pub breaks : BreaksOn path v terms

-- the text has a design for the datapath, but the check can't decide it
pub record IsUndecidedText (path : Datapath) (text : List ℕ) : Type 0 where
  pub terms : List Term
  pub design : IsDesign (table_rows path) text terms
  pub why : CtlFault
  pub undecided : IsFault (table_rows path) terms (Ctl why)

-- the check has no answer on the text
abbrev pub HasNoVerdict : Datapath → List ℕ → Type 0
HasNoVerdict path text = (HasDesign (table_rows path) text → ⊥) ⊎ IsUndecidedText path text
