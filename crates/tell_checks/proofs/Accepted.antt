-- What the status of `check` says, from the parts of the answer.
use Rattle.std.proofs.Common.{◌≡◌, inl, inr, ℕ, false, List, Option}
use Rattle.ctl_atoms.specs.declared.fault.CtlFault.{CtlFault}
use Rattle.ctl_verdicts.specs.ObligationSet.{IsFault}
use Rattle.ctl_verdicts.specs.declared.fault.CheckFault.TheVariants.{Ctl}
use Rattle.hcl_design.specs.Designs.{HasDesign, IsDesign}
use Rattle.hcl_types.specs.Tables.{IsBoundDesign}
use Rattle.hcl_types.specs.declared.table.BoundDesign.{BoundDesign}
use Rattle.hcl_types.specs.declared.table.Datapath.{Datapath}
use Rattle.hcl_types.specs.declared.table.SequentialDatapath.{SequentialDatapath}
use Rattle.hcl_types.specs.declared.term.Term.{Term}
use Rattle.pipe_refusals.specs.Answered.{is_yes}
use Rattle.pipe_refusals.specs.declared.answer.PipeAnswer.{PipeAnswer}
use Rattle.pipe_refusals.specs.declared.answer.PipeAnswer.TheVariants as pipe
use Rattle.seq_plus.specs.Datapaths.{table_rows}
use Rattle.seq_refusals.specs.Answered as seq
use Rattle.seq_refusals.specs.declared.answer.SeqAnswer.{SeqAnswer}
use Rattle.seq_refusals.specs.declared.answer.SeqAnswer.TheVariants as sequential
use Rattle.tell_checks.specs.Accepted.{BreaksOn, BreaksPipe, BreaksSequential, HasNoVerdict, IsAcceptedText, IsRejectedText, RefinesOn}
use Rattle.tell_checks.specs.Explained.{Answers, SeqAnswers}
use Rattle.tell_faults.specs.Told.{HasBytesWith}
use Rattle.wb_io.specs.Files.{HasBytes}
use Rattle.y86_base.specs.declared.parts.Variant.{Variant}

pub accepted : (path : Datapath) (v : Variant) (told : Option (Option (List ℕ))) (text : List ℕ) (bound : BoundDesign) → HasBytes told text → IsDesign (table_rows path) text bound.ordered.design.terms →
    IsBoundDesign (table_rows path) bound → RefinesOn path v bound.ordered.design.terms → HasBytesWith told (IsAcceptedText path v)
accepted path v told text bound bytes design has refines =
    (text, bytes, record { terms = bound.ordered.design.terms; design = design; order = bound.ordered.order.ids; ordered = has.order; refines = refines })

pub rejected : (path : Datapath) (v : Variant) (told : Option (Option (List ℕ))) (text : List ℕ) (bound : BoundDesign) → HasBytes told text → IsDesign (table_rows path) text bound.ordered.design.terms →
    BreaksOn path v bound.ordered.design.terms → HasBytesWith told (IsRejectedText path v)
rejected path v told text bound bytes design breaks = (text, bytes, record { terms = bound.ordered.design.terms; design = design; breaks = breaks })

pub no_design : (path : Datapath) (told : Option (Option (List ℕ))) (text : List ℕ) → HasBytes told text → (HasDesign (table_rows path) text → ⊥) → HasBytesWith told (HasNoVerdict path)
no_design path told text bytes none = (text, bytes, inl none)

pub undecided : (path : Datapath) (told : Option (Option (List ℕ))) (text : List ℕ) (bound : BoundDesign) (why : CtlFault) → HasBytes told text → IsDesign (table_rows path) text bound.ordered.design.terms →
    IsFault (table_rows path) bound.ordered.design.terms (Ctl why) → HasBytesWith told (HasNoVerdict path)
undecided path told text bound why bytes design fault = (text, bytes, inr (record { terms = bound.ordered.design.terms; design = design; why = why; undecided = fault }))

-- ---- a design that breaks an obligation

pub breaks_pipe : (v : Variant) (terms : List Term) (answer : PipeAnswer) → Answers v terms answer → is_yes answer ≡ false → BreaksPipe v terms
breaks_pipe v terms (pipe.Yes settings) answers refused = absurd (cc (refused))
breaks_pipe v terms (pipe.No refusal) answers refused = (refusal.first.rule, refusal.first.valuation.bits, answers.is.rejects)

pub breaks_sequential : (which : SequentialDatapath) (v : Variant) (terms : List Term) (answer : SeqAnswer) → SeqAnswers which v terms answer → seq.is_yes answer ≡ false → BreaksSequential which v terms
breaks_sequential which v terms sequential.Yes answers refused = absurd (cc (refused))
breaks_sequential which v terms (sequential.No refusal) answers refused = (refusal.first.rule, refusal.first.valuation.bits, answers.is.rejects)
