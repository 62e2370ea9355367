-- The verdict on a design for PIPE as an answer, and the refusal of a design without control values, from what the code
-- found.
use Rattle.std.proofs.Common.{◌≡◌, ℕ, List, ◌∷◌, [], codes, refl, inl, inr, sym, ap, ◌∙◌, subst, Result, Vec}
use Rattle.std.specs.Borrow.{Bor}
use Rattle.std.specs.Global.{Global}
use Rattle.ctl_atoms.specs.Atoms.{AreAtoms, IsCtlFault}
use Rattle.ctl_atoms.specs.declared.fault.CtlFault.TheVariants as fault
use Rattle.ctl_atoms.specs.declared.leaf.Atom.{Atom}
use Rattle.ctl_atoms.proofs.Solved.{atoms_one}
use Rattle.control_check.specs.PipeVerdicts as pipe
use Rattle.dp_signals.specs.PipeTable.{pipe_rows}
use Rattle.hcl_types.specs.Tables.{IsOrderOf, row_names}
use Rattle.hcl_types.specs.declared.table.Row.{Row}
use Rattle.hcl_types.specs.declared.term.Term.{Term}
use Rattle.nets.specs.declared.evaluation.Valuation.{Valuation}
use Rattle.pipe_motion.specs.declared.settings.Settings.{Settings}
use Rattle.verdict_text.specs.PipeLines.{pipe_no, pipe_yes}
use Rattle.y86_base.specs.declared.parts.Variant.{Variant}
use Rattle.cli_plans.specs.Lines.{blank_names, names_at}
use Rattle.cli_plans.specs.Plan.{done}
use Rattle.cli_plans.specs.PlanFollowing.{RefusesWith, WritesAnswer, SinkState}
use Rattle.cli_plans.specs.Stops.{answer_at}
use Rattle.cli_plans.proofs.Does.{says_more}
use Rattle.cli_plans.specs.declared.stop_reason.InputFault.TheVariants.{OfNames}
use Rattle.cli_plans.specs.declared.stop_reason.StopReason as code
use Rattle.cli_plans.specs.declared.stop_reason.StopReason.TheVariants.{Refused}
use Rattle.cli_verdicts.specs.Verdicts.{AnswersNoPipe, AnswersYesPipe, RefusesControl, RefusesPipe}

-- the refusals
pub mixed : (name why : Bor (List ℕ)) (names : Vec ℕ Global) (rows : List Row) (terms : List Term) (id : ℕ) → IsCtlFault rows terms (fault.Mixed id) → why.now ≡ codes "Mixed" →
    names.items ≡ blank_names (names_at (row_names rows) (id ∷ [])) → RefusesControl name.now rows terms (answer_at (Refused name (OfNames why names)))
mixed name why names rows terms id first reason told = inl (record { row = id; first = first; told = rw (reason, told) refl })

pub over : (name why : Bor (List ℕ)) (names : Vec ℕ Global) (rows : List Row) (terms : List Term) → IsCtlFault rows terms fault.AtomsOver64 → why.now ≡ codes "AtomsOver64" →
    names.items ≡ [] → RefusesControl name.now rows terms (answer_at (Refused name (OfNames why names)))
over name why names rows terms many reason told = inr (record { over = many; told = rw (reason, told) refl })

-- ---- the verdicts on PIPE

pub tells_yes : (v : Variant) (terms : List Term) (settings : Settings) (text : List ℕ) → pipe.AcceptsPipe v terms settings → pipe.RefinesPipe v terms →
    text ≡ pipe_yes settings → AnswersYesPipe v terms (done 0 text)
tells_yes v terms settings text accepted refines is = record { settings = settings; accepted = accepted; refines = refines; told = ap (done 0) is }

pub tells_no : (v : Variant) (terms : List Term) (ids : List ℕ) (rule : ℕ) (valuation : Valuation) (list : List Atom) (text : List ℕ) → IsOrderOf pipe_rows terms ids →
    pipe.RejectsPipe v terms rule valuation.bits × AreAtoms pipe_rows terms list → text ≡ pipe_no (row_names pipe_rows) rule valuation.bits list → AnswersNoPipe v terms (done 1 text)
tells_no v terms ids rule valuation list text order found said = record {
  rule = rule;
  valuation = valuation.bits;
  rejected = found.0;
  told =
      ap (done 1)
      (said
      ∙ ap (λ (them : List Atom). pipe_no (row_names pipe_rows) rule valuation.bits them)
      (atoms_one pipe_rows terms ids list found.0.settings.atoms order found.1 found.0.settings.are));
}

-- a `no` that ends a check
pub said_denied : (name : List ℕ) (v : Variant) (terms : List Term) (text : List ℕ) (old new : SinkState) (result : Result ℕ code.StopReason) → AnswersNoPipe v terms (done 1 text) →
    WritesAnswer (λ a. a ≡ done 1 text) old new result → WritesAnswer (RefusesPipe name v terms) old new result
said_denied name v terms text old new result denies s =
    says_more (λ a. a ≡ done 1 text) (RefusesPipe name v terms) old new result (λ a is. inl (subst (AnswersNoPipe v terms) (sym is) denies)) s

-- a stop at a design without control values
pub not_told : (name : List ℕ) (v : Variant) (terms : List Term) (stop : code.StopReason) →
    RefusesWith (RefusesControl name pipe_rows terms) stop → RefusesWith (RefusesPipe name v terms) stop
not_told name v terms stop (inl memory) = inl memory
not_told name v terms stop (inr refused) = inr (refused.0, inr refused.1)
