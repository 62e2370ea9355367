-- The verdict on a design as an answer, from what the code found.
use Rattle.std.proofs.Common.{◌≡◌, ℕ, List, codes, inl, inr, sym, ap, ◌∙◌, subst, None, Some, Result, Err}
use Rattle.ctl_atoms.specs.declared.leaf.Atom.{Atom}
use Rattle.ctl_atoms.proofs.Solved.{atoms_one}
use Rattle.dp_signals.specs.PipeTable.{pipe_rows}
use Rattle.hcl_types.specs.Tables.{IsOrderOf}
use Rattle.hcl_types.specs.declared.term.Term.{Term}
use Rattle.y86_base.specs.declared.parts.Variant.{Variant}
use Rattle.cli_checks.specs.Checks.{PipeChecks, SeqChecks}
use Rattle.cli_checks.specs.Sequential.{IsDecided, no_text}
use Rattle.seq_plus.specs.Datapaths.{rows_of}
use Rattle.cli_plans.specs.Plan.{Answer, done}
use Rattle.cli_plans.specs.PlanFollowing.{RefusesWith, WritesAnswer, SinkState}
use Rattle.cli_plans.proofs.Does.{refused_says, says_more}
use Rattle.hcl_types.specs.declared.table.SequentialDatapath.{SequentialDatapath}
use Rattle.cli_checks.specs.declared.sequential.SeqRejection.{SeqRejection}
use Rattle.cli_plans.specs.declared.stop_reason.StopReason as code
use Rattle.cli_verdicts.specs.Verdicts.{AnswersNoPipe, AnswersYesPipe, RefusesControl, RefusesPipe}
use Rattle.cli_verdicts.proofs.Verdicts.{said_denied}

-- the verdicts
accepted : (which : SequentialDatapath) (name : List ℕ) (v : Variant) (terms : List Term) (a : Answer) → IsDecided which v terms None → a ≡ done 0 (codes "yes\n") → SeqChecks which name v terms a
accepted which name v terms a holds told = inl (record { accepted = holds.0; refines = holds.1; told = told })

denied : (which : SequentialDatapath) (name : List ℕ) (v : Variant) (terms : List Term) (ids : List ℕ) (denial : SeqRejection) (text : List ℕ) (a : Answer) → IsOrderOf (rows_of which) terms ids →
    IsDecided which v terms (Some denial) → text ≡ no_text which denial.rule denial.valuation.bits denial.atoms → a ≡ done 1 text → SeqChecks which name v terms a
denied which name v terms ids denial text a order found said told =
    let same : denial.atoms ≡ found.0.atoms = atoms_one (rows_of which) terms ids denial.atoms found.0.atoms order found.1 found.0.are in
    inr (inl (record {
      rule = denial.rule;
      valuation = denial.valuation.bits;
      rejected = found.0;
      told = told ∙ ap (done 1) (said ∙ ap (λ (list : List Atom). no_text which denial.rule denial.valuation.bits list) same);
    }))

-- and as what was written
pub said_yes : (which : SequentialDatapath) (name : List ℕ) (v : Variant) (terms : List Term) (text : List ℕ) (old new : SinkState) (result : Result ℕ code.StopReason) → IsDecided which v terms None →
    text ≡ codes "yes\n" →
    WritesAnswer (λ a. a ≡ done 0 text) old new result → WritesAnswer (SeqChecks which name v terms) old new result
said_yes which name v terms text old new result holds same s =
    says_more (λ a. a ≡ done 0 text) (SeqChecks which name v terms) old new result (λ a told. accepted which name v terms a holds (told ∙ ap (done 0) same)) s

pub said_no : (which : SequentialDatapath) (name : List ℕ) (v : Variant) (terms : List Term) (ids : List ℕ) (denial : SeqRejection) (text : List ℕ) (old new : SinkState) (result : Result ℕ code.StopReason) →
    IsOrderOf (rows_of which) terms ids → IsDecided which v terms (Some denial) → text ≡ no_text which denial.rule denial.valuation.bits denial.atoms →
    WritesAnswer (λ a. a ≡ done 1 text) old new result → WritesAnswer (SeqChecks which name v terms) old new result
said_no which name v terms ids denial text old new result order found told s =
    says_more (λ a. a ≡ done 1 text) (SeqChecks which name v terms) old new result (λ a is. denied which name v terms ids denial text a order found told is) s

pub said_refusal : (which : SequentialDatapath) (name : List ℕ) (v : Variant) (terms : List Term) (seen : SinkState) (stop : code.StopReason) →
    RefusesWith (RefusesControl name (rows_of which) terms) stop → WritesAnswer (SeqChecks which name v terms) seen seen (Err stop)
said_refusal which name v terms seen stop refuses =
    refused_says (SeqChecks which name v terms) (RefusesControl name (rows_of which) terms) seen stop (λ a is. inr (inr is)) refuses

-- ---- the verdicts on PIPE

pub said_pipe_yes : (name : List ℕ) (v : Variant) (terms : List Term) (text : List ℕ) (old new : SinkState) (result : Result ℕ code.StopReason) → AnswersYesPipe v terms (done 0 text) →
    WritesAnswer (λ a. a ≡ done 0 text) old new result → WritesAnswer (PipeChecks name v terms) old new result
said_pipe_yes name v terms text old new result accepts s =
    says_more (λ a. a ≡ done 0 text) (PipeChecks name v terms) old new result (λ a is. inl (subst (AnswersYesPipe v terms) (sym is) accepts)) s

pub said_pipe_no : (name : List ℕ) (v : Variant) (terms : List Term) (text : List ℕ) (old new : SinkState) (result : Result ℕ code.StopReason) → AnswersNoPipe v terms (done 1 text) →
    WritesAnswer (λ a. a ≡ done 1 text) old new result → WritesAnswer (PipeChecks name v terms) old new result
said_pipe_no name v terms text old new result denies s =
    says_more (RefusesPipe name v terms) (PipeChecks name v terms) old new result (λ a refused. inr refused) (said_denied name v terms text old new result denies s)

pub said_pipe_refusal : (name : List ℕ) (v : Variant) (terms : List Term) (seen : SinkState) (stop : code.StopReason) →
    RefusesWith (RefusesControl name pipe_rows terms) stop → WritesAnswer (PipeChecks name v terms) seen seen (Err stop)
said_pipe_refusal name v terms seen stop refuses =
    refused_says (PipeChecks name v terms) (RefusesControl name pipe_rows terms) seen stop (λ a is. inr (inr is)) refuses
