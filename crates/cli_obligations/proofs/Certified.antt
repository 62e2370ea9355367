-- Certificates of designs, as answers.
use Rattle.std.proofs.Common.{◌≡◌, ℕ, List, refl, sym, ap, subst, ◌∙◌, inl, inr, Result, Err}
use Rattle.cert_log.specs.Files.{HasControlValues, IsCertificate, IsRefused, MeetsAt, holds_line}
use Rattle.cert_checker.specs.declared.fault.CertError.{CertError}
use Rattle.cert_checker.specs.declared.fault.CertError.TheVariants as error
use Rattle.control_check.specs.PipeVerdicts as pipe
use Rattle.ctl_atoms.specs.Atoms.{AreAtoms}
use Rattle.ctl_atoms.specs.declared.leaf.Atom.{Atom}
use Rattle.dp_signals.specs.PipeTable.{pipe_rows}
use Rattle.hcl_types.specs.declared.term.Term.{Term}
use Rattle.pipe_motion.specs.declared.settings.Settings.{Settings}
use Rattle.y86_base.specs.declared.parts.Variant.{Variant}
use Rattle.cli_obligations.specs.Certified.{CertifiesPipe, PipeCertifies, Rechecks, IsCertStop}
use Rattle.cli_verdicts.specs.Verdicts.{AnswersNoPipe, RefusesControl, RefusesPipe}
use Rattle.cli_plans.specs.PlanFollowing.{RefusesWith, WritesAnswer, SinkState}
use Rattle.cli_plans.specs.Plan.{done, refused}
use Rattle.cli_plans.specs.declared.stop_reason.StopReason as code
use Rattle.cli_verdicts.proofs.Verdicts.{said_denied}
use Rattle.cli_plans.proofs.Does.{refusal_says, refused_says, says_more}

pub has_atoms : (terms : List Term) (atoms : List Atom) → AreAtoms pipe_rows terms atoms → HasControlValues terms
has_atoms terms atoms are = record { atoms = atoms; are = are }

-- a design that is accepted at settings satisfies its obligations at them
pub meets : (v : Variant) (terms : List Term) (s : Settings) → pipe.AcceptsPipe v terms s → MeetsAt v terms s
meets v terms s accepted = record { atoms = accepted.settings.atoms; are = accepted.settings.are; meets = accepted.holds }

-- ---- `check pipe` with `--cert`

pub certified : (v : Variant) (terms : List Term) (s : Settings) (text : List ℕ) → pipe.AcceptsPipe v terms s → pipe.RefinesPipe v terms → IsCertificate v terms s text →
    CertifiesPipe v terms (done 0 text)
certified v terms s text accepted refines certificate =
    record { settings = s; accepted = accepted; refines = refines; text = text; certificate = certificate; told = refl }

pub said_certificate : (name : List ℕ) (v : Variant) (terms : List Term) (text : List ℕ) (old new : SinkState) (result : Result ℕ code.StopReason) → CertifiesPipe v terms (done 0 text) →
    WritesAnswer (λ a. a ≡ done 0 text) old new result → WritesAnswer (PipeCertifies name v terms) old new result
said_certificate name v terms text old new result certifies s =
    says_more (λ a. a ≡ done 0 text) (PipeCertifies name v terms) old new result (λ a is. inl (subst (CertifiesPipe v terms) (sym is) certifies)) s

pub said_no : (name : List ℕ) (v : Variant) (terms : List Term) (text : List ℕ) (old new : SinkState) (result : Result ℕ code.StopReason) → AnswersNoPipe v terms (done 1 text) →
    WritesAnswer (λ a. a ≡ done 1 text) old new result → WritesAnswer (PipeCertifies name v terms) old new result
said_no name v terms text old new result denies s =
    says_more (RefusesPipe name v terms) (PipeCertifies name v terms) old new result (λ a refused. inr refused) (said_denied name v terms text old new result denies s)

pub said_refusal : (name : List ℕ) (v : Variant) (terms : List Term) (seen : SinkState) (stop : code.StopReason) →
    RefusesWith (RefusesControl name pipe_rows terms) stop → WritesAnswer (PipeCertifies name v terms) seen seen (Err stop)
said_refusal name v terms seen stop refuses =
    refused_says (PipeCertifies name v terms) (RefusesControl name pipe_rows terms) seen stop (λ a is. inr (inr is)) refuses

-- ---- `recheck`

pub said_holds : (name : List ℕ) (v : Variant) (terms : List Term) (text : List ℕ) (s : Settings) (line : List ℕ) (old new : SinkState) (result : Result ℕ code.StopReason) →
    IsCertificate v terms s text → MeetsAt v terms s → pipe.RefinesPipe v terms → line ≡ holds_line s →
    WritesAnswer (λ a. a ≡ done 0 line) old new result → WritesAnswer (Rechecks name v terms text) old new result
said_holds name v terms text s line old new result certificate meets refines same said =
    says_more (λ a. a ≡ done 0 line) (Rechecks name v terms text) old new result
    (λ a is. inl (record { settings = s; certificate = certificate; meets = meets; refines = refines; told = is ∙ ap (done 0) same })) said

pub said_cert_refusal : (name : List ℕ) (v : Variant) (terms : List Term) (text : List ℕ) (seen : SinkState) (e : CertError) (stop : code.StopReason) →
    IsRefused v terms text e → IsCertStop name e stop → WritesAnswer (Rechecks name v terms text) seen seen (Err stop)
said_cert_refusal name v terms text seen (error.Cert fault) stop (inl head) told =
    refusal_says (Rechecks name v terms text) seen stop told.0 (inr (inl (record { fault = fault; head = head; told = told.1 })))
said_cert_refusal name v terms text seen (error.Cert fault) stop (inr has) told =
    refusal_says (Rechecks name v terms text) seen stop told.0 (inr (inr (record { fault = fault; has = has; told = told.1 })))
said_cert_refusal name v terms text seen error.Memory stop refused told = rw told refl
