-- Certificates of designs for PIPE, as answers.
use Rattle.std.specs.Prelude.{◌≡◌, ◌⊎◌, ℕ, codes, List}
use Rattle.cert_log.specs.Files.{HasFault, IsCertificate, MeetsAt, holds_line}
use Rattle.cert_checker.specs.Certificates.{HasNoHead}
use Rattle.cert_checker.specs.declared.fault.CertError.{CertError}
use Rattle.cert_checker.specs.declared.fault.CertError.TheVariants as error
use Rattle.cert_checker.specs.declared.fault.CertFault.{CertFault}
use Rattle.cert_checker.specs.declared.fault.CertWhy.{CertWhy}
use Rattle.cert_checker.specs.declared.fault.CertWhy.TheVariants as why
use Rattle.control_check.specs.PipeVerdicts.{AcceptsPipe, RefinesPipe}
use Rattle.dp_signals.specs.PipeTable.{pipe_rows}
use Rattle.hcl_types.specs.declared.term.Term.{Term}
use Rattle.pipe_motion.specs.declared.settings.Settings.{Settings}
use Rattle.wb_io.specs.Files.{HasBytes}
use Rattle.y86_base.specs.declared.parts.Variant.{Variant}
use Rattle.cli_verdicts.specs.Verdicts.{AnswersNoPipe, RefusesPipe}
use Rattle.hcl_design.specs.Designs.{IsDesign}
use Rattle.cli_plans.specs.Lines.{fault_line}
use Rattle.cli_plans.specs.Known.{Known}
use Rattle.cli_plans.specs.Plan.{Answer, done, refused}
use Rattle.cli_plans.specs.Stops.{answer_at, status_of}
use Rattle.cli_plans.specs.declared.stop_reason.StopReason as code
use Rattle.cli_plans.specs.declared.stop_reason.StopReason.TheVariants.{Memory}
use Rattle.cli_verdicts.specs.declared.verdict.PipeVerdictText.{PipeVerdictText}
use Rattle.cli_verdicts.specs.declared.verdict.PipeVerdictText.TheVariants as pipe_text

-- the most bytes of a certificate
abbrev pub cert_limit : ℕ
cert_limit = 536870912

abbrev pub cert_reason : CertWhy → List ℕ
cert_reason why.Syntax = codes "Syntax"
cert_reason why.Number = codes "Number"
cert_reason why.Claim = codes "Claim"
cert_reason why.Gate = codes "Gate"
cert_reason why.Missing = codes "Missing"
cert_reason why.Rule = codes "Rule"

abbrev pub cert_fault_line : List ℕ → CertFault → List ℕ
cert_fault_line name fault = fault_line name fault.line (cert_reason fault.why)

-- ---- `check pipe` with `--cert`

-- `yes`: the design satisfies every obligation at its settings, and the text is a certificate of it
pub record CertifiesPipe (v : Variant) (terms : List Term) (a : Answer) : Type 0 where
  pub settings : Settings
  pub accepted : AcceptsPipe v terms settings
  pub refines : RefinesPipe v terms
  pub text : List ℕ
  pub certificate : IsCertificate v terms settings text
  pub told : a ≡ done 0 text

-- the answers: a certificate, or what the check answers for a design that isn't accepted
abbrev pub PipeCertifies : List ℕ → Variant → List Term → Answer → Type 0
PipeCertifies name v terms a = CertifiesPipe v terms a ⊎ RefusesPipe name v terms a

-- a text is a certificate of a design, or the text of its `no`
abbrev pub IsCertificateOrNo : Variant → List Term → PipeVerdictText → Type 0
IsCertificateOrNo v terms (pipe_text.Yes text) = CertifiesPipe v terms (done 0 text.items)
IsCertificateOrNo v terms (pipe_text.No text) = AnswersNoPipe v terms (done 1 text.items)

-- ---- `recheck`

-- The text is a certificate of the design at the settings that it states. So the design satisfies every obligation at
-- these settings, and its pipeline refines the run of instructions.
pub record AcceptsCert (v : Variant) (terms : List Term) (text : List ℕ) (a : Answer) : Type 0 where
  pub settings : Settings
  pub certificate : IsCertificate v terms settings text
  pub meets : MeetsAt v terms settings
  pub refines : RefinesPipe v terms
  pub told : a ≡ done 0 (holds_line settings)

-- the text states no settings: its first or its second line is malformed
pub record RefusesHead (name text : List ℕ) (a : Answer) : Type 0 where
  pub fault : CertFault
  pub head : HasNoHead text fault
  pub told : a ≡ refused 5 (cert_fault_line name fault)

-- the refusal reports the first fault of the text, for the proof goals of the design at the settings that the text
-- states
pub record RefusesCert (name : List ℕ) (v : Variant) (terms : List Term) (text : List ℕ) (a : Answer) : Type 0 where
  pub fault : CertFault
  pub has : HasFault v terms text fault
  pub told : a ≡ refused 5 (cert_fault_line name fault)

-- the answers to the check of a text as a certificate of a design
abbrev pub Rechecks : List ℕ → Variant → List Term → List ℕ → Answer → Type 0
Rechecks name v terms text a = AcceptsCert v terms text a ⊎ (RefusesHead name text a ⊎ RefusesCert name v terms text a)

-- a stop reports why a text is no certificate
abbrev pub IsCertStop : List ℕ → CertError → code.StopReason → Type 0
IsCertStop name (error.Cert fault) stop = (status_of stop ≡ 5) × (answer_at stop ≡ refused 5 (cert_fault_line name fault))
IsCertStop name error.Memory stop = stop ≡ Memory

-- A file and a certificate of it: what is known of their bytes, if anything, is that they are a text and the
-- certificate; the text is read, bound and ordered; its design satisfies every obligation at the settings that the
-- certificate states. So on every image whose instructions fetch no byte that one of the three before them stored, its
-- pipeline agrees with the run of instructions after each number of cycles.
pub record HasCertified (v : Variant) (told told_cert : Known) : Type 0 where
  pub text : List ℕ
  pub has : HasBytes told text
  pub terms : List Term
  pub design : IsDesign pipe_rows text terms
  pub bytes : List ℕ
  pub has_certificate : HasBytes told_cert bytes
  pub settings : Settings
  pub certificate : IsCertificate v terms settings bytes
  pub meets : MeetsAt v terms settings
  pub refines : RefinesPipe v terms
