-- Certificates of files: when one is right, and why a text isn't one.
use Rattle.std.specs.Prelude.{ℕ, ◌≡◌, ◌≤◌, ◌⊎◌, List, ◌++◌, codes, drop}
use Rattle.y86_base.specs.declared.parts.Variant.{Variant}
use Rattle.hcl_types.specs.declared.term.Term.{Term}
use Rattle.hcl_types.specs.Tables.{IsOrderOf}
use Rattle.dp_signals.specs.PipeTable.{pipe_rows}
use Rattle.ctl_atoms.specs.Atoms.{AreAtoms}
use Rattle.ctl_atoms.specs.declared.leaf.Atom.{Atom}
use Rattle.pipe_motion.specs.declared.settings.Settings.{Settings}
use Rattle.pipe_theorem.specs.Theorem.{MeetsObligations}
use Rattle.verdict_text.specs.PipeLines.{pipe_yes}
use Rattle.cert_checker.specs.Certificates.{CertOk, HasNoHead, IsFirstFault, StatesSettings}
use Rattle.cert_checker.specs.Faults.{IsOfGates}
use Rattle.cert_checker.specs.declared.demands.Demands.{Demands}
use Rattle.cert_checker.specs.declared.fault.CertError.{CertError}
use Rattle.cert_checker.specs.declared.fault.CertError.TheVariants as error
use Rattle.cert_checker.specs.declared.fault.CertFault.{CertFault}
use Rattle.cert_log.specs.DesignDemands.{DemandsFor}

-- a design with control values: none of its definitions mixes codes with words, and it has at most 64 atoms
pub record HasControlValues (terms : List Term) : Type 0 where
  pub atoms : List Atom
  pub are : AreAtoms pipe_rows terms atoms

-- the file meets its obligations at settings
pub record MeetsAt (v : Variant) (terms : List Term) (s : Settings) : Type 0 where
  pub atoms : List Atom
  pub are : AreAtoms pipe_rows terms atoms
  pub meets : MeetsObligations v terms atoms s

-- a certificate of a file at settings, which it states
pub record IsCertificate (v : Variant) (terms : List Term) (s : Settings) (text : List ℕ) : Type 0 where
  pub demands : Demands
  pub are : DemandsFor v terms s demands
  pub right : CertOk demands text

-- a text that states settings, and its first fault for the demands of the file at these settings
pub record HasFault (v : Variant) (terms : List Term) (text : List ℕ) (fault : CertFault) : Type 0 where
  pub settings : Settings
  pub rest : List ℕ
  pub states : StatesSettings text settings rest
  pub demands : Demands
  pub are : DemandsFor v terms settings demands
  pub first : IsFirstFault demands text fault

-- a text isn't a certificate of the file: it states no settings, or has a first fault; or out of memory
abbrev pub IsRefused : Variant → List Term → List ℕ → CertError → Type 0
IsRefused v terms text (error.Cert fault) = HasNoHead text fault ⊎ HasFault v terms text fault
IsRefused v terms text error.Memory = Unit {0}

-- A certificate of a design is for one list of settings. The check of it for the same design can refuse it only
-- because of the gates of its net: never because of the form, a number or a claim. (Nothing says that two calls make
-- the same net.)
abbrev pub CertificatesAreKept : Type 0
CertificatesAreKept =
    (v : Variant) (terms : List Term) (ids : List ℕ) (s : Settings) (text : List ℕ) → IsOrderOf pipe_rows terms ids → IsCertificate v terms s text →
    ((t : Settings) → IsCertificate v terms t text → t ≡ s)
    × ((fault : CertFault) → IsRefused v terms text (error.Cert fault) → IsOfGates fault.why × (3 ≤ fault.line))

-- the line of an accepted certificate: that of a `yes` at its settings, except for the first word
unfoldable pub holds_line : Settings → List ℕ
holds_line s = codes "holds" ++ drop 3 (pipe_yes s)
