-- What a certificate of a file for PIPE has to show at given settings, and what it shows.
use Rattle.std.specs.Prelude.{ℕ, ◌≡◌, ◌+◌, ◌<◌, true, cond, List, length, get_or}
use Rattle.y86_base.specs.declared.parts.Variant.{Variant}
use Rattle.y86_isa.specs.Run.{IsImage}
use Rattle.yis_pure_runs.specs.Near.{NearPure}
use Rattle.hcl_types.specs.Tables.{IsBound, IsOrderOf}
use Rattle.hcl_types.specs.declared.term.Term.{Term}
use Rattle.dp_signals.specs.PipeTable.{pipe_rows}
use Rattle.ctl_atoms.specs.Atoms.{AreAtoms}
use Rattle.ctl_atoms.specs.declared.leaf.Atom.{Atom}
use Rattle.pipe_fields.specs.Layout.{bit_count}
use Rattle.pipe_motion.specs.declared.settings.Settings.{Settings}
use Rattle.pipe_obligations.specs.Rules.{obligation, rule_count}
use Rattle.pipe_obligations.specs.FileSettings.{alu_passes_target}
use Rattle.pipe_refinement.specs.Refines.{Refines}
use Rattle.pipe_theorem.specs.Theorem.{MeetsObligations}
use Rattle.ctl_rules.specs.declared.rules.Rule.{Rule}
use Rattle.hazard_rules.specs.Parts.{IsDesignGate}
use Rattle.cert_checker.specs.Certificates.{CertOk}
use Rattle.cert_checker.specs.declared.demands.Demands.{Demands}
use Rattle.cert_writer.specs.Writing.{AreDemandsTrue}

abbrev pub gate_of : Rule → ℕ
gate_of rule = rule.gate

-- The demands are those of a file with these definitions at settings s. Their net has one variable for each bit of a
-- control valuation. Their gates are its obligations, in order, followed, if s says that jumps carry their targets,
-- by the gate that is true where they do.
pub record DemandsFor (v : Variant) (terms : List Term) (s : Settings) (g : Demands) : Type 0 where
  pub settings : g.settings ≡ s
  pub atoms : List Atom
  pub are : AreAtoms pipe_rows terms atoms
  pub vars : g.net.vars ≡ bit_count + length atoms
  pub count : length g.want ≡ cond s.tv (rule_count + 1) rule_count
  pub obligations : (k : ℕ) → k < rule_count → IsDesignGate terms atoms g.net (get_or g.want k 0) (obligation v s atoms (k + 1))
  pub target : s.tv ≡ true → IsDesignGate terms atoms g.net (get_or g.want rule_count 0) (alu_passes_target v s)

-- the demands of a file are true at every pattern of bits exactly if the file meets its obligations
abbrev pub DemandsAreExact : Type 0
DemandsAreExact =
    (v : Variant) (terms : List Term) (ids : List ℕ) (atoms : List Atom) (s : Settings) (g : Demands) →
    IsOrderOf pipe_rows terms ids → AreAtoms pipe_rows terms atoms → DemandsFor v terms s g →
    (AreDemandsTrue g → MeetsObligations v terms atoms s) × (MeetsObligations v terms atoms s → AreDemandsTrue g)

-- if a text is a certificate of the demands of a file at settings, the file meets its obligations at them
abbrev pub CertifiedFilesHold : Type 0
CertifiedFilesHold =
    (v : Variant) (terms : List Term) (ids : List ℕ) (atoms : List Atom) (s : Settings) (g : Demands) (text : List ℕ) →
    IsOrderOf pipe_rows terms ids → AreAtoms pipe_rows terms atoms → DemandsFor v terms s g → CertOk g text → MeetsObligations v terms atoms s

-- so a certified file refines the run of instructions
abbrev pub CertifiedFilesRefine : Type 0
CertifiedFilesRefine =
    (v : Variant) (terms : List Term) (ids : List ℕ) (s : Settings) (g : Demands) (text : List ℕ) (image : List ℕ) (k : ℕ) →
    IsBound pipe_rows terms → IsOrderOf pipe_rows terms ids → DemandsFor v terms s g → CertOk g text → IsImage image → NearPure v image k → Refines v terms image k
