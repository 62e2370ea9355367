-- Certificates of files.
use Rattle.std.proofs.Common.{◌≡◌, ℕ, ◌+◌, ◌-◌, ◌≤◌, List, ◌++◌, length, drop, take, sym, ap, ◌∙◌, inl, inr, arith}
use Rattle.std.proofs.lemmas.Bool.{false≢true}
use Rattle.std.proofs.lemmas.List.{take_rest}
use Rattle.y86_base.specs.declared.parts.Variant.{Variant}
use Rattle.hcl_types.specs.Tables.{IsBound, IsOrderOf}
use Rattle.hcl_types.specs.declared.term.Term.{Term}
use Rattle.dp_signals.specs.PipeTable.{pipe_rows}
use Rattle.ctl_atoms.specs.Atoms.{IsFirstMixed, IsOver64}
use Rattle.ctl_atoms.proofs.Solved.{leaves_exist}
use Rattle.pipe_motion.specs.declared.settings.Settings.{Settings}
use Rattle.verdict_text.specs.PipeLines.{pipe_yes}
use Rattle.control_check.specs.PipeVerdicts.{RefinesPipe}
use Rattle.cert_checker.specs.Certificates.{CertOk}
use Rattle.cert_checker.specs.declared.demands.Demands.{Demands}
use Rattle.cert_writer.specs.Writing.{HasFalseDemand}
use Rattle.cert_log.specs.DesignDemands.{DemandsFor}
use Rattle.cert_log.specs.Files.{CertificatesAreKept, HasControlValues, IsCertificate, IsRefused, MeetsAt}
use Rattle.cert_checker.specs.Certificates.{last_line}
use Rattle.cert_checker.specs.Faults.{IsOfGates}
use Rattle.cert_checker.specs.Lines.{lines_text}
use Rattle.cert_checker.specs.declared.fault.CertError.TheVariants as error
use Rattle.cert_checker.specs.declared.fault.CertFault.{CertFault}
use Rattle.cert_checker.proofs.Unique.{headed, others_refuse_by_gates, same_settings}
use Rattle.pipe_fields.specs.Layout.{bit_count}
use Rattle.ctl_atoms.specs.declared.leaf.Atom.{Atom}
use Rattle.cert_log.proofs.Wanted.{certified_hold, certified_refine, demands_tell}

-- ---- a design with control values doesn't have the faults of one without

pub not_mixed : (terms : List Term) (n : ℕ) → HasControlValues terms → IsFirstMixed pipe_rows terms n → ⊥
not_mixed terms n h mixed = false≢true (sym (h.are.pure n) ∙ mixed.mixed)

pub not_over : (terms : List Term) (ids : List ℕ) → IsOrderOf pipe_rows terms ids → HasControlValues terms → IsOver64 pipe_rows terms → ⊥
not_over terms ids o h over =
    let some = leaves_exist pipe_rows terms ids o in
    let many = over.many some.0 some.1 in
    let few = h.are.few in
    let same = ap length (h.are.are some.0 some.1) in
    omega (arith, many, few, same)

pub has_atoms : (v : Variant) (terms : List Term) (s : Settings) → MeetsAt v terms s → HasControlValues terms
has_atoms v terms s m = record { atoms = m.atoms; are = m.are }

-- ---- the demands of a file that meets its obligations are nowhere false

pub never_open : (v : Variant) (terms : List Term) (ids : List ℕ) (s : Settings) (g : Demands) → IsOrderOf pipe_rows terms ids → MeetsAt v terms s → DemandsFor v terms s g → HasFalseDemand g → ⊥
never_open v terms ids s g o m d some =
    let all = (demands_tell v terms ids m.atoms s g o m.are d).1 m.meets in
    false≢true (sym some.fails ∙ all.each some.k some.gate some.is some.pattern some.size)

-- ---- what a certificate shows

pub met : (v : Variant) (terms : List Term) (ids : List ℕ) (s : Settings) (g : Demands) (text : List ℕ) → IsOrderOf pipe_rows terms ids → HasControlValues terms → DemandsFor v terms s g → CertOk g text →
    MeetsAt v terms s
met v terms ids s g text o h d c = record { atoms = h.atoms; are = h.are; meets = certified_hold v terms ids h.atoms s g text o h.are d c }

pub refined : (v : Variant) (terms : List Term) (ids : List ℕ) (s : Settings) (g : Demands) (text : List ℕ) → IsBound pipe_rows terms → IsOrderOf pipe_rows terms ids → DemandsFor v terms s g →
    CertOk g text → RefinesPipe v terms
refined v terms ids s g text bound o d c = λ image k is_image pure. certified_refine v terms ids s g text image k bound o d c is_image pure

-- ---- a certificate for the same design

module _ (v : Variant) (terms : List Term) (ids : List ℕ) (s : Settings) (text : List ℕ) (o : IsOrderOf pipe_rows terms ids) (c : IsCertificate v terms s text) where
  one_settings : (t : Settings) → IsCertificate v terms t text → t ≡ s
  one_settings t d =
      sym d.are.settings
      ∙ same_settings d.demands.settings c.demands.settings (lines_text d.right.lines ++ last_line) (lines_text c.right.lines ++ last_line)
      d.right.goes_on.seven c.right.goes_on.seven (sym d.right.goes_on.whole ∙ c.right.goes_on.whole)
      ∙ c.are.settings

  by_gates : (fault : CertFault) → IsRefused v terms text (error.Cert fault) → IsOfGates fault.why × (3 ≤ fault.line)
  by_gates fault (inl head) =
      absurd (headed text (lines_text c.right.lines ++ last_line) c.demands.settings fault c.right.goes_on.seven c.right.goes_on.whole head)
  by_gates fault (inr h) =
      let leaves = leaves_exist pipe_rows terms ids o in
      let atoms : c.are.atoms ≡ h.are.atoms = c.are.are.are leaves.0 leaves.1 ∙ sym (h.are.are.are leaves.0 leaves.1) in
      let settings : c.demands.settings ≡ h.demands.settings =
      same_settings c.demands.settings h.settings (lines_text c.right.lines ++ last_line) h.rest c.right.goes_on.seven h.states.seven (sym c.right.goes_on.whole ∙ h.states.whole)
      ∙ sym h.are.settings in
      others_refuse_by_gates c.demands h.demands text fault settings
      (c.are.vars ∙ ap (λ (xs : List Atom). bit_count + length xs) atoms ∙ sym h.are.vars) c.right h.first

pub certificates_kept : CertificatesAreKept
certificates_kept v terms ids s text o c = (one_settings v terms ids s text o c, by_gates v terms ids s text o c)

-- ---- the line of an accepted certificate

pub yes_long : (s : Settings) → 3 ≤ length (pipe_yes s)
unfolding pipe_yes
yes_long s = omega arith

pub holds_is : (s : Settings) (line : List ℕ) → line ≡ pipe_yes s → take (length line - 3) (drop 3 line) ≡ drop 3 (pipe_yes s)
holds_is s line e = take_rest line 3 ∙ ap (drop 3) e
