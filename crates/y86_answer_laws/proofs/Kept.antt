-- `recheck` on a certificate that `--cert` wrote for the same file.
use Rattle.std.proofs.Common.{◌≡◌, ◌≢◌, ◌⊎◌, ℕ, ◌<◌, ◌≤◌, List, [], ◌∷◌, ◌++◌, length, Option, Some, sym, ap, ◌∙◌, subst, inl, inr, lit≤, arith}
use Rattle.cert_log.specs.Files.{IsCertificate, IsRefused, holds_line}
use Rattle.cert_checker.specs.Faults.{IsOfGates}
use Rattle.cert_checker.specs.declared.fault.CertError.TheVariants as error
use Rattle.cert_checker.specs.declared.fault.CertFault.{CertFault}
use Rattle.cert_log.proofs.Shown.{certificates_kept}
use Rattle.control_check.specs.PipeVerdicts.{AcceptsPipe}
use Rattle.ctl_atoms.specs.Atoms.{AreAtoms}
use Rattle.ctl_atoms.specs.declared.leaf.Atom.{Atom}
use Rattle.dp_signals.specs.PipeTable.{pipe_rows}
use Rattle.dp_signals.proofs.Sound.{pipe_sound}
use Rattle.hcl_types.specs.Tables.{IsOrderOf}
use Rattle.hcl_types.specs.declared.term.Term.{Term}
use Rattle.pipe_motion.specs.declared.settings.Settings.{Settings}
use Rattle.wb_io.specs.Sinks.{Appended}
use Rattle.y86_base.specs.declared.parts.Variant.{Variant}
use Rattle.y86_words.specs.Forms.{certify_pipe, form_of, recheck}
use Rattle.cli_obligations.specs.Answers.{certificate_plan, certify_pipe_plan, recheck_plan}
use Rattle.cli_plans.specs.Stages.{hcl_limit}
use Rattle.y86_cli.specs.Answers.{plan_in}
use Rattle.cli_obligations.specs.Certified.{Rechecks, cert_fault_line, cert_limit}
use Rattle.hcl_design.specs.Designs.{IsDesign}
use Rattle.cli_plans.specs.PlanFollowing.{CallStates, SinkState}
use Rattle.cli_plans.specs.Known.{Known}
use Rattle.cli_plans.specs.Plan.{IsAnswerOf, Answer, HasContents, refused}
use Rattle.y86_cli.specs.CallContract.{DeliversOnBoth, MeetsContract}
use Rattle.cli_plans.specs.Calls.{WroteError}
use Rattle.y86_call_laws.proofs.Agreement.{control_high, design_high, high}
use Rattle.y86_answer_laws.specs.OneAnswer.{KeptCertificate}
use Rattle.y86_answer_laws.proofs.Checked.{control_apart}
use Rattle.y86_answer_laws.proofs.Designs.{design_ordered}
use Rattle.hcl_design.proofs.Faults.{one_design}
use Rattle.y86_call_laws.proofs.Bigs.{not_refused}

-- ---- what `--cert` wrote

-- a text was read, its design is accepted at settings, and the output is a certificate of the design at these settings
pub record Written (v : Variant) (text cert : List ℕ) : Type 0 where
  pub short : length text ≤ hcl_limit
  pub terms : List Term
  pub design : IsDesign pipe_rows text terms
  pub settings : Settings
  pub accepted : AcceptsPipe v terms settings
  pub certificate : IsCertificate v terms settings cert

certify_tells : (told : List ℕ → Known) (name : List ℕ) (v : Variant) (text : List ℕ) → told name ≡ Some (Some text) →
    HasContents told (certify_pipe_plan name v) (Some text ∷ [])
unfolding certify_pipe_plan
certify_tells told name v text is = (is, λ short terms d. tt)

-- one answer with status 0
written_by : (name : List ℕ) (v : Variant) (text : List ℕ) (a : Answer) → IsAnswerOf (certify_pipe_plan name v) (Some text ∷ []) a → a.status ≡ 0 → Written v text a.out
unfolding certify_pipe_plan
written_by name v text a (inl long) none = absurd (high a 7 _ long.1 (lit≤ tt) (omega (arith, none)))
written_by name v text a (inr (short, inr refuses)) none = absurd (design_high name pipe_rows text a refuses (omega (arith, none)))
written_by name v text a (inr (short, inl (terms, design, inl c))) none = record {
  short = short;
  terms = terms;
  design = design;
  settings = c.settings;
  accepted = c.accepted;
  certificate = subst (IsCertificate v terms c.settings) (sym (ap (λ (x : Answer). x.out) c.told)) c.certificate;
}
written_by name v text a (inr (short, inl (terms, design, inr (inl denies)))) none =
    let one : a.status ≡ 1 = ap (λ (x : Answer). x.status) denies.told in absurd (omega (arith, one, none))
written_by name v text a (inr (short, inl (terms, design, inr (inr refuses)))) none = absurd (control_high name pipe_rows terms a refuses (omega (arith, none)))

-- what an empty sink has taken in all is the text that was written to it
all_taken : (before after : SinkState) (text now : List ℕ) → before.taken ≡ Some [] → after.taken ≡ Some now → Appended before.taken after.taken text → now ≡ text
all_taken before after text now empty is took =
    let first : Appended (Some []) after.taken text = subst (λ (o : Option (List ℕ)). Appended o after.taken text) empty took in
    subst (λ (o : Option (List ℕ)). Appended (Some []) o text) is first

-- ---- the check

module _ (name cert : List ℕ) (v : Variant) (text bytes : List ℕ) (w : Written v text bytes) (small : length bytes ≤ cert_limit) where
  recheck_tells : (told : List ℕ → Known) → told name ≡ Some (Some text) → told cert ≡ Some (Some bytes) → HasContents told (recheck_plan name cert v) (Some text ∷ Some bytes ∷ [])
  unfolding recheck_plan certificate_plan
  recheck_tells told is other = (is, λ short terms d atoms are. (other, λ fits. tt))

  order : (ids : List ℕ) × IsOrderOf pipe_rows w.terms ids
  order = design_ordered pipe_rows text pipe_sound w.terms w.design

  -- the design is accepted at its settings, and the check had this outcome
  kept : (out_before out_after err_before err_after : SinkState) (status : ℕ) →
      ((status ≡ 0) × Appended out_before.taken out_after.taken (holds_line w.settings))
      ⊎ ((status ≡ 5) × ((fault : CertFault) × IsOfGates fault.why × (3 ≤ fault.line) × WroteError err_before err_after (cert_fault_line cert fault))) →
      KeptCertificate v text cert out_before out_after err_before err_after status
  kept out_before out_after err_before err_after status out = record { terms = w.terms; design = w.design; settings = w.settings; accepted = w.accepted; outcome = out }

  module _ (a : Answer) (out_before out_after err_before err_after : SinkState) (status : ℕ) (shows : DeliversOnBoth a out_before out_after err_before err_after status) (four : status ≢ 4) where
    by_gates : (fault : CertFault) → IsRefused v w.terms bytes (error.Cert fault) → a ≡ refused 5 (cert_fault_line cert fault) →
        KeptCertificate v text cert out_before out_after err_before err_after status
    by_gates fault why told =
        let gates = (certificates_kept v w.terms order.0 w.settings bytes order.1 w.certificate).1 fault why in
        kept out_before out_after err_before err_after status
        (inr (
          shows.status_is four ∙ ap (λ (x : Answer). x.status) told,
          (fault, gates.0, gates.1, subst (λ (l : List ℕ). WroteError err_before err_after l) (ap (λ (x : Answer). x.err) told) (shows.err four)),
        ))

    -- the answers to a certificate of the design
    outcome : Rechecks cert v w.terms bytes a → KeptCertificate v text cert out_before out_after err_before err_after status
    outcome (inl accepts) =
        kept out_before out_after err_before err_after status
        (inl (
          shows.status_is four ∙ ap (λ (x : Answer). x.status) accepts.told,
          subst (λ (line : List ℕ). Appended out_before.taken out_after.taken line)
              (ap (λ (x : Answer). x.out) accepts.told
              ∙ ap holds_line ((certificates_kept v w.terms order.0 w.settings bytes order.1 w.certificate).0 accepts.settings accepts.certificate))
              (shows.out four),
        ))
    outcome (inr (inl head)) = by_gates head.fault (inl head.head) head.told
    outcome (inr (inr refuses)) = by_gates refuses.fault (inr refuses.has) refuses.told

  kept_by : (a : Answer) (out_before out_after err_before err_after : SinkState) (status : ℕ) → IsAnswerOf (recheck_plan name cert v) (Some text ∷ Some bytes ∷ []) a →
      DeliversOnBoth a out_before out_after err_before err_after status → status ≢ 4 → KeptCertificate v text cert out_before out_after err_before err_after status
  unfolding recheck_plan certificate_plan
  kept_by a out_before out_after err_before err_after status (inl long) shows four = absurd (let s = w.short in omega (arith, long.0, s))
  kept_by a out_before out_after err_before err_after status (inr (short, inr refuses)) shows four = absurd (not_refused name pipe_rows text w.terms a w.design refuses)
  kept_by a out_before out_after err_before err_after status (inr (short, inl (terms, design, inr refuses))) shows four =
      let o = design_ordered pipe_rows text pipe_sound terms design in
      let same : w.terms ≡ terms = one_design pipe_rows text w.terms terms w.design design in
      absurd (control_apart name pipe_rows terms o.0 o.1 a refuses w.accepted.settings.atoms (subst (λ (ts : List Term). AreAtoms pipe_rows ts w.accepted.settings.atoms) same w.accepted.settings.are))
  kept_by a out_before out_after err_before err_after status (inr (short, inl (terms, design, inl (atoms, are, inl long)))) shows four = absurd (omega (arith, long.0, small))
  kept_by a out_before out_after err_before err_after status (inr (short, inl (terms, design, inl (atoms, are, inr (fits, answers))))) shows four =
      outcome a out_before out_after err_before err_after status shows four
      (subst (λ (ts : List Term). Rechecks cert v ts bytes a) (one_design pipe_rows text terms w.terms design w.design) answers)

own_certificate : (name cert : List ℕ) (v : Variant) (text bytes : List ℕ) (call later : CallStates) (status : ℕ) →
    MeetsContract (Some (certify_pipe name v)) call 0 →
    call.files_before.told name ≡ Some (Some text) → call.out_before.taken ≡ Some [] → call.out_after.taken ≡ Some bytes →
    MeetsContract (Some (recheck name cert v)) later status →
    later.files_before.told name ≡ Some (Some text) → later.files_before.told cert ≡ Some (Some bytes) → length bytes ≤ 536870912 → status ≢ 3 → status ≢ 4 → status ≢ 6 →
    KeptCertificate v text cert later.out_before later.out_after later.err_before later.err_after status
own_certificate name cert v text bytes call later status ran told empty taken ran2 told2 told_cert small three four six =
    let given = ran.answer (λ n. omega (arith, n)) (λ n. omega (arith, n)) in
    let went : bytes ≡ given.0.out = all_taken call.out_before call.out_after given.0.out bytes empty taken (given.2.out (λ n. omega (arith, n))) in
    let w : Written v text bytes =
    subst (Written v text) (sym went)
    (written_by name v text given.0 (given.1.by_told (Some text ∷ []) (certify_tells call.files_before.told name v text told)) (sym (given.2.status_is (λ n. omega (arith, n))))) in
    let checked = ran2.answer three six in
    kept_by name cert v text bytes w small checked.0 later.out_before later.out_after later.err_before later.err_after status
    (checked.1.by_told (Some text ∷ Some bytes ∷ []) (recheck_tells name cert v text bytes w small later.files_before.told told2 told_cert)) checked.2 four

pub own_certificates : (words others : List (List ℕ)) (name cert : List ℕ) (v : Variant) (text bytes : List ℕ) (call later : CallStates) (status : ℕ) →
    form_of words ≡ Some (certify_pipe name v) → form_of others ≡ Some (recheck name cert v) →
    MeetsContract (form_of words) call 0 →
    call.files_before.told name ≡ Some (Some text) → call.out_before.taken ≡ Some [] → call.out_after.taken ≡ Some bytes →
    MeetsContract (form_of others) later status →
    later.files_before.told name ≡ Some (Some text) → later.files_before.told cert ≡ Some (Some bytes) → length bytes ≤ 536870912 → status ≢ 3 → status ≢ 4 → status ≢ 6 →
    KeptCertificate v text cert later.out_before later.out_after later.err_before later.err_after status
own_certificates words others name cert v text bytes call later status is is2 ran told empty taken ran2 told2 told_cert small three four six =
    own_certificate name cert v text bytes call later status (rw is at ran) told empty taken (rw is2 at ran2) told2 told_cert small three four six
