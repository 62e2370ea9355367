-- What an answer to `check pipe` with `--cert`, or to `recheck`, means for the run of instructions.
use Rattle.std.proofs.Common.{◌≡◌, ◌⊎◌, ℕ, ◌≤◌, List, length, refl, sym, ap, subst, inl, inr, Some, lit≤, arith}
use Rattle.cert_log.specs.Files.{IsCertificate, holds_line}
use Rattle.dp_signals.specs.PipeTable.{pipe_rows}
use Rattle.hcl_types.specs.declared.term.Term.{Term}
use Rattle.wb_io.specs.Sinks.{Appended, AppendedPrefix}
use Rattle.cli_plans.specs.Designs.{RefusesDesign}
use Rattle.y86_base.specs.declared.parts.Variant.{Variant}
use Rattle.y86_words.specs.Forms.{certify_pipe, form_of, recheck}
use Rattle.y86_call_laws.specs.CheckedRuns.{HasAccepted, ToldCertified, ToldCertifiedPart, WroteCertificate}
use Rattle.cli_obligations.specs.Answers.{certificate_plan, certify_pipe_plan, recheck_plan}
use Rattle.cli_obligations.specs.Certified.{HasCertified}
use Rattle.cli_verdicts.specs.Verdicts.{RefusesControl}
use Rattle.cli_plans.specs.PlanFollowing.{CallStates, SinkState}
use Rattle.cli_plans.specs.Known.{Known}
use Rattle.cli_plans.specs.Plan.{Answer, MayBeAnswer, done, refused}
use Rattle.y86_cli.specs.CallContract.{MeetsContract}
use Rattle.y86_call_laws.proofs.Agreement.{control_high, design_high, high}

-- ---- what an answer with status 0 means

certify_told : (told : List ℕ → Known) (name : List ℕ) (v : Variant) (a : Answer) → MayBeAnswer told (certify_pipe_plan name v) a → a.status ≡ 0 →
    (file : HasAccepted v (told name)) × (text : List ℕ) × IsCertificate v file.terms file.settings text × (a.out ≡ text)
unfolding certify_pipe_plan
certify_told told name v a (inl failed) none = absurd (high a 3 _ failed.1 (lit≤ tt) (omega (arith, none)))
certify_told told name v a (inr (inl long)) none = absurd (high a 7 _ long.1 (lit≤ tt) (omega (arith, none)))
certify_told told name v a (inr (inr (text, has, short, inr refuses))) none = absurd (design_high name pipe_rows text a refuses (omega (arith, none)))
certify_told told name v a (inr (inr (text, has, short, inl (terms, design, inl certifies)))) none = (
  record { text = text; has = has; terms = terms; design = design; settings = certifies.settings; accepted = certifies.accepted; refines = certifies.refines },
  certifies.text,
  certifies.certificate,
  ap (λ (x : Answer). x.out) certifies.told,
)
certify_told told name v a (inr (inr (text, has, short, inl (terms, design, inr (inl denies))))) none =
    let one : a.status ≡ 1 = ap (λ x. x.status) denies.told in absurd (omega (arith, one, none))
certify_told told name v a (inr (inr (text, has, short, inl (terms, design, inr (inr refuses))))) none =
    absurd (control_high name pipe_rows terms a refuses (omega (arith, none)))

certify_accepts : (name : List ℕ) (v : Variant) (call : CallStates) →
    MeetsContract (Some (certify_pipe name v)) call 0 → WroteCertificate v (call.files_before.told name) call.out_before call.out_after
certify_accepts name v call ran =
    let given = ran.answer (λ three. omega (arith, three)) (λ six. omega (arith, six)) in
    let said = certify_told call.files_before.told name v given.0 given.1.by_some (sym (given.2.status_is (λ four. omega (arith, four)))) in
    record { file = said.0; text = said.1; certificate = said.2; went = subst (Appended call.out_before.taken call.out_after.taken) said.3 (given.2.out (λ four. omega (arith, four))) }

-- ---- the answers of `recheck`

-- a refusal, with a status of at least 2
pub record IsRefusal (a : Answer) : Type 0 where
  pub status : ℕ
  pub line : List ℕ
  pub large : 2 ≤ status
  pub is : a ≡ refused status line

refusal : (a : Answer) (n : ℕ) (line : List ℕ) → 2 ≤ n → a ≡ refused n line → IsRefusal a
refusal a n line large is = record { status = n; line = line; large = large; is = is }

design_refusal : (name text : List ℕ) (a : Answer) → RefusesDesign name pipe_rows text a → IsRefusal a
design_refusal name text a (inl unread) = refusal a 5 _ (lit≤ tt) unread.2
design_refusal name text a (inr (inl unbound)) = refusal a 5 _ (lit≤ tt) unbound.told
design_refusal name text a (inr (inr unordered)) = refusal a 5 _ (lit≤ tt) unordered.told

control_refusal : (name : List ℕ) (terms : List Term) (a : Answer) → RefusesControl name pipe_rows terms a → IsRefusal a
control_refusal name terms a (inl mixed) = refusal a 5 _ (lit≤ tt) mixed.told
control_refusal name terms a (inr over) = refusal a 5 _ (lit≤ tt) over.told

-- `recheck` reports that it accepts the certificate, or refuses
abbrev pub Rechecked : Variant → Known → Known → Answer → Type 0
Rechecked v told told_cert a = ((file : HasCertified v told told_cert) × (a ≡ done 0 (holds_line file.settings))) ⊎ IsRefusal a

recheck_told : (told : List ℕ → Known) (name cert : List ℕ) (v : Variant) (a : Answer) → MayBeAnswer told (recheck_plan name cert v) a →
    Rechecked v (told name) (told cert) a
unfolding recheck_plan certificate_plan
recheck_told told name cert v a (inl failed) = inr (refusal a 3 _ (lit≤ tt) failed.1)
recheck_told told name cert v a (inr (inl long)) = inr (refusal a 7 _ (lit≤ tt) long.1)
recheck_told told name cert v a (inr (inr (text, has, short, inr refuses))) = inr (design_refusal name text a refuses)
recheck_told told name cert v a (inr (inr (text, has, short, inl (terms, design, inr refuses)))) = inr (control_refusal name terms a refuses)
recheck_told told name cert v a (inr (inr (text, has, short, inl (terms, design, inl (atoms, are, inl failed))))) = inr (refusal a 3 _ (lit≤ tt) failed.1)
recheck_told told name cert v a (inr (inr (text, has, short, inl (terms, design, inl (atoms, are, inr (inl long)))))) = inr (refusal a 7 _ (lit≤ tt) long.1)
recheck_told told name cert v a (inr (inr (text, has, short, inl (terms, design, inl (atoms, are, inr (inr (bytes, has_cert, short_cert, inl accepts))))))) = inl (
  record {
    text = text;
    has = has;
    terms = terms;
    design = design;
    bytes = bytes;
    has_certificate = has_cert;
    settings = accepts.settings;
    certificate = accepts.certificate;
    meets = accepts.meets;
    refines = accepts.refines;
  },
  accepts.told,
)
recheck_told told name cert v a (inr (inr (text, has, short, inl (terms, design, inl (atoms, are, inr (inr (bytes, has_cert, short_cert, inr (inl head)))))))) =
    inr (refusal a 5 _ (lit≤ tt) head.told)
recheck_told told name cert v a (inr (inr (text, has, short, inl (terms, design, inl (atoms, are, inr (inr (bytes, has_cert, short_cert, inr (inr refuses)))))))) =
    inr (refusal a 5 _ (lit≤ tt) refuses.told)

recheck_whole : (v : Variant) (told told_cert : Known) (a : Answer) (before after : SinkState) → Rechecked v told told_cert a → a.status ≡ 0 →
    Appended before.taken after.taken a.out → ToldCertified v told told_cert before after
recheck_whole v told told_cert a before after (inl said) none took =
    record { file = said.0; line = subst (Appended before.taken after.taken) (ap (λ (x : Answer). x.out) said.1) took }
recheck_whole v told told_cert a before after (inr r) none took =
    let same : a.status ≡ r.status = ap (λ (x : Answer). x.status) r.is in absurd (omega (arith, same, none, r.large))

recheck_part : (v : Variant) (told told_cert : Known) (a : Answer) (before after : SinkState) → Rechecked v told told_cert a →
    AppendedPrefix before.taken after.taken a.out → ToldCertifiedPart v told told_cert before after
recheck_part v told told_cert a before after (inl said) took =
    record { file = said.0; part = subst (AppendedPrefix before.taken after.taken) (ap (λ (x : Answer). x.out) said.1) took }
recheck_part v told told_cert a before after (inr r) took =
    let none : length a.out ≡ 0 = ap (λ (x : Answer). length x.out) r.is in absurd (omega (arith, took.1, none))

recheck_not_one : (v : Variant) (told told_cert : Known) (a : Answer) → Rechecked v told told_cert a → a.status ≡ 1 → ⊥
recheck_not_one v told told_cert a (inl said) one = let same : a.status ≡ 0 = ap (λ (x : Answer). x.status) said.1 in omega (arith, same, one)
recheck_not_one v told told_cert a (inr r) one =
    let same : a.status ≡ r.status = ap (λ (x : Answer). x.status) r.is in omega (arith, same, one, r.large)

module _ (name cert : List ℕ) (v : Variant) (call : CallStates) where
  recheck_accepts : MeetsContract (Some (recheck name cert v)) call 0 →
      ToldCertified v (call.files_before.told name) (call.files_before.told cert) call.out_before call.out_after
  recheck_accepts ran =
      let given = ran.answer (λ three. omega (arith, three)) (λ six. omega (arith, six)) in
      recheck_whole v (call.files_before.told name) (call.files_before.told cert) given.0 call.out_before call.out_after (recheck_told call.files_before.told name cert v given.0 given.1.by_some)
      (sym (given.2.status_is (λ four. omega (arith, four)))) (given.2.out (λ four. omega (arith, four)))

  recheck_breaks : MeetsContract (Some (recheck name cert v)) call 4 →
      ToldCertifiedPart v (call.files_before.told name) (call.files_before.told cert) call.out_before call.out_after
  recheck_breaks ran =
      let given = ran.answer (λ three. omega (arith, three)) (λ six. omega (arith, six)) in
      recheck_part v (call.files_before.told name) (call.files_before.told cert) given.0 call.out_before call.out_after (recheck_told call.files_before.told name cert v given.0 given.1.by_some) (given.2.part refl)

  recheck_one : MeetsContract (Some (recheck name cert v)) call 1 → ⊥
  recheck_one ran =
      let given = ran.answer (λ three. omega (arith, three)) (λ six. omega (arith, six)) in
      recheck_not_one v (call.files_before.told name) (call.files_before.told cert) given.0 (recheck_told call.files_before.told name cert v given.0 given.1.by_some)
      (sym (given.2.status_is (λ four. omega (arith, four))))

pub certifying_words : (words : List (List ℕ)) (name : List ℕ) (v : Variant) (call : CallStates) →
    form_of words ≡ Some (certify_pipe name v) → MeetsContract (form_of words) call 0 →
    WroteCertificate v (call.files_before.told name) call.out_before call.out_after
certifying_words words name v call is ran =
    certify_accepts name v call (rw is at ran)

pub rechecking_words : (words : List (List ℕ)) (name cert : List ℕ) (v : Variant) (call : CallStates) →
    form_of words ≡ Some (recheck name cert v) → MeetsContract (form_of words) call 0 →
    ToldCertified v (call.files_before.told name) (call.files_before.told cert) call.out_before call.out_after
rechecking_words words name cert v call is ran =
    recheck_accepts name cert v call (rw is at ran)

pub breaking_words : (words : List (List ℕ)) (name cert : List ℕ) (v : Variant) (call : CallStates) →
    form_of words ≡ Some (recheck name cert v) → MeetsContract (form_of words) call 4 →
    ToldCertifiedPart v (call.files_before.told name) (call.files_before.told cert) call.out_before call.out_after
breaking_words words name cert v call is ran =
    recheck_breaks name cert v call (rw is at ran)

pub never_one_words : (words : List (List ℕ)) (name cert : List ℕ) (v : Variant) (call : CallStates) →
    form_of words ≡ Some (recheck name cert v) → MeetsContract (form_of words) call 1 → ⊥
never_one_words words name cert v call is ran =
    recheck_one name cert v call (rw is at ran)
