-- Each command has one answer.
use Rattle.std.proofs.Common.{◌≡◌, ◌≢◌, ◌⊎◌, inl, inr, None, refl, ℕ, Bool, true, false, List, [], Option, ap, sym, ◌∙◌, subst}
use Rattle.dp_signals.specs.PipeTable.{pipe_rows}
use Rattle.dp_signals.proofs.Sound.{pipe_sound}
use Rattle.hcl_read.specs.Read.{ReadsAs}
use Rattle.hcl_read.proofs.LawLemmas.{at_most_one_file}
use Rattle.hcl_types.specs.Tables.{IsBound, IsOrderOf}
use Rattle.hcl_types.specs.declared.term.Term.{Term}
use Rattle.seq_plus.specs.Sound.{sound_of}
use Rattle.wb_io.specs.Sinks.{Appended}
use Rattle.y86_base.specs.declared.parts.Variant.{Variant}
use Rattle.cli_runs.specs.Answers.{PipeAnswers, SeqAnswers, big_plan, checked_plan, hcl_plan, pipe_plan, psim_plan, seq_plan, ssim_plan, yas_plan, yis_plan}
use Rattle.cli_obligations.specs.Answers.{aig_plan, aigrun_plan, certify_pipe_plan, sample_plan}
use Rattle.cli_checks.specs.Answers.{check_pipe_plan, check_seq_plan}
use Rattle.y86_cli.specs.Answers.{plan_in}
use Rattle.cli_obligations.specs.AigerTexts.{AigAnswers, AigrunAnswers}
use Rattle.cli_obligations.specs.Certified.{CertifiesPipe, PipeCertifies}
use Rattle.verdict_text.specs.PipeLines.{pipe_yes}
use Rattle.cli_runs.specs.Big.{BigAnswers}
use Rattle.cli_checks.specs.Checks.{PipeChecks, SeqChecks}
use Rattle.cli_verdicts.specs.Verdicts.{AnswersYesPipe, RefusesPipe}
use Rattle.seq_plus.specs.Datapaths.{rows_of}
use Rattle.hcl_design.specs.Designs.{IsDesign}
use Rattle.cli_plans.specs.Designs.{RefusesDesign, RefusesHcl}
use Rattle.cli_plans.specs.PlanFollowing.{CallStates}
use Rattle.cli_plans.specs.Plan.{Answer, Plan, HasContents, done, value_in}
use Rattle.y86_cli.specs.CallContract.{MeetsContract}
use Rattle.cli_plans.specs.Calls.{WroteError}
use Rattle.cli_obligations.specs.Samples.{SampleAnswers}
use Rattle.hcl_types.specs.declared.table.SequentialDatapath.{SequentialDatapath}
use Rattle.hcl_types.specs.declared.table.SequentialDatapath.TheVariants.{Seq, SeqPlus}
use Rattle.y86_words.specs.Forms.{Command}
use Rattle.y86_answer_laws.specs.OneAnswer.{AreYes, HasOneAnswer, HasOneRefusal, SameAnswers}
use Rattle.y86_answer_laws.proofs.Checked.{accepts_pipe_one, control_apart, control_one, pipe_apart, pipe_check_one, refuses_pipe_one, seq_check_one}
use Rattle.y86_answer_laws.proofs.Counted.{aigrun_one}
use Rattle.y86_answer_laws.proofs.Designs.{design_belongs, design_ordered, hcl_one, read_apart, refusal_one}
use Rattle.hcl_design.proofs.Faults.{one_design}
use Rattle.y86_call_laws.proofs.Bigs.{not_refused}
use Rattle.y86_answer_laws.proofs.Plans.{after_one, answers_one, gives_one, gives_yes, reads_one, reads_yes, says_one, says_yes}
use Rattle.y86_answer_laws.proofs.Runs.{big_one, pipe_answers_one, seq_answers_one}
use Rattle.y86_answer_laws.proofs.Sampled.{sample_one}

-- ---- commands without a design

pub yas_plan_one : (source : List ℕ) (size : ℕ) (v : Variant) → HasOneAnswer (yas_plan source size v)
unfolding yas_plan
yas_plan_one source size v = reads_one _ _ _ (λ bytes. after_one _ _ (λ text. answers_one _))

pub yis_plan_one : (object : List ℕ) (size limit : ℕ) (v : Variant) → HasOneAnswer (yis_plan object size limit v)
unfolding yis_plan
yis_plan_one object size limit v = reads_one _ _ _ (λ bytes. after_one _ _ (λ image. answers_one _))

pub hcl_plan_one : (name : List ℕ) → HasOneAnswer (hcl_plan name)
unfolding hcl_plan
hcl_plan_one name =
    reads_one _ _ _ (λ text. gives_one (ReadsAs text) (RefusesHcl name text) _ (at_most_one_file text) (hcl_one name text) (read_apart name text) (λ file reads. answers_one _))

pub aigrun_plan_one : (name : List ℕ) (seed : ℕ) → HasOneAnswer (aigrun_plan name seed)
unfolding aigrun_plan
aigrun_plan_one name seed = reads_one _ _ _ (λ text. says_one (AigrunAnswers name text seed) (aigrun_one text seed name))

-- ---- commands with a design

seq_plan_one : (which : SequentialDatapath) (terms : List Term) (object : List ℕ) (size limit : ℕ) (v : Variant) (ids : List ℕ) → IsBound (rows_of which) terms →
    IsOrderOf (rows_of which) terms ids → HasOneAnswer (seq_plan which terms object size limit v)
unfolding seq_plan
seq_plan_one which terms object size limit v ids bound o =
    reads_one _ _ _ (λ bytes. after_one _ _ (λ image. says_one (SeqAnswers which v terms limit image) (seq_answers_one v terms ids image which bound o limit)))

pub ssim_plan_one : (which : SequentialDatapath) (name object : List ℕ) (size limit : ℕ) (v : Variant) → HasOneAnswer (ssim_plan which name object size limit v)
unfolding ssim_plan
ssim_plan_one which name object size limit v = reads_one _ _ _ (λ text.
    gives_one (IsDesign (rows_of which) text) (RefusesDesign name (rows_of which) text) _
    (one_design (rows_of which) text) (refusal_one (rows_of which) text name) (not_refused name (rows_of which) text)
    (λ terms d. let o = design_ordered (rows_of which) text (sound_of which) terms d in
    seq_plan_one which terms object size limit v o.0 (design_belongs (rows_of which) text (sound_of which) terms d) o.1))

pub check_seq_plan_one : (which : SequentialDatapath) (name : List ℕ) (v : Variant) → HasOneAnswer (check_seq_plan which name v)
unfolding check_seq_plan
check_seq_plan_one which name v = reads_one _ _ _ (λ text.
    gives_one (IsDesign (rows_of which) text) (RefusesDesign name (rows_of which) text) _
    (one_design (rows_of which) text) (refusal_one (rows_of which) text name) (not_refused name (rows_of which) text)
    (λ terms d. let o = design_ordered (rows_of which) text (sound_of which) terms d in
    says_one (SeqChecks which name v terms) (seq_check_one which name v terms o.0 o.1)))

-- a plan after a design for PIPE
pipe_stage : (name text : List ℕ) (next : List Term → Plan) →
    ((terms : List Term) (ids : List ℕ) → IsBound pipe_rows terms → IsOrderOf pipe_rows terms ids → HasOneAnswer (next terms)) →
    HasOneAnswer (value_in (IsDesign pipe_rows text) (RefusesDesign name pipe_rows text) next)
pipe_stage name text next one =
    gives_one (IsDesign pipe_rows text) (RefusesDesign name pipe_rows text) next
    (one_design pipe_rows text) (refusal_one pipe_rows text name) (not_refused name pipe_rows text)
    (λ terms d. let o = design_ordered pipe_rows text pipe_sound terms d in one terms o.0 (design_belongs pipe_rows text pipe_sound terms d) o.1)

pipe_plan_one : (verdict : List ℕ) (terms : List Term) (object : List ℕ) (size limit : ℕ) (trace : Bool) (v : Variant) (ids : List ℕ) → IsBound pipe_rows terms →
    IsOrderOf pipe_rows terms ids → HasOneAnswer (pipe_plan verdict terms object size limit trace v)
unfolding pipe_plan
pipe_plan_one verdict terms object size limit trace v ids bound o =
    reads_one _ _ _ (λ bytes. after_one _ _ (λ image. says_one (PipeAnswers v terms limit trace verdict image) (pipe_answers_one v terms ids bound o image limit trace verdict)))

checked_plan_one : (name : List ℕ) (terms : List Term) (object : List ℕ) (size limit : ℕ) (trace checked : Bool) (v : Variant) (ids : List ℕ) →
    IsBound pipe_rows terms → IsOrderOf pipe_rows terms ids → HasOneAnswer (checked_plan name terms object size limit trace checked v)
unfolding checked_plan
checked_plan_one name terms object size limit trace false v ids bound o = pipe_plan_one [] terms object size limit trace v ids bound o
checked_plan_one name terms object size limit trace true v ids bound o =
    gives_one (λ yes. AnswersYesPipe v terms (done 0 yes)) (RefusesPipe name v terms) _
    (λ x y p q. out_of (accepts_pipe_one name v terms ids o (done 0 x) (done 0 y) p q)) (refuses_pipe_one name v terms ids o)
    (λ x a p q. pipe_apart name v terms ids o (done 0 x) a p q)
    (λ yes accepts. pipe_plan_one yes terms object size limit trace v ids bound o)
  where
    out_of : {x y : List ℕ} → done 0 x ≡ done 0 y → x ≡ y
    out_of e = ap (λ (a : Answer). a.out) e

pub psim_plan_one : (name object : List ℕ) (size limit : ℕ) (trace checked : Bool) (v : Variant) → HasOneAnswer (psim_plan name object size limit trace checked v)
unfolding psim_plan
psim_plan_one name object size limit trace checked v =
    reads_one _ _ _ (λ text. pipe_stage name text _ (λ terms ids bound o. checked_plan_one name terms object size limit trace checked v ids bound o))

pub check_pipe_plan_one : (name : List ℕ) (v : Variant) → HasOneAnswer (check_pipe_plan name v)
unfolding check_pipe_plan
check_pipe_plan_one name v = reads_one _ _ _ (λ text. pipe_stage name text _ (λ terms ids bound o. says_one (PipeChecks name v terms) (pipe_check_one name v terms ids o)))

pub big_plan_one : (n : ℕ) (name : List ℕ) (v : Variant) → HasOneAnswer (big_plan n name v)
unfolding big_plan
big_plan_one n name v = reads_one _ _ _ (λ text. pipe_stage name text _ (λ terms ids bound o. says_one (BigAnswers v terms n) (big_one v terms ids bound o n)))

pub sample_plan_one : (name : List ℕ) (seed count : ℕ) (v : Variant) → HasOneAnswer (sample_plan name seed count v)
unfolding sample_plan
sample_plan_one name seed count v =
    reads_one _ _ _ (λ text. pipe_stage name text _ (λ terms ids bound o. says_one (SampleAnswers name v terms seed count) (sample_one name v terms ids o seed count)))

-- ---- words that form no command

pub no_command_one : HasOneAnswer (plan_in None)
no_command_one = answers_one _

-- ---- one answer, except for the text of a `yes`

yes_stage : (name text : List ℕ) (next : List Term → Plan) → ((terms : List Term) (ids : List ℕ) → IsOrderOf pipe_rows terms ids → HasOneRefusal (next terms)) →
    HasOneRefusal (value_in (IsDesign pipe_rows text) (RefusesDesign name pipe_rows text) next)
yes_stage name text next one =
    gives_yes (IsDesign pipe_rows text) (RefusesDesign name pipe_rows text) next
    (one_design pipe_rows text) (refusal_one pipe_rows text name) (not_refused name pipe_rows text)
    (λ terms d. let o = design_ordered pipe_rows text pipe_sound terms d in one terms o.0 o.1)

both_yes : (a b : Answer) (x y : List ℕ) → a ≡ done 0 x → b ≡ done 0 y → AreYes a b
both_yes a b x y p q = record {
  first = ap (λ (z : Answer). z.status) p;
  second = ap (λ (z : Answer). z.status) q;
  quiet = ap (λ (z : Answer). z.err) p;
  still = ap (λ (z : Answer). z.err) q;
}

module _ (name : List ℕ) (v : Variant) (terms : List Term) (ids : List ℕ) (o : IsOrderOf pipe_rows terms ids) where
  pub certificate_or_refusal : (a b : Answer) → CertifiesPipe v terms a → RefusesPipe name v terms b → ⊥
  certificate_or_refusal a b h k =
      pipe_apart name v terms ids o (done 0 (pipe_yes h.settings)) b (record { settings = h.settings; accepted = h.accepted; refines = h.refines; told = refl }) k

  certify_yes : (a b : Answer) → PipeCertifies name v terms a → PipeCertifies name v terms b → (a ≡ b) ⊎ AreYes a b
  certify_yes a b (inl h) (inl k) = inr (both_yes a b h.text k.text h.told k.told)
  certify_yes a b (inl h) (inr k) = absurd (certificate_or_refusal a b h k)
  certify_yes a b (inr h) (inl k) = absurd (certificate_or_refusal b a k h)
  certify_yes a b (inr h) (inr k) = inl (refuses_pipe_one name v terms ids o a b h k)

  aig_yes : (a b : Answer) → AigAnswers name v terms a → AigAnswers name v terms b → (a ≡ b) ⊎ AreYes a b
  aig_yes a b (inl h) (inl k) = inr (both_yes a b h.text k.text h.told k.told)
  aig_yes a b (inl h) (inr k) = absurd (control_apart name pipe_rows terms ids o b k h.tells.are.atoms h.tells.are.are)
  aig_yes a b (inr h) (inl k) = absurd (control_apart name pipe_rows terms ids o a h k.tells.are.atoms k.tells.are.are)
  aig_yes a b (inr h) (inr k) = inl (control_one name pipe_rows terms ids o a b h k)

pub certify_plan_yes : (name : List ℕ) (v : Variant) → HasOneRefusal (certify_pipe_plan name v)
unfolding certify_pipe_plan
certify_plan_yes name v = reads_yes _ _ _ (λ text. yes_stage name text _ (λ terms ids o. says_yes (PipeCertifies name v terms) (certify_yes name v terms ids o)))

pub aig_plan_yes : (name : List ℕ) (v : Variant) → HasOneRefusal (aig_plan name v)
unfolding aig_plan
aig_plan_yes name v = reads_yes _ _ _ (λ text. yes_stage name text _ (λ terms ids o. says_yes (AigAnswers name v terms) (aig_yes name v terms ids o)))

-- ---- two calls

pub told_alike : (form : Option Command) → HasOneAnswer (plan_in form) → (call other_call : CallStates) (status other : ℕ) →
    MeetsContract form call status → MeetsContract form other_call other →
    (contents : List (Option (List ℕ))) → HasContents call.files_before.told (plan_in form) contents → HasContents other_call.files_before.told (plan_in form) contents →
    status ≢ 3 → status ≢ 4 → status ≢ 6 → other ≢ 3 → other ≢ 4 → other ≢ 6 →
    SameAnswers (plan_in form) contents call other_call status other
told_alike form one call other_call status other ran ran2 contents tells tells2 three four six three2 four2 six2 =
    let a = ran.answer three six in
    let b = ran2.answer three2 six2 in
    let same : a.0 ≡ b.0 = one.one contents a.0 b.0 (a.1.by_told contents tells) (b.1.by_told contents tells2) in
    record {
      answer = b.0;
      allowed = b.1.by_told contents tells2;
      status_is = a.2.status_is four ∙ ap (λ (x : Answer). x.status) same;
      other_is = b.2.status_is four2;
      out = subst (λ (x : Answer). Appended call.out_before.taken call.out_after.taken x.out) same (a.2.out four);
      other_out = b.2.out four2;
      err = subst (λ (x : Answer). WroteError call.err_before call.err_after x.err) same (a.2.err four);
      other_err = b.2.err four2;
    }
