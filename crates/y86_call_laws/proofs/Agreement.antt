-- What the answers of `check`, and of `psim` after a check, mean for the run of instructions.
use Rattle.std.proofs.Common.{◌≡◌, ◌⊎◌, codes, ℕ, zero, suc, ◌≤◌, Bool, true, List, ◌++◌, length, refl, sym, ap, subst, ◌∙◌, inl, inr, Some, Result, Ok, Err, lit≤, arith}
use Rattle.dp_signals.specs.PipeRun.{PipeHistory, PipeRun}
use Rattle.dp_signals.specs.PipeTable.{pipe_rows}
use Rattle.hcl_types.specs.declared.table.Row.{Row}
use Rattle.hcl_types.specs.declared.term.Term.{Term}
use Rattle.pipe_refinement.specs.Refines.{Refines, StopsAs}
use Rattle.retire_trace.specs.Drive.{traced}
use Rattle.verdict_text.specs.PipeLines.{pipe_yes}
use Rattle.wb_io.specs.Files.{HasBytes}
use Rattle.wb_io.specs.Sinks.{Appended}
use Rattle.y86_base.specs.Image.{IsSize}
use Rattle.y86_base.specs.declared.parts.Variant.{Variant}
use Rattle.y86_isa.specs.Run.{run}
use Rattle.y86_isa.specs.declared.machine.Machine.{Machine}
use Rattle.yis_run.specs.Report.{register_lines, report}
use Rattle.yo_object.specs.ObjectText.{object_of}
use Rattle.yo_object.specs.declared.object.YoFault.{YoFault}
use Rattle.y86_call_laws.specs.CheckedRuns.{PrintsTheRun, HasAccepted, HasAcceptedSeq, CheckedRunIsRight, ToldAccepted, ToldAcceptedSeq, AnsweredNo}
use Rattle.cli_runs.specs.Answers.{PipeAnswers, checked_plan, pipe_plan, psim_plan}
use Rattle.cli_checks.specs.Answers.{check_pipe_plan, check_seq_plan}
use Rattle.cli_plans.specs.Stages.{image_of_text}
use Rattle.cli_verdicts.specs.Verdicts.{AnswersYesPipe, RefusesControl}
use Rattle.seq_plus.specs.Datapaths.{rows_of}
use Rattle.hcl_design.specs.Designs.{IsDesign}
use Rattle.cli_plans.specs.Designs.{RefusesDesign}
use Rattle.cli_plans.specs.PlanFollowing.{CallStates, SinkState}
use Rattle.y86_words.specs.Forms.{check_pipe, check_plus, check_seq, form_of, psim}
use Rattle.cli_plans.specs.Lines.{object_fault_line}
use Rattle.cli_plans.specs.Known.{Known}
use Rattle.cli_plans.specs.Plan.{Answer, MayBeAnswer, value_from, done, refused}
use Rattle.cli_runs.specs.PipeRuns.{RunsFor, end_of, run_text}
use Rattle.y86_cli.specs.CallContract.{DeliversOnBoth, MeetsContract}
use Rattle.y86_words.proofs.Legal.{form_legal}
use Rattle.hcl_types.specs.declared.table.SequentialDatapath.{SequentialDatapath}
use Rattle.hcl_types.specs.declared.table.SequentialDatapath.TheVariants.{Seq, SeqPlus}
use Rattle.y86_call_laws.proofs.Loaded.{loaded_is_image}

-- ---- a run that goes on to its end is a run

pipe_run : (v : Variant) (terms : List Term) (image : List ℕ) (k : ℕ) (p : PipeHistory) → RunsFor v terms image k p → PipeRun v terms image k p
pipe_run v terms image zero p goes = goes
pipe_run v terms image (suc k) p goes = (goes.0, pipe_run v terms image k goes.0 goes.1, goes.3)

end_is : (p : PipeHistory) (m : Machine) → StopsAs p m → end_of p ≡ m
end_is p m stops = rw (stops.registers, stops.flags, stops.pc, stops.stat, stops.memory) refl

agree : (v : Variant) (terms : List Term) (image : List ℕ) (trace : Bool) (k : ℕ) (p : PipeHistory) → Refines v terms image k → RunsFor v terms image k p →
    PrintsTheRun v image trace p
agree v terms image trace k p refines goes =
    let ran = pipe_run v terms image k p goes in
    record {
      trace_lines = ap (traced trace) (refines.records p ran);
      lines_of_registers = ap register_lines (refines.registers p ran);
      whole_report = λ stopped. ap (λ m. report image m (length p.records)) (end_is p (run v image (length p.records)) (refines.stop p ran stopped));
    }

-- ---- answers with status 0 or 1

pub high : (a : Answer) (n : ℕ) (line : List ℕ) → a ≡ refused n line → 2 ≤ n → a.status ≤ 1 → ⊥
high a n line same big low = let is : a.status ≡ n = ap (λ x. x.status) same in omega (arith, is, big, low)

pub design_high : (name : List ℕ) (rows : List Row) (text : List ℕ) (a : Answer) → RefusesDesign name rows text a → a.status ≤ 1 → ⊥
design_high name rows text a (inl unread) low = high a 5 _ unread.2 (lit≤ tt) low
design_high name rows text a (inr (inl unbound)) low = high a 5 _ unbound.told (lit≤ tt) low
design_high name rows text a (inr (inr unordered)) low = high a 5 _ unordered.told (lit≤ tt) low

pub control_high : (name : List ℕ) (rows : List Row) (terms : List Term) (a : Answer) → RefusesControl name rows terms a → a.status ≤ 1 → ⊥
control_high name rows terms a (inl mixed) low = high a 5 _ mixed.told (lit≤ tt) low
control_high name rows terms a (inr over) low = high a 5 _ over.told (lit≤ tt) low

pub loads_ok : (name : List ℕ) (loaded : Result (List ℕ) YoFault) (image : List ℕ) → image_of_text name loaded ≡ Ok image → loaded ≡ Ok image
loads_ok name (Ok one) image e = let same : one ≡ image = cc (e) in ap Ok same
loads_ok name (Err fault) image e = absurd (cc (e))

load_high : (name : List ℕ) (loaded : Result (List ℕ) YoFault) (a : Answer) → image_of_text name loaded ≡ Err a → a.status ≤ 1 → ⊥
load_high name (Ok image) a e low = absurd (cc (e))
load_high name (Err fault) a e low = let same : refused 5 (object_fault_line name fault) ≡ a = cc (e) in high a 5 _ (sym same) (lit≤ tt) low

-- ---- `check pipe`

has_accepted : (v : Variant) (told : Known) (text : List ℕ) (terms : List Term) (a : Answer) → HasBytes told text → IsDesign pipe_rows text terms →
    AnswersYesPipe v terms a → HasAccepted v told
has_accepted v told text terms a has design accepts =
    record { text = text; has = has; terms = terms; design = design; settings = accepts.settings; accepted = accepts.accepted; refines = accepts.refines }

check_told : (told : List ℕ → Known) (name : List ℕ) (v : Variant) (a : Answer) → MayBeAnswer told (check_pipe_plan name v) a → a.status ≡ 0 →
    (file : HasAccepted v (told name)) × (a.out ≡ pipe_yes file.settings)
unfolding check_pipe_plan has_accepted
check_told told name v a (inl failed) none = absurd (high a 3 _ failed.1 (lit≤ tt) (omega (arith, none)))
check_told told name v a (inr (inl long)) none = absurd (high a 7 _ long.1 (lit≤ tt) (omega (arith, none)))
check_told told name v a (inr (inr (text, has, short, inr refuses))) none = absurd (design_high name pipe_rows text a refuses (omega (arith, none)))
check_told told name v a (inr (inr (text, has, short, inl (terms, design, inl accepts)))) none =
    (has_accepted v (told name) text terms a has design accepts, ap (λ (x : Answer). x.out) accepts.told)
check_told told name v a (inr (inr (text, has, short, inl (terms, design, inr (inl denies))))) none =
    let one : a.status ≡ 1 = ap (λ x. x.status) denies.told in absurd (omega (arith, one, none))
check_told told name v a (inr (inr (text, has, short, inl (terms, design, inr (inr refuses))))) none =
    absurd (control_high name pipe_rows terms a refuses (omega (arith, none)))

check_accepts : (name : List ℕ) (v : Variant) (call : CallStates) →
    MeetsContract (Some (check_pipe name v)) call 0 → ToldAccepted v (call.files_before.told name) call.out_before call.out_after
check_accepts name v call ran =
    let given = ran.answer (λ three. omega (arith, three)) (λ six. omega (arith, six)) in
    let said = check_told call.files_before.told name v given.0 given.1.by_some (sym (given.2.status_is (λ four. omega (arith, four)))) in
    record { file = said.0; line = subst (Appended call.out_before.taken call.out_after.taken) said.1 (given.2.out (λ four. omega (arith, four))) }

-- ---- `check seq` and `check seqplus`

check_seq_told : (which : SequentialDatapath) (told : List ℕ → Known) (name : List ℕ) (v : Variant) (a : Answer) → MayBeAnswer told (check_seq_plan which name v) a →
    a.status ≡ 0 → HasAcceptedSeq which v (told name) × (a.out ≡ codes "yes\n")
unfolding check_seq_plan
check_seq_told which told name v a (inl failed) none = absurd (high a 3 _ failed.1 (lit≤ tt) (omega (arith, none)))
check_seq_told which told name v a (inr (inl long)) none = absurd (high a 7 _ long.1 (lit≤ tt) (omega (arith, none)))
check_seq_told which told name v a (inr (inr (text, has, short, inr refuses))) none = absurd (design_high name (rows_of which) text a refuses (omega (arith, none)))
check_seq_told which told name v a (inr (inr (text, has, short, inl (terms, design, inl accepts)))) none =
    (record { text = text; has = has; terms = terms; design = design; accepted = accepts.accepted; refines = accepts.refines }, ap (λ (x : Answer). x.out) accepts.told)
check_seq_told which told name v a (inr (inr (text, has, short, inl (terms, design, inr (inl denies))))) none =
    let one : a.status ≡ 1 = ap (λ x. x.status) denies.told in absurd (omega (arith, one, none))
check_seq_told which told name v a (inr (inr (text, has, short, inl (terms, design, inr (inr refuses))))) none =
    absurd (control_high name (rows_of which) terms a refuses (omega (arith, none)))

check_seq_says : (which : SequentialDatapath) (name : List ℕ) (v : Variant) (a : Answer) (call : CallStates) →
    MayBeAnswer call.files_before.told (check_seq_plan which name v) a → DeliversOnBoth a call.out_before call.out_after call.err_before call.err_after 0 →
    ToldAcceptedSeq which v (call.files_before.told name) call.out_before call.out_after
check_seq_says which name v a call may shows =
    let said = check_seq_told which call.files_before.told name v a may (sym (shows.status_is (λ four. omega (arith, four)))) in
    record { file = said.0; line = subst (Appended call.out_before.taken call.out_after.taken) said.1 (shows.out (λ four. omega (arith, four))) }

check_seq_accepts : (name : List ℕ) (v : Variant) (call : CallStates) →
    MeetsContract (Some (check_seq name v)) call 0 → ToldAcceptedSeq Seq v (call.files_before.told name) call.out_before call.out_after
check_seq_accepts name v call ran =
    let given = ran.answer (λ three. omega (arith, three)) (λ six. omega (arith, six)) in
    check_seq_says Seq name v given.0 call given.1.by_some given.2

check_plus_accepts : (name : List ℕ) (v : Variant) (call : CallStates) →
    MeetsContract (Some (check_plus name v)) call 0 → ToldAcceptedSeq SeqPlus v (call.files_before.told name) call.out_before call.out_after
check_plus_accepts name v call ran =
    let given = ran.answer (λ three. omega (arith, three)) (λ six. omega (arith, six)) in
    check_seq_says SeqPlus name v given.0 call given.1.by_some given.2

-- ---- `psim` after a check

abbrev Told : (v : Variant) (size limit : ℕ) (trace : Bool) (hcl object : Known) (early late : SinkState) (status : ℕ) → Type 0
Told v size limit trace hcl object early late status =
    CheckedRunIsRight v size limit trace hcl object early late status ⊎ AnsweredNo v hcl early late status

ran_accepted : (v : Variant) (size limit : ℕ) (trace : Bool) (hcl object : Known) (early late : SinkState) (status : ℕ) (a : Answer) →
    IsSize size → status ≡ a.status → Appended early.taken late.taken a.out → (text : List ℕ) → HasBytes hcl text → (terms : List Term) → IsDesign pipe_rows text terms →
    (verdict : List ℕ) → AnswersYesPipe v terms (done 0 verdict) → (bytes : List ℕ) → HasBytes object bytes → (image : List ℕ) → object_of bytes size ≡ Ok image →
    PipeAnswers v terms limit trace verdict image a → CheckedRunIsRight v size limit trace hcl object early late status
unfolding has_accepted
ran_accepted v size limit trace hcl object early late status a sized is took text has terms design verdict accepts bytes has_object image loads (cycles, end, runs, said) =
    let told : a.out ≡ pipe_yes accepts.settings ++ run_text trace image cycles end =
    ap (λ x. x.out) said ∙ ap (λ (front : List ℕ). front ++ run_text trace image cycles end) (ap (λ x. x.out) accepts.told) in
    record {
      file = has_accepted v hcl text terms (done 0 verdict) has design accepts;
      bytes = bytes;
      has = has_object;
      image = image;
      loads = loads;
      cycles = cycles;
      end = end;
      runs = runs;
      status_is = is ∙ ap (λ x. x.status) said;
      told = subst (λ out. Appended early.taken late.taken out) told took;
      agrees = λ pure. agree v terms image trace cycles end (accepts.refines image cycles (loaded_is_image bytes size image sized loads) pure) runs.goes;
    }

psim_told : (told : List ℕ → Known) (name object : List ℕ) (size limit : ℕ) (trace : Bool) (v : Variant) (early late : SinkState) (status : ℕ)
    (a : Answer) → IsSize size → status ≡ a.status → a.status ≤ 1 → Appended early.taken late.taken a.out → MayBeAnswer told (psim_plan name object size limit trace true v) a →
    Told v size limit trace (told name) (told object) early late status
unfolding psim_plan checked_plan pipe_plan value_from
psim_told told name object size limit trace v early late status a sized is low took (inl failed) = absurd (high a 3 _ failed.1 (lit≤ tt) low)
psim_told told name object size limit trace v early late status a sized is low took (inr (inl long)) = absurd (high a 7 _ long.1 (lit≤ tt) low)
psim_told told name object size limit trace v early late status a sized is low took (inr (inr (text, has, short, inr refuses))) =
    absurd (design_high name pipe_rows text a refuses low)
psim_told told name object size limit trace v early late status a sized is low took (inr (inr (text, has, short, inl (terms, design, inr (inl denies))))) =
    inr (record {
      text = text;
      has = has;
      terms = terms;
      design = design;
      answer = a;
      denied = denies;
      status_is = is ∙ ap (λ x. x.status) denies.told;
      told = took;
    })
psim_told told name object size limit trace v early late status a sized is low took (inr (inr (text, has, short, inl (terms, design, inr (inr refuses))))) =
    absurd (control_high name pipe_rows terms a refuses low)
psim_told told name object size limit trace v early late status a sized is low took (inr (inr (text, has, short, inl (terms, design, inl (verdict, accepts, inl failed))))) =
    absurd (high a 3 _ failed.1 (lit≤ tt) low)
psim_told told name object size limit trace v early late status a sized is low took
    (inr (inr (text, has, short, inl (terms, design, inl (verdict, accepts, inr (inl long)))))) =
    absurd (high a 7 _ long.1 (lit≤ tt) low)
psim_told told name object size limit trace v early late status a sized is low took
    (inr (inr (text, has, short, inl (terms, design, inl (verdict, accepts, inr (inr (bytes, has_object, short_object, inr refuses))))))) =
    absurd (load_high object (object_of bytes size) a refuses low)
psim_told told name object size limit trace v early late status a sized is low took
    (inr (inr (text, has, short, inl (terms, design, inl (verdict, accepts, inr (inr (bytes, has_object, short_object, inl (image, loads, answers)))))))) =
    inl (ran_accepted v size limit trace (told name) (told object) early late status a sized is took text has terms design verdict accepts bytes has_object image
    (loads_ok object (object_of bytes size) image loads) answers)

psim_agrees : (name object : List ℕ) (size limit : ℕ) (trace : Bool) (v : Variant) (call : CallStates) (status : ℕ) → IsSize size → status ≤ 1 →
    MeetsContract (Some (psim name object size limit trace true v)) call status →
    CheckedRunIsRight v size limit trace (call.files_before.told name) (call.files_before.told object) call.out_before call.out_after status
    ⊎ AnsweredNo v (call.files_before.told name) call.out_before call.out_after status
psim_agrees name object size limit trace v call status sized low ran =
    let given = ran.answer (λ three. omega (arith, three, low)) (λ six. omega (arith, six, low)) in
    let is : status ≡ given.0.status = given.2.status_is (λ four. omega (arith, four, low)) in
    psim_told call.files_before.told name object size limit trace v call.out_before call.out_after status given.0 sized is (omega (arith, is, low))
    (given.2.out (λ four. omega (arith, four, low))) given.1.by_some

-- ---- the same for the words of a call

pub accepting_seq_words : (words : List (List ℕ)) (name : List ℕ) (v : Variant) (call : CallStates) →
    form_of words ≡ Some (check_seq name v) → MeetsContract (form_of words) call 0 →
    ToldAcceptedSeq Seq v (call.files_before.told name) call.out_before call.out_after
accepting_seq_words words name v call is ran =
    check_seq_accepts name v call (rw is at ran)

pub accepting_plus_words : (words : List (List ℕ)) (name : List ℕ) (v : Variant) (call : CallStates) →
    form_of words ≡ Some (check_plus name v) → MeetsContract (form_of words) call 0 →
    ToldAcceptedSeq SeqPlus v (call.files_before.told name) call.out_before call.out_after
accepting_plus_words words name v call is ran =
    check_plus_accepts name v call (rw is at ran)

pub accepting_words : (words : List (List ℕ)) (name : List ℕ) (v : Variant) (call : CallStates) →
    form_of words ≡ Some (check_pipe name v) → MeetsContract (form_of words) call 0 →
    ToldAccepted v (call.files_before.told name) call.out_before call.out_after
accepting_words words name v call is ran =
    check_accepts name v call (rw is at ran)

-- words that form a command contain a size of memory
pub agreeing_words : (words : List (List ℕ)) (name object : List ℕ) (size limit : ℕ) (trace : Bool) (v : Variant) (call : CallStates) (status : ℕ) →
    form_of words ≡ Some (psim name object size limit trace true v) → status ≤ 1 → MeetsContract (form_of words) call status →
    CheckedRunIsRight v size limit trace (call.files_before.told name) (call.files_before.told object) call.out_before call.out_after status
    ⊎ AnsweredNo v (call.files_before.told name) call.out_before call.out_after status
agreeing_words words name object size limit trace v call status is low ran =
    psim_agrees name object size limit trace v call status
    (form_legal words (psim name object size limit trace true v) is).2 low (rw is at ran)
