-- What a run of PIPE answers: the code's drive is a run of the definition, and a drive that stopped at a failed write
-- could have been continued to one.
use Rattle.std.proofs.Common.{◌≡◌, ℕ, zero, suc, ◌+◌, ◌-◌, ◌≤◌, Bool, true, false, List, [], ◌∷◌, ◌++◌, length, Option, refl, sym, ap, subst, ◌∙◌, arith, length-append, append_assoc}
use Rattle.std.proofs.lemmas.List.{append-nil}
use Rattle.std.proofs.Math.Seq.{take-append-add}
use Rattle.std.specs.Option.{option_to_list}
use Rattle.wb_io.specs.Causes.{counted}
use Rattle.wb_io.specs.Sinks.{Appended, AppendedPrefix}
use Rattle.wb_io.proofs.Writes.{part_after, part_more, took_more}
use Rattle.y86_base.specs.declared.parts.Variant.{Variant}
use Rattle.y86_isa.specs.Machine.{is_aok}
use Rattle.y86_isa.specs.declared.machine.Machine.{Machine}
use Rattle.y86_isa.specs.declared.machine.Rec.{Rec}
use Rattle.hcl_types.specs.Tables.{IsBound, IsOrderOf}
use Rattle.hcl_types.specs.declared.term.Term.{Term}
use Rattle.dp_signals.proofs.PipeRules.{pipe_solves}
use Rattle.dp_signals.specs.PipeCycle.{retires}
use Rattle.dp_signals.specs.PipeEquations.{Solves}
use Rattle.dp_signals.specs.PipeRun as run
use Rattle.dp_signals.specs.PipeTable.{pipe_rows}
use Rattle.pipe_path.specs.Pipe as pipe
use Rattle.retire_trace.proofs.Driven.{traced_append, traced_one}
use Rattle.retire_trace.specs.Drive as drive
use Rattle.retire_trace.specs.TraceLine.{trace_line}
use Rattle.retire_trace.specs.declared.driving.Drove.{Drove}
use Rattle.yis_run.specs.Report.{report}
use Rattle.prog_cosim.proofs.Drives.{driven, machine, runs}
use Rattle.cli_runs.specs.Answers.{PipeAnswers}
use Rattle.cli_plans.specs.Stages.{run_status}
use Rattle.cli_plans.specs.PlanFollowing.{SinkState, WrotePart, WroteWhole}
use Rattle.cli_runs.specs.PipeRuns.{RunsFor, RunsTo, end_of, ran_line, run_text}
use Rattle.cli_plans.specs.Plan.{done}

-- ---- every run can go on to its end or to the limit

record GoesOn (v : Variant) (terms : List Term) (image : List ℕ) (limit : ℕ) (records : List Rec) : Type 0 where
  cycles : ℕ
  last : run.PipeHistory
  rest : List Rec
  runs : RunsTo v terms image limit cycles last
  behind : last.records ≡ records ++ rest

-- one cycle more
one_more : (v : Variant) (terms : List Term) (image : List ℕ) (k : ℕ) (p : run.PipeHistory) (f : ℕ → ℕ) → Solves v terms p.state f → is_aok p.end ≡ true →
    RunsFor v terms image k p → RunsFor v terms image (suc k) (run.after_cycle p f)
one_more v terms image k p f solved going goes =
    (p, goes, going, record { ended = λ over. absurd (grind (arith, over, going)); goes = λ _. (f, solved, refl) })

behind_one : (v : Variant) (terms : List Term) (image : List ℕ) (limit : ℕ) (p : run.PipeHistory) (f : ℕ → ℕ) →
    GoesOn v terms image limit (run.after_cycle p f).records → GoesOn v terms image limit p.records
behind_one v terms image limit p f on = record {
  cycles = on.cycles;
  last = on.last;
  rest = option_to_list (retires p.state f) ++ on.rest;
  runs = on.runs;
  behind = on.behind ∙ append_assoc p.records (option_to_list (retires p.state f)) on.rest;
}

goes_on : (v : Variant) (terms : List Term) (ids image : List ℕ) → IsBound pipe_rows terms → IsOrderOf pipe_rows terms ids →
    (n limit k : ℕ) (p : run.PipeHistory) → k + n ≡ limit → RunsFor v terms image k p → GoesOn v terms image limit p.records
goes_on v terms ids image bound ordered zero limit k p sum goes =
    record {
      cycles = k;
      last = p;
      rest = [];
      runs = record { within = omega (arith, sum); goes = goes; whole = λ lt. absurd (omega (arith, sum, lt)) };
      behind = sym (append-nil p.records);
    }
goes_on v terms ids image bound ordered (suc n) limit k p sum goes =
    by (is_aok p.end) refl (λ q on. goes_on v terms ids image bound ordered n limit (suc k) q (omega (arith, sum)) on)
  where
    by : (b : Bool) → is_aok p.end ≡ b → ((q : run.PipeHistory) → RunsFor v terms image (suc k) q → GoesOn v terms image limit q.records) →
        GoesOn v terms image limit p.records
    by false over more =
        record {
          cycles = k;
          last = p;
          rest = [];
          runs = record { within = omega (arith, sum); goes = goes; whole = λ lt. over };
          behind = sym (append-nil p.records);
        }
    by true going more =
        behind_one v terms image limit p _ (more _ (one_more v terms image k p _ (pipe_solves v p.state terms ids bound ordered) going goes))

-- ---- the output

texts_same : (trace : Bool) (image first : List ℕ) (q : pipe.PipeMachine) (last : Machine) (d : Drove) (records : List Rec) → first ≡ image → last ≡ pipe.end_of q →
    d.retired ≡ length records →
    drive.traced trace records ++ (ran_line d.cycles d.retired ++ report first last d.retired) ≡ run_text trace image d.cycles (machine q records)
texts_same trace image first q last d records copied ended counted_is = rw (copied, ended, counted_is) refl

pub pipe_whole : (v : Variant) (terms : List Term) (order image : List ℕ) (limit : ℕ) (trace : Bool) (m q : pipe.PipeMachine) (d : Drove) (records : List Rec)
    (first : List ℕ) (last : Machine) (status : ℕ) (before after : SinkState) (between : Option (List ℕ)) → first ≡ image → m ≡ pipe.started v terms order image →
    drive.IsDrive m limit q d records → last ≡ pipe.end_of q → status ≡ run_status d.end → status ≤ 1 →
    Appended before.taken between (drive.traced trace records) → Appended between after.taken (ran_line d.cycles d.retired ++ report first last d.retired) →
    after.faults ≡ before.faults → WroteWhole (PipeAnswers v terms limit trace [] image) before after status
pipe_whole v terms order image limit trace m q d records first last status before after between copied begun drives ended is low traced told no_fault = record {
  answer = done (run_status q.end) (run_text trace image d.cycles (machine q records));
  allowed = (d.cycles, machine q records, runs v terms order image limit m q d records begun drives, refl);
  status_is = is ∙ ap run_status drives.end;
  low = low;
  quiet = refl;
  went = subst (λ text. Appended before.taken after.taken text) (texts_same trace image first q last d records copied ended drives.retired)
      (took_more _ _ _ _ _ traced told);
  no_fault = no_fault;
}

pub pipe_part : (v : Variant) (terms : List Term) (order image : List ℕ) (limit : ℕ) (trace : Bool) (m q : pipe.PipeMachine) (d : Drove) (records : List Rec)
    (first : List ℕ) (last : Machine) (before after : SinkState) (between : Option (List ℕ)) → first ≡ image → m ≡ pipe.started v terms order image →
    drive.IsDrive m limit q d records → last ≡ pipe.end_of q →
    Appended before.taken between (drive.traced trace records) → AppendedPrefix between after.taken (ran_line d.cycles d.retired ++ report first last d.retired) →
    after.faults ≡ counted before.faults → WrotePart (PipeAnswers v terms limit trace [] image) before after
pipe_part v terms order image limit trace m q d records first last before after between copied begun drives ended traced told one_fault = record {
  answer = done (run_status q.end) (run_text trace image d.cycles (machine q records));
  allowed = (d.cycles, machine q records, runs v terms order image limit m q d records begun drives, refl);
  went = subst (λ text. AppendedPrefix before.taken after.taken text) (texts_same trace image first q last d records copied ended drives.retired)
      (part_after _ _ _ _ _ traced told);
  one_fault = one_fault;
}

-- the counts and the report behind the trace of a run
abbrev told_of : List ℕ → ℕ → run.PipeHistory → List ℕ
told_of image cycles p = ran_line cycles (length p.records) ++ report image (end_of p) (length p.records)

-- the trace of some records, of another record, and of the rest
traced_parts : (records rest : List Rec) (last : Rec) (more : List ℕ) →
    ((drive.traced true records ++ trace_line last) ++ drive.traced true rest) ++ more ≡ drive.traced true ((records ++ last ∷ []) ++ rest) ++ more
traced_parts records rest last more =
    ap (λ x. x ++ more)
    (sym (traced_append true (records ++ last ∷ []) rest
    ∙ ap (λ x. x ++ drive.traced true rest) (traced_append true records (last ∷ []) ∙ ap (λ x. drive.traced true records ++ x) (traced_one last))))

-- a drive that stopped at a failed write, and a run that goes on from there
broken_by : (v : Variant) (terms : List Term) (image : List ℕ) (limit : ℕ) (trace : Bool) (m q : pipe.PipeMachine) (before after : SinkState) (k : ℕ)
    (records : List Rec) (last : Rec) (n : ℕ) → GoesOn v terms image limit (records ++ last ∷ []) →
    drive.IsFailedDrive m limit trace q before.taken after.taken k records last n → after.faults ≡ counted before.faults →
    WrotePart (PipeAnswers v terms limit trace [] image) before after
broken_by v terms image limit trace m q before after k records last n on fails one_fault = record {
  answer = done (run_status on.last.end) (run_text trace image on.cycles on.last);
  allowed = (on.cycles, on.last, on.runs, refl);
  went = subst (λ x. AppendedPrefix before.taken after.taken x)
      (traced_parts records on.rest last (told_of image on.cycles on.last)
      ∙ (ap (λ x. drive.traced true x ++ told_of image on.cycles on.last) (sym on.behind)
      ∙ ap (λ b. drive.traced b on.last.records ++ told_of image on.cycles on.last) (sym fails.asked)))
      (part_more _ _ _ (told_of image on.cycles on.last) (part_more _ _ _ (drive.traced true on.rest) (
        length (drive.traced true records) + n,
        omega (arith, fails.proper, length-append (drive.traced true records) (trace_line last)),
        rw (take-append-add (drive.traced true records) (trace_line last) n) fails.taken,
      )));
  one_fault = one_fault;
}

pub pipe_broken : (v : Variant) (terms : List Term) (order image : List ℕ) → IsBound pipe_rows terms → IsOrderOf pipe_rows terms order →
    (limit : ℕ) (trace : Bool) (m q : pipe.PipeMachine) (before after : SinkState) (k : ℕ) (records : List Rec) (last : Rec) (n : ℕ) →
    m ≡ pipe.started v terms order image → drive.IsFailedDrive m limit trace q before.taken after.taken k records last n →
    after.faults ≡ counted before.faults → WrotePart (PipeAnswers v terms limit trace [] image) before after
pipe_broken v terms order image bound ordered limit trace m q before after k records last n begun fails one_fault =
    let within : k ≤ limit = fails.within in
    broken_by v terms image limit trace m q before after k records last n
    (goes_on v terms order image bound ordered (limit - k) limit k (machine q (records ++ last ∷ [])) (omega (arith, within))
    (driven v terms order image k q (records ++ last ∷ []) (subst (λ x. drive.CallsFor x k q (records ++ last ∷ [])) begun fails.goes)).goes)
    fails one_fault

-- ---- after the text of a verdict

pub behind_whole : (v : Variant) (terms : List Term) (limit : ℕ) (trace : Bool) (verdict image : List ℕ) (before between after : SinkState) (status : ℕ) →
    Appended before.taken between.taken verdict → between.faults ≡ before.faults → WroteWhole (PipeAnswers v terms limit trace [] image) between after status →
    WroteWhole (PipeAnswers v terms limit trace verdict image) before after status
behind_whole v terms limit trace verdict image before between after status told no_fault s = record {
  answer = done s.answer.status (verdict ++ s.answer.out);
  allowed = (s.allowed.0, s.allowed.1, s.allowed.2, ap (λ a. done a.status (verdict ++ a.out)) s.allowed.3);
  status_is = s.status_is;
  low = s.low;
  quiet = refl;
  went = took_more _ _ _ _ _ told s.went;
  no_fault = s.no_fault ∙ no_fault;
}

pub behind_part : (v : Variant) (terms : List Term) (limit : ℕ) (trace : Bool) (verdict image : List ℕ) (before between after : SinkState) →
    Appended before.taken between.taken verdict → between.faults ≡ before.faults → WrotePart (PipeAnswers v terms limit trace [] image) between after →
    WrotePart (PipeAnswers v terms limit trace verdict image) before after
behind_part v terms limit trace verdict image before between after told no_fault s = record {
  answer = done s.answer.status (verdict ++ s.answer.out);
  allowed = (s.allowed.0, s.allowed.1, s.allowed.2, ap (λ a. done a.status (verdict ++ a.out)) s.allowed.3);
  went = part_after _ _ _ _ _ told s.went;
  one_fault = s.one_fault ∙ ap counted no_fault;
}

-- the write of the verdict itself failed
pub verdict_broken : (v : Variant) (terms : List Term) (order image : List ℕ) → IsBound pipe_rows terms → IsOrderOf pipe_rows terms order →
    (limit : ℕ) (trace : Bool) (verdict : List ℕ) (before after : SinkState) → AppendedPrefix before.taken after.taken verdict →
    after.faults ≡ counted before.faults → WrotePart (PipeAnswers v terms limit trace verdict image) before after
verdict_broken v terms order image bound ordered limit trace verdict before after part one_fault =
    let on = goes_on v terms order image bound ordered limit limit 0 (run.start_pipe image) (omega arith) refl in
    record {
      answer = done (run_status on.last.end) (verdict ++ run_text trace image on.cycles on.last);
      allowed = (on.cycles, on.last, on.runs, refl);
      went = part_more _ _ _ (run_text trace image on.cycles on.last) part;
      one_fault = one_fault;
    }
