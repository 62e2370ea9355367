-- What an answer to `check`, or to `psim` after a check, means for the run of instructions.
use Rattle.std.specs.Prelude.{◌≡◌, ℕ, codes, Bool, true, List, ◌++◌, length, Ok}
use Rattle.cert_log.specs.Files.{IsCertificate, holds_line}
use Rattle.control_check.specs.PipeVerdicts.{AcceptsPipe, RefinesPipe}
use Rattle.dp_signals.specs.PipeRun.{PipeHistory, ended_by_status}
use Rattle.dp_signals.specs.PipeTable.{pipe_rows}
use Rattle.hcl_types.specs.declared.term.Term.{Term}
use Rattle.pipe_motion.specs.declared.settings.Settings.{Settings}
use Rattle.retire_trace.specs.Drive.{traced}
use Rattle.verdict_text.specs.PipeLines.{pipe_yes}
use Rattle.wb_io.specs.Files.{HasBytes}
use Rattle.wb_io.specs.Sinks.{Appended, AppendedPrefix}
use Rattle.y86_base.specs.declared.parts.Variant.{Variant}
use Rattle.y86_isa.specs.Run.{records, run}
use Rattle.yis_pure_runs.specs.Near.{NearPure}
use Rattle.yis_run.specs.Report.{register_lines, report}
use Rattle.yo_object.specs.ObjectText.{object_of}
use Rattle.cli_plans.specs.Stages.{run_status}
use Rattle.cli_obligations.specs.Certified.{HasCertified}
use Rattle.cli_verdicts.specs.Verdicts.{AnswersNoPipe}
use Rattle.seq_plus.specs.Datapaths.{rows_of}
use Rattle.seq_check.specs.Verdicts.{Accepts, Refines}
use Rattle.hcl_design.specs.Designs.{IsDesign}
use Rattle.cli_plans.specs.PlanFollowing.{SinkState}
use Rattle.cli_plans.specs.Known.{Known}
use Rattle.cli_plans.specs.Plan.{Answer}
use Rattle.cli_runs.specs.PipeRuns.{RunsTo, end_of, run_text}
use Rattle.hcl_types.specs.declared.table.SequentialDatapath.{SequentialDatapath}

-- A file with an accepted design: what is known of its bytes, if anything, is that they are the text; the text is read,
-- bound and ordered; the design satisfies every obligation at its settings. So on every image whose instructions fetch
-- no byte that one of the three before them stored, its pipeline agrees with the run of instructions after each number
-- of cycles.
pub record HasAccepted (v : Variant) (told : Known) : Type 0 where
  pub text : List ℕ
  pub has : HasBytes told text
  pub terms : List Term
  pub design : IsDesign pipe_rows text terms
  pub settings : Settings
  pub accepted : AcceptsPipe v terms settings
  pub refines : RefinesPipe v terms

-- The same for a sequential datapath: on every image its machine is that of the run of instructions after each number
-- of cycles.
pub record HasAcceptedSeq (which : SequentialDatapath) (v : Variant) (told : Known) : Type 0 where
  pub text : List ℕ
  pub has : HasBytes told text
  pub terms : List Term
  pub design : IsDesign (rows_of which) text terms
  pub accepted : Accepts which v terms
  pub refines : Refines which v terms

-- An accepted file, whose settings were printed: the text on standard output is the line of a `yes`.
pub record ToldAccepted (v : Variant) (told : Known) (before after : SinkState) : Type 0 where
  pub file : HasAccepted v told
  pub line : Appended before.taken after.taken (pipe_yes file.settings)

pub record ToldAcceptedSeq (which : SequentialDatapath) (v : Variant) (told : Known) (before after : SinkState) : Type 0 where
  pub file : HasAcceptedSeq which v told
  pub line : Appended before.taken after.taken (codes "yes\n")

-- A file was accepted, and a certificate of its design at its settings was written on standard output.
pub record WroteCertificate (v : Variant) (told : Known) (before after : SinkState) : Type 0 where
  pub file : HasAccepted v told
  pub text : List ℕ
  pub certificate : IsCertificate v file.terms file.settings text
  pub went : Appended before.taken after.taken text

-- A certificate of a file was accepted, and its settings were printed: the text on standard output is the line with
-- them.
pub record ToldCertified (v : Variant) (told told_cert : Known) (before after : SinkState) : Type 0 where
  pub file : HasCertified v told told_cert
  pub line : Appended before.taken after.taken (holds_line file.settings)

-- The same if a write on standard output failed: a proper prefix of the line was written.
pub record ToldCertifiedPart (v : Variant) (told told_cert : Known) (before after : SinkState) : Type 0 where
  pub file : HasCertified v told told_cert
  pub part : AppendedPrefix before.taken after.taken (holds_line file.settings)

-- The output for a pipeline that has retired r instructions agrees with the run of these: the trace has the lines of
-- their records, and the lines of the registers are those of their registers; and if the pipeline has stopped, the
-- whole report is that of their machine.
pub record PrintsTheRun (v : Variant) (image : List ℕ) (trace : Bool) (p : PipeHistory) : Type 0 where
  pub trace_lines : traced trace p.records ≡ traced trace (records v image (length p.records))
  pub lines_of_registers : register_lines p.state.regs ≡ register_lines (run v image (length p.records)).regs
  pub whole_report : ended_by_status p.end ≡ true →
      report image (end_of p) (length p.records) ≡ report image (run v image (length p.records)) (length p.records)

-- A file was accepted, and an image ran on it: after the `yes` come the trace, the counts and the report. They agree
-- with the run of instructions if none of the first instructions, as many as there were cycles, fetches a byte that one
-- of the three before it stored.
pub record CheckedRunIsRight (v : Variant) (size limit : ℕ) (trace : Bool) (hcl object : Known) (before after : SinkState) (status : ℕ) : Type 0 where
  pub file : HasAccepted v hcl
  pub bytes : List ℕ
  pub has : HasBytes object bytes
  pub image : List ℕ
  pub loads : object_of bytes size ≡ Ok image
  pub cycles : ℕ
  pub end : PipeHistory
  pub runs : RunsTo v file.terms image limit cycles end
  pub status_is : status ≡ run_status end.end
  pub told : Appended before.taken after.taken (pipe_yes file.settings ++ run_text trace image cycles end)
  pub agrees : NearPure v image cycles → PrintsTheRun v image trace end

-- A file was refused, and nothing ran: the `no` was printed.
pub record AnsweredNo (v : Variant) (hcl : Known) (before after : SinkState) (status : ℕ) : Type 0 where
  pub text : List ℕ
  pub has : HasBytes hcl text
  pub terms : List Term
  pub design : IsDesign pipe_rows text terms
  pub answer : Answer
  pub denied : AnswersNoPipe v terms answer
  pub status_is : status ≡ 1
  pub told : Appended before.taken after.taken answer.out
