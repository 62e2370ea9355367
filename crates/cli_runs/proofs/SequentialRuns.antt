-- What a run on a sequential datapath answers, from what the code did.
use Rattle.std.proofs.Common.{◌≡◌, ℕ, ◌≤◌, List, length, refl, sym, ap, subst, ◌∙◌}
use Rattle.wb_io.specs.Causes.{counted}
use Rattle.wb_io.specs.Sinks.{Appended, AppendedPrefix}
use Rattle.y86_base.specs.declared.parts.Variant.{Variant}
use Rattle.y86_isa.specs.declared.machine.Machine.{Machine}
use Rattle.y86_isa.specs.declared.machine.Rec.{Rec}
use Rattle.hcl_types.specs.declared.term.Term.{Term}
use Rattle.dp_sequential.specs.Seq.{SeqRun}
use Rattle.seq_path.specs.Seq as seq
use Rattle.seq_path.specs.Seq.{SeqCalls, SeqMachine}
use Rattle.seq_plus.specs.Plus as plus
use Rattle.seq_plus.specs.Plus.{PlusCalls, PlusMachine}
use Rattle.seq_plus.specs.PlusRun.{PlusEndIs}
use Rattle.seq_plus.proofs.OneRun.{calls_are_the_run, plus_size}
use Rattle.yis_run.specs.Report.{report}
use Rattle.cli_runs.specs.Answers.{SeqAnswers}
use Rattle.cli_plans.specs.Stages.{run_status}
use Rattle.cli_plans.specs.Datapaths.{IsMachineRun}
use Rattle.cli_plans.specs.PlanFollowing.{SinkState, WrotePart, WroteWhole}
use Rattle.cli_plans.specs.Plan.{done}
use Rattle.hcl_types.specs.declared.table.SequentialDatapath.{SequentialDatapath}
use Rattle.hcl_types.specs.declared.table.SequentialDatapath.TheVariants as datapath
use Rattle.cli_runs.proofs.Runs.{seq_ran, seq_size}

-- the code has a copy of the image, and the end and the number of records of a run on it
pub record HasRun (which : SequentialDatapath) (v : Variant) (terms : List Term) (image : List ℕ) (k : ℕ) (first : List ℕ) (last : Machine) (steps : ℕ) : Type 0 where
  pub copied : first ≡ image
  pub records : List Rec
  pub ran : IsMachineRun which v terms image k last records
  pub size : length last.mem ≡ length image
  pub number : length records ≡ steps

-- calls on a new machine, and its end, are a run
pub seq_run : (v : Variant) (terms : List Term) (order image : List ℕ) (k : ℕ) (m q : SeqMachine) (records : List Rec) (first : List ℕ) (last : Machine) (steps : ℕ) →
    first ≡ image → m ≡ seq.started v terms order image → SeqCalls m k q records → length records ≡ steps → last ≡ q.state → HasRun datapath.Seq v terms image k first last steps
seq_run v terms order image k m q records first last steps copied begun calls number ended =
    let own : SeqCalls (seq.started v terms order image) k q records = subst (λ (x : SeqMachine). SeqCalls x k q records) begun calls in
    record {
      copied = copied;
      records = records;
      ran = subst (λ (x : Machine). SeqRun v terms image k x records) (sym ended) (seq_ran v terms order image k q records own);
      size = ap (λ (x : Machine). length x.mem) ended ∙ seq_size v terms order image k q records own;
      number = number;
    }

pub plus_run : (v : Variant) (terms : List Term) (order image : List ℕ) (k : ℕ) (m p q : PlusMachine) (records : List Rec) (first : List ℕ) (last : Machine) (steps : ℕ) →
    first ≡ image → m ≡ plus.started v terms order image → PlusCalls m k q records → length records ≡ steps → p ≡ q → PlusEndIs p.variant p.terms p.state last →
    HasRun datapath.SeqPlus v terms image k first last steps
plus_run v terms order image k m p q records first last steps copied begun calls number same ended =
    let own : PlusCalls (plus.started v terms order image) k q records = subst (λ (x : PlusMachine). PlusCalls x k q records) begun calls in
    let is = calls_are_the_run v terms order image k q records own in
    let ends : PlusEndIs q.variant q.terms q.state last = subst (λ (x : PlusMachine). PlusEndIs x.variant x.terms x.state last) same ended in
    let memory : last.mem ≡ q.state.mem = ap (λ (x : Machine). x.mem) ends.2 in
    record {
      copied = copied;
      records = records;
      ran = (q.state, is.run, subst (λ x. PlusEndIs x terms q.state last) is.same_variant (subst (λ x. PlusEndIs q.variant x q.state last) is.same_terms ends));
      size = ap length memory ∙ plus_size v terms order image k q records own;
      number = number;
    }

module _ (which : SequentialDatapath) (v : Variant) (terms : List Term) (image : List ℕ) (k : ℕ) (first : List ℕ) (last : Machine) (steps : ℕ)
    (it : HasRun which v terms image k first last steps) where
  pub one_size : length first ≡ length last.mem
  one_size = ap length it.copied ∙ sym it.size

  texts_same : report first last steps ≡ report image last (length it.records)
  texts_same = ap (λ x. report x last steps) it.copied ∙ ap (report image last) (sym it.number)

  pub whole : (status : ℕ) (before after : SinkState) → status ≡ run_status last.stat → status ≤ 1 → Appended before.taken after.taken (report first last steps) →
      after.faults ≡ before.faults → WroteWhole (SeqAnswers which v terms k image) before after status
  whole status before after is low went no_fault = record {
    answer = done (run_status last.stat) (report image last (length it.records));
    allowed = (last, it.records, it.ran, refl);
    status_is = is;
    low = low;
    quiet = refl;
    went = subst (λ text. Appended before.taken after.taken text) texts_same went;
    no_fault = no_fault;
  }

  pub part : (before after : SinkState) → AppendedPrefix before.taken after.taken (report first last steps) → after.faults ≡ counted before.faults →
      WrotePart (SeqAnswers which v terms k image) before after
  part before after went one_fault = record {
    answer = done (run_status last.stat) (report image last (length it.records));
    allowed = (last, it.records, it.ran, refl);
    went = subst (λ text. AppendedPrefix before.taken after.taken text) texts_same went;
    one_fault = one_fault;
  }
