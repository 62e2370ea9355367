-- A drive is a run of the definition, and a run keeps the size of the memory.
use Rattle.std.proofs.Common.{◌≡◌, ℕ, zero, suc, true, List, ◌++◌, length, refl, sym, ap, subst, ◌∙◌, arith}
use Rattle.std.specs.Option.{option_to_list}
use Rattle.y86_base.specs.declared.parts.Variant.{Variant}
use Rattle.y86_isa.proofs.Memories.{length-stored}
use Rattle.y86_isa.specs.Machine.{is_aok}
use Rattle.y86_isa.specs.declared.machine.Machine.{Machine}
use Rattle.y86_isa.specs.declared.machine.Rec.{Rec}
use Rattle.hcl_types.specs.declared.term.Term.{Term}
use Rattle.dp_signals.specs.PipeCycle.{ending, next, retires, store_of}
use Rattle.dp_signals.specs.PipeEquations.{Solves}
use Rattle.dp_signals.specs.PipeRun as run
use Rattle.dp_signals.specs.declared.pipe_state.PipeState.{PipeState}
use Rattle.pipe_path.proofs.Runs.{record_told}
use Rattle.pipe_path.specs.Calls.{record_in}
use Rattle.pipe_path.specs.Pipe as pipe
use Rattle.pipe_path.specs.declared.pipe.Cycled.{Cycled}
use Rattle.retire_trace.specs.Drive as drive
use Rattle.retire_trace.specs.declared.driving.Drove.{Drove}
use Rattle.prog_cosim.specs.RunsTo.{RunsFor, RunsTo}

-- ---- a drive is a run

-- the machine of the definition that a machine and its records represent
abbrev pub machine : pipe.PipeMachine → List Rec → run.PipeHistory
machine p records = record { state = p.state; records = records; end = p.end }

pub record Driven (v : Variant) (terms : List Term) (image : List ℕ) (k : ℕ) (q : pipe.PipeMachine) (records : List Rec) : Type 0 where
  pub variant_kept : q.variant ≡ v
  pub design_kept : q.terms ≡ terms
  pub goes : RunsFor v terms image k (machine q records)

driven_more : (v : Variant) (terms : List Term) (image : List ℕ) (k : ℕ) (m : pipe.PipeMachine) (before : List Rec) → Driven v terms image k m before →
    is_aok m.end ≡ true → (q : pipe.PipeMachine) (r : Cycled) (records : List Rec) (f : ℕ → ℕ) → Solves m.variant m.terms m.state f → q ≡ pipe.after_cycle m f →
    r ≡ pipe.call_answer (ending f) (retires m.state f) → records ≡ before ++ option_to_list (record_in r) → Driven v terms image (suc k) q records
driven_more v terms image k m before so_far going q r records f solved after told more =
    let solves : Solves v terms m.state f =
    subst (λ x. Solves x terms m.state f) so_far.variant_kept (subst (λ x. Solves m.variant x m.state f) so_far.design_kept solved) in
    let retired : records ≡ before ++ option_to_list (retires m.state f) =
    more ∙ ap (λ x. before ++ option_to_list x) (ap record_in told ∙ record_told (ending f) (retires m.state f)) in
    record {
      variant_kept = ap (λ (p : pipe.PipeMachine). p.variant) after ∙ so_far.variant_kept;
      design_kept = ap (λ (p : pipe.PipeMachine). p.terms) after ∙ so_far.design_kept;
      goes = (
        machine m before,
        so_far.goes,
        going,
        record { ended = λ over. absurd (grind (arith, over, going)); goes = λ _. (f, solves, rw (after, retired) refl) },
      );
    }

pub driven : (v : Variant) (terms : List Term) (order image : List ℕ) (k : ℕ) (q : pipe.PipeMachine) (records : List Rec) →
    drive.CallsFor (pipe.started v terms order image) k q records → Driven v terms image k q records
driven v terms order image zero q records h =
    record {
      variant_kept = ap (λ (p : pipe.PipeMachine). p.variant) h.0;
      design_kept = ap (λ (p : pipe.PipeMachine). p.terms) h.0;
      goes = rw (h.0, h.1) refl;
    }
driven v terms order image (suc k) q records h =
    let step = h.5.goes h.4 in
    driven_more v terms image k h.0 h.1 (driven v terms order image k h.0 h.1 h.3) h.4 q h.2 records step.0 step.1 step.2 step.3 h.6

-- ---- a run keeps the size of the memory

next_keeps : (p : PipeState) (f : ℕ → ℕ) → length (next p f).mem ≡ length p.mem
unfolding next
next_keeps p f = length-stored p.mem (store_of p f)

keeps_size : (v : Variant) (terms : List Term) (image : List ℕ) (k : ℕ) (p : run.PipeHistory) → RunsFor v terms image k p → length p.state.mem ≡ length image
keeps_size v terms image zero p h = ap (λ (x : run.PipeHistory). length x.state.mem) h
keeps_size v terms image (suc k) p h =
    let step = h.3.goes h.2 in
    ap (λ (x : run.PipeHistory). length x.state.mem) step.2 ∙ (next_keeps h.0.state step.0 ∙ keeps_size v terms image k h.0 h.1)

-- ---- the run that a drive is

pub pipe_one_size : (v : Variant) (terms : List Term) (order image : List ℕ) (limit : ℕ) (m q : pipe.PipeMachine) (d : Drove) (records : List Rec) (first : List ℕ)
    (last : Machine) → first ≡ image → m ≡ pipe.started v terms order image → drive.IsDrive m limit q d records → last ≡ pipe.end_of q →
    length first ≡ length last.mem
pipe_one_size v terms order image limit m q d records first last copied begun drives ended =
    ap length copied
    ∙ (sym (keeps_size v terms image d.cycles (machine q records) (driven v terms order image d.cycles q records (subst (λ x. drive.CallsFor x d.cycles q records) begun drives.goes)).goes)
    ∙ ap (λ (x : Machine). length x.mem) (sym ended))

pub runs : (v : Variant) (terms : List Term) (order image : List ℕ) (limit : ℕ) (m q : pipe.PipeMachine) (d : Drove) (records : List Rec) →
    m ≡ pipe.started v terms order image → drive.IsDrive m limit q d records → RunsTo v terms image limit d.cycles (machine q records)
runs v terms order image limit m q d records begun drives =
    record {
      within = drives.within;
      goes = (driven v terms order image d.cycles q records (subst (λ x. drive.CallsFor x d.cycles q records) begun drives.goes)).goes;
      whole = drives.whole;
    }
