-- Calls of `cycle` on a new machine are its run, by induction on their number.
use Rattle.std.proofs.Common.{◌≡◌, ℕ, zero, suc, ◌+◌, Bool, true, false, List, ◌++◌, length, Option, Some, None, refl, ◌∙◌, ap, subst, arith, length-append}
use Rattle.std.proofs.lemmas.List.{append-nil}
use Rattle.std.specs.Option.{option_to_list}
use Rattle.y86_base.specs.declared.parts.Variant.{Variant}
use Rattle.y86_isa.specs.Machine.{is_aok}
use Rattle.y86_isa.specs.declared.machine.Rec.{Rec}
use Rattle.hcl_types.specs.declared.term.Term.{Term}
use Rattle.dp_signals.specs.PipeCycle.{ending, retires}
use Rattle.dp_signals.specs.PipeEquations.{Solves}
use Rattle.dp_signals.specs.PipeRun as run
use Rattle.dp_signals.specs.declared.register_updates.CycleEnd.{CycleEnd}
use Rattle.dp_signals.specs.declared.register_updates.CycleEnd.TheVariants.{Going, Stopped, Pip}
use Rattle.pipe_path.specs.declared.pipe.Cycled.{Cycled}
use Rattle.pipe_path.specs.declared.pipe.Cycled.TheVariants as told
use Rattle.pipe_path.specs.Calls.{IsRun, record_in, CallsAreTheRun}
use Rattle.pipe_path.specs.Pipe.{PipeMachine, IsPipeCall, after_cycle, call_answer}

-- a machine and its records, as the history that the definition of a run uses
abbrev run_machine : PipeMachine → List Rec → run.PipeHistory
run_machine p records = record { state = p.state; records = records; end = p.end }

pub record_told : (e : CycleEnd) (r : Option Rec) → record_in (call_answer e r) ≡ r
record_told Going None = refl
record_told Going (Some r) = refl
record_told Stopped r = refl
record_told Pip r = refl

-- what one call adds to a run
module _ (v : Variant) (terms : List Term) (image : List ℕ) (k : ℕ) (m : PipeMachine) (before : List Rec) (so_far : IsRun v terms image k m before) where
  ended_more : (q : PipeMachine) (r : Cycled) (records : List Rec) → is_aok m.end ≡ false → r ≡ told.Ended → q ≡ m →
      records ≡ before ++ option_to_list (record_in r) → IsRun v terms image (suc k) q records
  ended_more q r records over told_ended same e =
      let no_more : records ≡ before = e ∙ ap (λ x. before ++ option_to_list (record_in x)) told_ended ∙ append-nil before in
      record {
        variant_kept = ap (λ (p : PipeMachine). p.variant) same ∙ so_far.variant_kept;
        design_kept = ap (λ (p : PipeMachine). p.terms) same ∙ so_far.design_kept;
        run = (
          run_machine m before,
          so_far.run,
          record { ended = λ _. rw (same, no_more) refl; goes = λ going. absurd (grind (arith, over, going)) },
        );
        retired = rw (same, no_more) so_far.retired;
      }

  goes_more : (q : PipeMachine) (r : Cycled) (records : List Rec) → is_aok m.end ≡ true → (f : ℕ → ℕ) → Solves m.variant m.terms m.state f →
      q ≡ after_cycle m f → r ≡ call_answer (ending f) (retires m.state f) →
      records ≡ before ++ option_to_list (record_in r) → IsRun v terms image (suc k) q records
  goes_more q r records going f solves after told e =
      let more : records ≡ before ++ option_to_list (retires m.state f) =
      e ∙ ap (λ x. before ++ option_to_list x) (ap record_in told ∙ record_told (ending f) (retires m.state f)) in
      let solves' : Solves v terms m.state f = subst (λ x. Solves x terms m.state f) so_far.variant_kept (subst (λ x. Solves m.variant x m.state f) so_far.design_kept solves) in
      record {
        variant_kept = ap (λ (p : PipeMachine). p.variant) after ∙ so_far.variant_kept;
        design_kept = ap (λ (p : PipeMachine). p.terms) after ∙ so_far.design_kept;
        run = (
          run_machine m before,
          so_far.run,
          record { ended = λ over. absurd (grind (arith, over, going)); goes = λ _. (f, solves', rw (after, more) refl) },
        );
        retired = rw (after, more, length-append) (ap (λ n. n + length (option_to_list (retires m.state f))) so_far.retired);
      }

  one_more : (q : PipeMachine) (r : Cycled) (records : List Rec) → IsPipeCall m r q → records ≡ before ++ option_to_list (record_in r) →
      IsRun v terms image (suc k) q records
  one_more q r records c e = by (is_aok m.end) refl
    where
      by : (b : Bool) → is_aok m.end ≡ b → IsRun v terms image (suc k) q records
      by true going = let done = c.goes going in goes_more q r records going done.0 done.1 done.2 done.3 e
      by false over = let done = c.ended over in ended_more q r records over done.0 done.1 e

pub calls_are_the_run : CallsAreTheRun
calls_are_the_run v terms order image zero q records h =
    record {
      variant_kept = ap (λ (p : PipeMachine). p.variant) h.0;
      design_kept = ap (λ (p : PipeMachine). p.terms) h.0;
      run = rw (h.0, h.1) refl;
      retired = rw (h.0, h.1) refl;
    }
calls_are_the_run v terms order image (suc k) q records h =
    one_more v terms image k h.0 h.1 (calls_are_the_run v terms order image k h.0 h.1 h.3) q h.2 records h.4 h.5
