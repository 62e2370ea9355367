-- The observed machine is the machine of the run, by induction on the number of cycles.
use Rattle.std.proofs.Common.{◌≡◌, ℕ, zero, suc, ◌+◌, ◌<◌, true, false, List, [], ◌∷◌, ◌++◌, length, Some, Result, Ok, Err, IfOk, refl, sym, ◌∙◌, ap, subst, arith, add-one, length-append}
use Rattle.std.proofs.lemmas.Bool.{false≢true}
use Rattle.y86_base.specs.declared.parts.Stat.{Stat}
use Rattle.y86_base.specs.declared.parts.Variant.{Variant}
use Rattle.y86_isa.specs.Machine.{is_aok}
use Rattle.y86_isa.specs.declared.machine.Rec.{Rec}
use Rattle.hcl_types.specs.declared.term.Term.{Term}
use Rattle.dp_sequential.specs.Path.{IsCycle, RunFrom, SequentialPath}
use Rattle.pipe_stage_text.specs.declared.observer.CycleRange.{CycleRange}
use Rattle.seq_text.specs.Laws.{WatchesTheRun}
use Rattle.pipe_stage_text.specs.Cycle.{end_line}
use Rattle.seq_text.specs.Observer.{CycleText, Observes, ObservesTo, Shows, ShowsRun, shown}

-- another cycle of an observed machine
pub watches_more : {S : Type 0} (Shows : S → List ℕ → S → Type 0) (stat : S → Stat) (window : CycleRange) (first : S) (k : ℕ) (u s : S) (before text lines : List ℕ) →
    Observes Shows stat window first k u before → is_aok (stat u) ≡ true → Shows u lines s → text ≡ before ++ shown window (k + 1) lines →
    Observes Shows stat window first (k + 1) s text
watches_more Shows stat window first k u s before text lines watches going shows e =
    subst (λ n. Observes Shows stat window first n s text) (sym (add-one k))
    (u, before, lines, watches, going, shows, e ∙ ap (λ n. before ++ shown window n lines) (add-one k))

-- the output of a run, if no error occurred
pub shows_run : {S W E : Type 0} (Shows : S → List ℕ → S → Type 0) (stat : S → Stat) (window : CycleRange) (first : S) (limit k : ℕ) (s : S) (lines : List ℕ)
    (text : W → List ℕ) (end : W → Stat) (result : Result W E) → IfOk result (λ w. text w ≡ lines ++ end_line (stat s) k k) → IfOk result (λ w. end w ≡ stat s) →
    ObservesTo Shows stat window first limit k s lines → IfOk result (λ w. ShowsRun Shows stat window first limit (text w) (end w))
shows_run Shows stat window first limit k s lines text end (Ok w) h h' to = (k, s, lines, to, h, h')
shows_run Shows stat window first limit k s lines text end (Err e) h h' to = tt

-- at the end of the loop, and where it is left early
pub at_limit : {S : Type 0} (Shows : S → List ℕ → S → Type 0) (stat : S → Stat) (window : CycleRange) (first : S) (limit k : ℕ) (s : S) (lines : List ℕ) →
    k ≡ limit → Observes Shows stat window first k s lines → ObservesTo Shows stat window first limit limit s lines
at_limit Shows stat window first limit k s lines e h =
    record { within = omega arith; watches = subst (λ n. Observes Shows stat window first n s lines) e h; whole = λ lt. absurd (omega arith) }

pub before_limit : {S : Type 0} (Shows : S → List ℕ → S → Type 0) (stat : S → Stat) (window : CycleRange) (first : S) (limit k : ℕ) (s : S) (lines : List ℕ) →
    k < limit → Observes Shows stat window first k s lines → is_aok (stat s) ≡ false → ObservesTo Shows stat window first limit k s lines
before_limit Shows stat window first limit k s lines lt h over = record { within = omega arith; watches = h; whole = λ _. over }

longer : (records : List Rec) (r : Rec) (k : ℕ) → length records ≡ k → length (records ++ (r ∷ [])) ≡ suc k
longer records r k e = length-append records (r ∷ []) ∙ ap (λ n. n + 1) e ∙ add-one k

-- each cycle that is shown is one of the machine, and leaves a record
module _ {S : Type 0} (path : SequentialPath S) (cycle_text : CycleText S) (v : Variant) (terms : List Term) where
  one : (s : S) (lines : List ℕ) (t : S) → is_aok (path.stat s) ≡ true → Shows path cycle_text v terms s lines t → (r : Rec) × IsCycle path v terms s (Some r) t
  one s lines t going h = (path.told s h.0, record { ended = λ over. absurd (false≢true (sym over ∙ going)); goes = λ _. (h.0, h.1, h.3, refl) })

  the_run : (window : CycleRange) (first : S) (k : ℕ) (s : S) (text : List ℕ) → Observes (Shows path cycle_text v terms) path.stat window first k s text →
      (records : List Rec) × RunFrom path v terms first k s records × (length records ≡ k)
  the_run window first zero s text h = ([], (h.0, refl), refl)
  the_run window first (suc k) s text h =
      let before = the_run window first k h.0 h.1 h.3 in
      let cycle = one h.0 h.2 s h.4 h.5 in
      (before.0 ++ (cycle.0 ∷ []), (h.0, before.0, Some cycle.0, before.1, cycle.1, refl), longer before.0 cycle.0 k before.2)

pub watches_the_run : {S : Type 0} (path : SequentialPath S) (cycle_text : CycleText S) → WatchesTheRun path cycle_text
watches_the_run path cycle_text v terms window image k s text h = the_run path cycle_text v terms window (path.start image) k s text h
