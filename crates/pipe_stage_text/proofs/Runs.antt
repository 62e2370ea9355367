-- The observed machine is the machine of the run, by induction on the number of cycles.
use Rattle.std.proofs.Common.{◌≡◌, ℕ, zero, suc, ◌+◌, Bool, true, false, List, ◌++◌, length, Option, Some, None, refl, sym, ◌∙◌, ap, subst, length-append, arith, add-one}
use Rattle.std.specs.Option.{option_to_list}
use Rattle.std.proofs.Math.Path.{fun_ext}
use Rattle.y86_base.specs.Stat.{stat_of}
use Rattle.y86_base.specs.declared.parts.Variant.{Variant}
use Rattle.y86_isa.specs.Machine.{is_aok}
use Rattle.y86_isa.specs.declared.machine.Rec.{Rec}
use Rattle.hcl_types.specs.declared.term.Term.{Term}
use Rattle.dp_signals.specs.PipeCycle.{requested_updates, ending, next, retires}
use Rattle.dp_signals.specs.PipeEquations.{Solves}
use Rattle.dp_signals.specs.PipeNames as row
use Rattle.dp_signals.specs.PipeRun.{PipeHistory, PipeRun, after_cycle, end_by, start_pipe}
use Rattle.dp_signals.specs.PipeTable.{pipe_rows}
use Rattle.pipe_stage_text.specs.Sources.{SourceNames, sources}
use Rattle.pipe_stage_text.specs.StageContents.{fetched, moved_watch}
use Rattle.pipe_stage_text.specs.Observer.{IsOfRun, Observes, ObserverFollowsRun, Observer, after, cycles_shown, lines_shown, whole_text}
use Rattle.pipe_stage_text.specs.declared.observer.CycleRange.{CycleRange}

module _ (v : Variant) (terms : List Term) (window : CycleRange) (image : List ℕ) (k : ℕ) (u s : Observer) (f : ℕ → ℕ) (p : PipeHistory) where
  state_after : IsOfRun u p → s ≡ after (sources pipe_rows terms) window (suc k) u f → s.state ≡ next p.state f
  unfolding after
  state_after so_far e = ap (λ (x : Observer). x.state) e ∙ ap (λ x. next x f) so_far.state

  end_after : s ≡ after (sources pipe_rows terms) window (suc k) u f → s.end ≡ end_by (ending f) (stat_of (f row.Stat))
  unfolding after
  end_after e = ap (λ (x : Observer). x.end) e

  retired_after : IsOfRun u p → s ≡ after (sources pipe_rows terms) window (suc k) u f → s.retired ≡ length (p.records ++ option_to_list (retires p.state f))
  unfolding after
  retired_after so_far e =
      ap (λ (x : Observer). x.retired) e
      ∙ ap (λ x. u.retired + length (option_to_list (retires x f))) so_far.state
      ∙ ap (λ n. n + length (option_to_list (retires p.state f))) so_far.retired
      ∙ sym (length-append p.records (option_to_list (retires p.state f)))

  one_more : PipeRun v terms image k p → IsOfRun u p → is_aok u.end ≡ true → Solves v terms u.state f → s ≡ after (sources pipe_rows terms) window (suc k) u f →
      (q : PipeHistory) × PipeRun v terms image (suc k) q × IsOfRun s q
  one_more run so_far going solves e =
      let going' : is_aok p.end ≡ true = ap is_aok (sym so_far.end) ∙ going in
      let solves' : Solves v terms p.state f = subst (λ x. Solves v terms x f) so_far.state solves in (
        after_cycle p f,
        (p, run, record { ended = λ over. absurd (grind (arith, over, going')); goes = λ _. (f, solves', refl) }),
        record { state = state_after so_far e; end = end_after e; retired = retired_after so_far e },
      )

-- the observed machine after a cycle, by its parts
pub seen_after : (tells : (ℕ → ℕ) → SourceNames) (window : CycleRange) (number : ℕ) (s t : Observer) (f : ℕ → ℕ) → t.state ≡ next s.state f →
    t.watch ≡ moved_watch s.watch (fetched s.watch s.state f) (requested_updates f) → t.retired ≡ s.retired + length (option_to_list (retires s.state f)) →
    t.end ≡ end_by (ending f) (stat_of (f row.Stat)) → t.text ≡ s.text ++ lines_shown tells window number s.watch (fetched s.watch s.state f) s.state f →
    t.cycles ≡ s.cycles ++ cycles_shown window number s.watch (fetched s.watch s.state f) f → t ≡ after tells window number s f
unfolding after
seen_after tells window number s t f state watch retired end text cycles = λ i. record {
  state = state i;
  watch = watch i;
  retired = retired i;
  end = end i;
  text = text i;
  cycles = cycles i;
}

-- another cycle of an observed machine
pub watches_more : (v : Variant) (terms : List Term) (window : CycleRange) (image : List ℕ) (k : ℕ) (u s : Observer) (f : ℕ → ℕ) →
    Observes v terms window image k u → is_aok u.end ≡ true → Solves v terms u.state f → s ≡ after (sources pipe_rows terms) window (k + 1) u f →
    Observes v terms window image (k + 1) s
watches_more v terms window image k u s f watches going solves e =
    subst (λ n. Observes v terms window image n s) (sym (add-one k)) (u, f, watches, going, solves, e ∙ ap (λ n. after (sources pipe_rows terms) window n u f) (add-one k))

pub watches_the_run : ObserverFollowsRun
watches_the_run v terms window image zero s h =
    (start_pipe image, refl, record { state = ap (λ (x : Observer). x.state) h; end = ap (λ (x : Observer). x.end) h; retired = ap (λ (x : Observer). x.retired) h })
watches_the_run v terms window image (suc k) s h =
    let before = watches_the_run v terms window image k h.0 h.2 in
    one_more v terms window image k h.0 s h.1 before.0 before.1 before.2 h.3 h.4 h.5

-- what is shown depends only on the texts at the addresses, and on none if no diagram is asked for
pub same_whole : (listing other : ℕ → Option (List ℕ)) (asked : Bool) → (asked ≡ true → (address : ℕ) → listing address ≡ other address) → (k : ℕ) (s : Observer) →
    whole_text listing asked k s ≡ whole_text other asked k s
unfolding whole_text
same_whole listing other true same k s = ap (λ texts. whole_text texts true k s) (fun_ext (same refl))
same_whole listing other false same k s = refl
