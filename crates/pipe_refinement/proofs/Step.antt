-- One cycle that doesn't stop keeps the invariant.
use Rattle.std.proofs.Common.{◌≡◌, ◌≢◌, ℕ, ◌+◌, ◌<◌, ◌≤◌, inl, inr, Bool, true, false, not, ◌&&◌, ◌||◌, ◌==◌, cond, List, ◌++◌, refl, sym, ap, ◌∙◌, subst, arith}
use Rattle.std.specs.Option.{option_to_list}
use Rattle.std.proofs.lemmas.Bool.{false≢true, and_parts, cases_lt, eqb-true, eq-eqb, ne_eqb, cases_eq, not-false}
use Rattle.y86_isa.specs.Blocks.{fetched}
use Rattle.y86_isa.specs.RowTests.{stores_val_a}
use Rattle.y86_isa.specs.Run.{IsImage}
use Rattle.yis_pure_runs.specs.Near.{NearPure}
use Rattle.y86_isa.specs.Table.{row}
use Rattle.y86_isa.specs.declared.machine.Rec.{Rec}
use Rattle.yis_run_laws.specs.Instructions.{RunReaches, state_before, work_at, stops_at}
use Rattle.yis_run_laws.proofs.Statuses.{one_is}
use Rattle.yis_run_laws.proofs.Walk.{image_before, live_next}
use Rattle.dp_signals.specs.PipeCycle.{ending, loaded_d, loaded_e, loaded_m, loaded_w, next, retires}
use Rattle.dp_signals.specs.PipeNames as name
use Rattle.dp_signals.specs.PipeRows.{PipeHardware, PipeHolds}
use Rattle.dp_signals.specs.PipeState.{bubble_d, bubble_e, bubble_m, bubble_w}
use Rattle.dp_signals.specs.declared.register_updates.CycleEnd.TheVariants.{Going}
use Rattle.dp_signals.specs.declared.pipe_state.PipeState.{PipeState}
use Rattle.dp_signals.specs.declared.pipe_state.StageD.{StageD}
use Rattle.dp_signals.specs.declared.pipe_state.StageE.{StageE}
use Rattle.dp_signals.specs.declared.pipe_state.StageM.{StageM}
use Rattle.dp_signals.specs.declared.pipe_state.StageW.{StageW}
use Rattle.pipe_refinement.specs.Facts.{AlwaysFacts, CycleFacts, store_word_comes_late}
use Rattle.pipe_refinement.specs.Invariant.{AllowedD, AllowedE, IsBubbleD, IsBubbleE, IsBubbleM, IsBubbleW, RunContext, HoldsInD, HoldsInE, HoldsInM, HoldsInW, CouplingInvariant, no_load_awaited, run_stage_flow, run_flow}
use Rattle.pipe_refinement.specs.Kinds.{Schedule, Bubbled, Good, StageKind, Wrong, requested_controls, count, fetched_kind, in_d, in_e, in_f, in_m, in_w, is_good, kind_is_live, is_wrong, next_schedule, moved_by}
use Rattle.pipe_motion.specs.Flow.{RegisterControls, StageFlow, Flow, follows_prediction, loads, path}
use Rattle.pipe_refinement.proofs.After.{counted_are, flags_next_are, mem_is, records_are, regs_are}
use Rattle.pipe_refinement.proofs.Empties.{allowed_loaded, allowed_moved, empty_d_bubble, empty_e_bubble, empty_e_loaded, empty_m_bubble, empty_m_loaded, empty_w_bubble, empty_w_loaded}
use Rattle.pipe_refinement.proofs.Fetch.{LoadsFetched, at_most_one, fetch_live, fetch_same, fetch_words, loads_fetched}
use Rattle.pipe_refinement.proofs.Motions.{Motion, motion_of}
use Rattle.pipe_refinement.proofs.Moves.{going, good_e, good_m, good_w, keeps_good, leaves_by, left_good, load_in_d, load_is, loads_e, loads_m, loads_w, moved_all, next_d, next_e, next_f, next_in_e, next_in_f, next_in_m, next_m, next_w, stay_in_d, stay_is}
use Rattle.pipe_refinement.proofs.Predicted.{predicted_is}
use Rattle.pipe_refinement.proofs.Right.{none, one}
use Rattle.pipe_refinement.proofs.Values.{m_valM_is}
use Rattle.pipe_refinement.proofs.Words.{words_e, words_m, words_w}

good_not_empty : (k : StageKind) → is_good k || is_wrong k ≡ true → k ≡ Bubbled → ⊥
good_not_empty k h e = absurd (false≢true (sym (ap (λ z. is_good z || is_wrong z) e) ∙ h))

some_live : (k : StageKind) → is_good k || is_wrong k ≡ true → true ≡ kind_is_live k
some_live Bubbled h = cc
some_live Wrong h = refl
some_live Good h = refl

empty_not_good : (k : StageKind) → k ≡ Bubbled → is_good k ≡ false
empty_not_good k e = ap is_good e

empty_not_wrong : (k : StageKind) → k ≡ Bubbled → is_wrong k ≡ false
empty_not_wrong k e = ap is_wrong e

l6_from : (ge gm free : Bool) (dm sa sb : ℕ) → (ge ≡ true → gm ≡ true → dm ≢ 15 → dm ≢ sb) → (ge ≡ true → gm ≡ true → dm ≢ 15 → dm ≡ sa → free ≡ true) →
    not (ge && (gm && not (dm == 15))) || (not (dm == sb) && (not (dm == sa) || free)) ≡ true
l6_from false gm free dm sa sb h k = refl
l6_from true false free dm sa sb h k = refl
l6_from true true free dm sa sb h k =
    elim (cases_eq dm 15) [
      | inl e ↦ rw (eq-eqb dm 15 e) refl
      | inr ne ↦ rw (ne_eqb dm 15 ne, ne_eqb dm sb (h refl refl ne)) (elim (cases_eq dm sa) [ inl e ↦ rw (k refl refl ne e, eq-eqb dm sa e) refl | inr q ↦ rw (ne_eqb dm sa q) refl ])
    ]

free_from : (lf s g : Bool) (dm sa : ℕ) → lf && (s && (g && (dm == sa))) ≡ false → lf && s ≡ true → g ≡ true → dm ≡ sa → ⊥
free_from true true true dm sa h k e q = absurd (false≢true (sym h ∙ eq-eqb dm sa q))
free_from true true false dm sa h k e q = cc
free_from true false g dm sa h k e q = cc
free_from false s g dm sa h k e q = cc

fine_parts : (s r m : Bool) → not (s || (r || m)) ≡ true → (s ≡ false) × (r ≡ false) × (m ≡ false)
fine_parts false false false h = (refl, refl, refl)
fine_parts true r m h = cc
fine_parts false true m h = cc
fine_parts false false true h = cc

good_is : (k : StageKind) → is_good k ≡ true → k ≡ Good
good_is Bubbled h = cc
good_is Wrong h = cc
good_is Good h = refl

path_d : (v : Flow) → v.d.good ≡ true → path v ≡ true → follows_prediction v.d ≡ true
unfolding path
path_d v g h = sym (rw g refl) ∙ h

module _ (x : RunContext) (n t : ℕ) (c : Schedule) (p : PipeState) (f : ℕ → ℕ) (rs : List Rec) (fetch_good : Bool)
    (image : IsImage x.image) (pure : NearPure x.v x.image n) (lt : t < n)
    (i : CouplingInvariant x t c p rs) (st : PipeHolds p f) (b : PipeHardware x.v p f)
    (a : AlwaysFacts x.v p f c) (q : CycleFacts x.v x.s p f c (run_flow x c) fetch_good (run_stage_flow x Good (in_f c)))
    (run_on : is_good c.w ≡ true → stops_at x.v x.image (in_w c) ≡ false) where
  abbrev k : RegisterControls
  k = requested_controls f

  abbrev g : StageKind
  g = fetched_kind fetch_good

  abbrev c' : Schedule
  c' = next_schedule k g c

  abbrev p' : PipeState
  p' = next p f

  mo : Motion x p f c fetch_good
  mo = motion_of x p f c fetch_good i.right_m i.right_w q.motion

  kept : keeps_good k c ≡ true
  kept = mo.kept

  stat_one : f name.Stat ≡ 1
  stat_one = a.stat ∙ by (is_good c.w) refl
    where
      by : (z : Bool) → is_good c.w ≡ z → cond z p.w.stat 1 ≡ 1
      by true w = (i.good_w w).stat ∙ eqb-true _ _ (one_is x.v x.image (in_w c) ∙ not-false _ (run_on w))
      by false w = refl

  pub is_going : ending f ≡ Going
  is_going = going f stat_one mo.apart

  d_is : p'.d ≡ moved_by k.d p.d bubble_d (loaded_d p f)
  d_is = next_d p f is_going

  e_is : p'.e ≡ moved_by k.e p.e bubble_e (loaded_e p f)
  e_is = next_e p f is_going

  m_is : p'.m ≡ moved_by k.m p.m bubble_m (loaded_m p f)
  m_is = next_m p f is_going

  w_is : p'.w ≡ moved_by k.w p.w bubble_w (loaded_w p f)
  w_is = next_w p f is_going

  valm : is_good c.m ≡ true → f name.m_valM ≡ (work_at x.v x.image (in_m c)).val_m
  valm m = m_valM_is x t c p f rs image i b a.access q.memory.address m

  live_fetch : is_good g ≡ true → RunReaches x.v x.image (in_f c)
  live_fetch h = fetch_live x n t c p f rs image pure lt i st b valm q.fetch (mo.fetch h)

  words_d : is_good g ≡ true → HoldsInD x (in_f c) (loaded_d p f)
  words_d h = fetch_words x n t c p f rs image pure lt i st b valm q.fetch (mo.fetch h)

  image_now : IsImage p.mem
  image_now = rw i.mem (image_before x.v x.image (in_m c) image)

  -- ---- a register is live where it holds an instruction
  live_d' : p'.d.live ≡ kind_is_live c'.d
  live_d' = rw d_is (moved_all (λ (s : StageD) z. s.live ≡ kind_is_live z) k.d p.d bubble_d (loaded_d p f) c.d Bubbled g (λ _. i.live_d) refl (λ _. some_live g mo.some))

  live_e' : p'.e.live ≡ kind_is_live c'.e
  live_e' = rw e_is (moved_all (λ (s : StageE) z. s.live ≡ kind_is_live z) k.e p.e bubble_e (loaded_e p f) c.e Bubbled c.d (λ _. i.live_e) refl (λ _. i.live_d))

  live_m' : p'.m.live ≡ kind_is_live c'.m
  live_m' = rw m_is (moved_all (λ (s : StageM) z. s.live ≡ kind_is_live z) k.m p.m bubble_m (loaded_m p f) c.m Bubbled c.e (λ _. i.live_m) refl (λ _. i.live_e))

  live_w' : p'.w.live ≡ kind_is_live c'.w
  live_w' = rw w_is (moved_all (λ (s : StageW) z. s.live ≡ kind_is_live z) k.w p.w bubble_w (loaded_w p f) c.w Bubbled c.m (λ _. i.live_w) refl (λ _. i.live_m))

  -- ---- the run reaches the instructions in flight
  lives : (j : ℕ) → j < in_f c' → RunReaches x.v x.image j
  lives j h = by (loads k.d && is_good g) refl (rw (next_in_f k g c kept) at h)
    where
      by : (z : Bool) → (loads k.d && is_good g) ≡ z → j < in_f c + count (loads k.d && is_good g) → RunReaches x.v x.image j
      by true e h = elim (cases_lt j (in_f c)) [
        | inl l ↦ i.live j l
        | inr l ↦ let same : j ≡ in_f c = omega (arith, ap count e) in subst (RunReaches x.v x.image) (sym same) (live_fetch (and_parts _ _ e).1)
      ]
      by false e h = i.live j (omega (arith, ap count e))

  last' : RunReaches x.v x.image (in_m c)
  last' = by (is_good c.w) refl
    where
      by : (z : Bool) → is_good c.w ≡ z → RunReaches x.v x.image (in_m c)
      by true w = subst (RunReaches x.v x.image) (sym (one c.w (in_w c) w)) (live_next x.v x.image (in_w c) (i.live (in_w c) (omega (arith, ap count w))) (run_on w))
      by false w = subst (RunReaches x.v x.image) (sym (none c.w (in_w c) w)) i.last_live

  few' : in_f c' ≤ t + 1
  few' = omega (arith, next_in_f k g c kept, at_most_one (loads k.d && is_good g), i.few)

  -- ---- bubbles, and wrong instructions
  empty_d' : c'.d ≡ Bubbled → IsBubbleD p'.d
  empty_d' = rw d_is (moved_all (λ (s : StageD) z. z ≡ Bubbled → IsBubbleD s) k.d p.d bubble_d (loaded_d p f) c.d Bubbled g (λ _. i.empty_d) (λ _. empty_d_bubble) (λ _ e. absurd (good_not_empty g mo.some e)))

  empty_e' : c'.e ≡ Bubbled → IsBubbleE p'.e
  empty_e' = rw e_is (moved_all (λ (s : StageE) z. z ≡ Bubbled → IsBubbleE s) k.e p.e bubble_e (loaded_e p f) c.e Bubbled c.d (λ _. i.empty_e) (λ _. empty_e_bubble) (λ _ e. empty_e_loaded x.v x.s p f c q.decode (i.empty_d e)))

  empty_m' : c'.m ≡ Bubbled → IsBubbleM p'.m
  empty_m' = rw m_is (moved_all (λ (s : StageM) z. z ≡ Bubbled → IsBubbleM s) k.m p.m bubble_m (loaded_m p f) c.m Bubbled c.e (λ _. i.empty_m) (λ _. empty_m_bubble)
      (λ _ e. empty_m_loaded x.v x.s p f c b q.execute (empty_not_wrong c.e e) (i.empty_e e)))

  empty_w' : c'.w ≡ Bubbled → IsBubbleW p'.w
  empty_w' = rw w_is (moved_all (λ (s : StageW) z. z ≡ Bubbled → IsBubbleW s) k.w p.w bubble_w (loaded_w p f) c.w Bubbled c.m (λ _. i.empty_w) (λ _. empty_w_bubble)
      (λ _ e. empty_w_loaded x.v p f c b q.memory a (empty_not_good c.m e) (i.empty_m e)))

  wrong_d' : is_wrong c'.d ≡ true → AllowedD x.v p'.d
  wrong_d' = rw d_is (moved_all (λ (s : StageD) z. is_wrong z ≡ true → AllowedD x.v s) k.d p.d bubble_d (loaded_d p f) c.d Bubbled g (λ _. i.wrong_d) (λ e. cc) (λ _ _. allowed_loaded x p f image_now b q.fetch))

  wrong_e' : is_wrong c'.e ≡ true → AllowedE x.v p'.e
  wrong_e' = rw e_is (moved_all (λ (s : StageE) z. is_wrong z ≡ true → AllowedE x.v s) k.e p.e bubble_e (loaded_e p f) c.e Bubbled c.d (λ _. i.wrong_e) (λ e. cc) (λ _ e. allowed_moved x.v x.s p f c q.decode (i.wrong_d e)))

  -- ---- the words of good instructions
  good_d' : is_good c'.d ≡ true → HoldsInD x (in_d c') p'.d
  good_d' = rw d_is (moved_all (λ (s : StageD) z. is_good z ≡ true → HoldsInD x (in_d c') s) k.d p.d bubble_d (loaded_d p f) c.d Bubbled g
      (λ s h. subst (λ j. HoldsInD x j p.d) (sym (stay_in_d k g c kept s)) (i.good_d h)) (λ e. cc)
      (λ l h. subst (λ j. HoldsInD x j (loaded_d p f)) (sym (load_in_d k g c kept l)) (words_d h)))

  left : is_good c'.e ≡ true → leaves_by k (is_good c.d) ≡ true
  left h = sym (good_e k g c kept) ∙ h

  loaded_e' : is_good c'.e ≡ true → p'.e ≡ loaded_e p f
  loaded_e' h = e_is ∙ load_is k.e _ _ _ (loads_e k g c kept (left h))

  from_e : is_good c'.m ≡ true → is_good c.e ≡ true
  from_e h = sym (good_m k g c kept) ∙ h

  loaded_m' : is_good c'.m ≡ true → p'.m ≡ loaded_m p f
  loaded_m' h = m_is ∙ load_is k.m _ _ _ (loads_m k g c kept (from_e h))

  from_m : is_good c'.w ≡ true → is_good c.m ≡ true
  from_m h = sym (good_w k g c kept) ∙ h

  loaded_w' : is_good c'.w ≡ true → p'.w ≡ loaded_w p f
  loaded_w' h = w_is ∙ load_is k.w _ _ _ (loads_w k g c kept (from_m h))

  good_e' : is_good c'.e ≡ true → HoldsInE x (in_e c') (store_word_comes_late x.s x.v p' (is_good c'.m)) p'.e
  good_e' h =
      let d = left_good k g c kept (left h) in
      subst (λ j. HoldsInE x j (store_word_comes_late x.s x.v p' (is_good c'.m)) p'.e) (sym (next_in_e k g c kept))
      (subst (HoldsInE x (in_d c) (store_word_comes_late x.s x.v p' (is_good c'.m))) (sym (loaded_e' h))
      (words_e x t c p f rs image i b a q.execute q.memory q.decode d (left h) (store_word_comes_late x.s x.v p' (is_good c'.m))
      (λ fr e same late.
      let m' : is_good c'.m ≡ true = good_m k g c kept ∙ e in
      free_from x.s.lf _ _ _ _ fr (ap (λ (s : StageE). x.s.lf && stores_val_a (row x.v s.icode).memory) (loaded_e' h) ∙ late) m'
      (ap (λ (s : StageM). s.dst_m) (loaded_m' m') ∙ same ∙ sym (ap (λ (s : StageE). s.src_a) (loaded_e' h))))))

  good_m' : is_good c'.m ≡ true → HoldsInM x (in_m c') p'.m
  good_m' h =
      subst (λ j. HoldsInM x j p'.m) (sym (next_in_m k g c kept))
      (subst (HoldsInM x (in_e c)) (sym (loaded_m' h)) (words_m x t c p f rs image i b a q.execute q.memory (from_e h)))

  good_w' : is_good c'.w ≡ true → HoldsInW x (in_w c') p'.w
  good_w' h = subst (HoldsInW x (in_m c)) (sym (loaded_w' h)) (words_w x t c p f rs image i b a q.memory (from_m h))

  -- ---- registers, memory and flags
  regs' : p'.regs ≡ (state_before x.v x.image (in_m c)).regs
  unfolding next
  regs' = regs_are x t c p f rs image i a q.write run_on

  mem' : p'.mem ≡ (state_before x.v x.image (in_m c')).mem
  unfolding next
  mem' = mem_is x t c p f rs image i a b q.memory ∙ ap (λ j. (state_before x.v x.image j).mem) (sym (next_in_m k g c kept))

  flags' : p'.flags ≡ (state_before x.v x.image (in_e c')).flags
  unfolding next
  flags' = flags_next_are x t c p f rs image i a b q.execute ∙ ap (λ j. (state_before x.v x.image j).flags) (sym (next_in_e k g c kept))

  -- ---- no load is awaited, and the path
  awaited' : no_load_awaited x.s x.v p' c' ≡ true
  awaited' = l6_from (is_good c'.e) (is_good c'.m) (x.s.lf && stores_val_a (row x.v p'.e.icode).memory) p'.m.dst_m p'.e.src_a p'.e.src_b
      (λ e m ne same.
      let sb : p'.e.src_b ≡ f name.d_srcB = ap (λ (s : StageE). s.src_b) (loaded_e' e) in
      let dm : p'.m.dst_m ≡ p.e.dst_m = ap (λ (s : StageM). s.dst_m) (loaded_m' m) in
      q.decode.late_b (left e) (λ z. ne (same ∙ sb ∙ z)) (from_e m) (sym dm ∙ same ∙ sb))
      (λ e m ne same.
      let sa : p'.e.src_a ≡ f name.d_srcA = ap (λ (s : StageE). s.src_a) (loaded_e' e) in
      let dm : p'.m.dst_m ≡ p.e.dst_m = ap (λ (s : StageM). s.dst_m) (loaded_m' m) in
      ap (λ (s : StageE). x.s.lf && stores_val_a (row x.v s.icode).memory) (loaded_e' e)
      ∙ q.decode.late_a (left e) (λ z. ne (same ∙ sa ∙ z)) (from_e m) (sym dm ∙ same ∙ sa))

  entered_d : loads k.d ≡ true → is_good g ≡ true → (run_flow x c').d ≡ run_stage_flow x Good (in_f c)
  unfolding run_flow
  entered_d l e = ap (λ z. run_stage_flow x z (in_d c')) (load_is k.d c.d Bubbled g l ∙ good_is g e) ∙ ap (run_stage_flow x Good) (load_in_d k g c kept l)

  path' : path (run_flow x c') ≡ true → p'.pred_pc ≡ (state_before x.v x.image (in_f c')).pc
  path' h = by (loads k.d && is_good g) refl
    where
      parts : loads k.d ≡ true → is_good g ≡ true → follows_prediction (run_stage_flow x Good (in_f c)) ≡ true
      parts l e = sym (ap follows_prediction (entered_d l e)) ∙ path_d (run_flow x c') (ap (λ (s : StageFlow). s.good) (entered_d l e)) h

      fetched_now : is_good g ≡ true → LoadsFetched p f (fetched x.v (state_before x.v x.image (in_f c)).mem (state_before x.v x.image (in_f c)).pc)
      fetched_now e = subst (LoadsFetched p f) (fetch_same x n t c p f rs image pure lt i st b valm q.fetch (mo.fetch e)) (loads_fetched x p f b q.fetch)

      by : (z : Bool) → (loads k.d && is_good g) ≡ z → p'.pred_pc ≡ (state_before x.v x.image (in_f c')).pc
      by true e =
          let l = and_parts _ _ e in
          let w = fine_parts _ _ _ (parts l.0 l.1) in
          let index : in_f c' ≡ in_f c + 1 = omega (arith, next_in_f k g c kept, ap count e) in
          next_f p f is_going ∙ load_is k.f _ _ _ (mo.entered h e)
          ∙ predicted_is x (in_f c) p f (live_fetch l.1) q.fetch (fetched_now l.1) w.0 w.1 w.2
          ∙ ap (λ j. (state_before x.v x.image j).pc) (sym index)
      by false e =
          let s = mo.stayed h e in
          let index : in_f c' ≡ in_f c = omega (arith, next_in_f k g c kept, ap count e) in
          next_f p f is_going ∙ stay_is k.f _ _ _ s.0 ∙ i.path_holds s.1 ∙ ap (λ j. (state_before x.v x.image j).pc) (sym index)

  pub kept_inv : CouplingInvariant x (t + 1) c' p' (rs ++ option_to_list (retires p f))
  kept_inv = record {
    live_d = live_d';
    live_e = live_e';
    live_m = live_m';
    live_w = live_w';
    right_m = mo.right_m;
    right_w = mo.right_w;
    live = lives;
    last_live = last';
    few = few';
    empty_d = empty_d';
    empty_e = empty_e';
    empty_m = empty_m';
    empty_w = empty_w';
    wrong_d = wrong_d';
    wrong_e = wrong_e';
    good_d = good_d';
    good_e = good_e';
    good_m = good_m';
    good_w = good_w';
    regs = regs';
    mem = mem';
    flags = flags';
    legal = mo.legal;
    awaited = awaited';
    path_holds = path';
    recs = records_are x t c p f rs image i a q.write;
    counted = counted_are x t c p f rs image i a;
  }
