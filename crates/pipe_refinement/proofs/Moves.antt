-- Motion of kinds, indexes, stage flows and registers.
use Rattle.std.proofs.Common.{◌≡◌, ℕ, ◌+◌, Bool, true, false, not, ◌&&◌, ◌||◌, refl, sym, ap, ◌∙◌, arith}
use Rattle.std.proofs.lemmas.Bool.{and_parts}
use Rattle.dp_signals.specs.PipeCycle.{any_both, ending, is_both, loaded_d, loaded_e, loaded_m, loaded_w, moved, update_by, updates_of, next}
use Rattle.dp_signals.specs.PipeNames as name
use Rattle.dp_signals.specs.PipeState.{bubble_d, bubble_e, bubble_m, bubble_w}
use Rattle.dp_signals.specs.declared.register_updates.CycleEnd.TheVariants.{Going}
use Rattle.dp_signals.specs.declared.pipe_state.PipeState.{PipeState}
use Rattle.pipe_refinement.specs.Invariant.{RunContext, run_stage_flow, run_flow}
use Rattle.pipe_refinement.specs.Kinds.{Schedule, Bubbled, Good, StageKind, Wrong, requested_controls, count, fetched_kind, in_d, in_e, in_f, in_m, in_w, is_good, is_wrong, next_schedule, moved_by}
use Rattle.pipe_motion.specs.Flow.{RegisterControl, RegisterControls, StageFlow, Flow, fetched_flow, loads, moved_stage as moved_stage_flow, moved_flow, o23, o24, entering_w}

-- ---- one register

moved_good : (s b : Bool) (old new : StageKind) → is_good (moved (update_by s b) old Bubbled new) ≡ (s && is_good old) || (not (s || b) && is_good new)
moved_good true b old new = grind (arith)
moved_good false true old new = refl
moved_good false false old new = refl

pub good_moved : (k : RegisterControl) (a b : StageKind) → is_good (moved_by k a Bubbled b) ≡ (k.stall && is_good a) || (loads k && is_good b)
good_moved k a b = moved_good k.stall k.bubble a b

moved_wrong : (s b : Bool) (old new : StageKind) → is_wrong (moved (update_by s b) old Bubbled new) ≡ (s && is_wrong old) || (not (s || b) && is_wrong new)
moved_wrong true b old new = grind (arith)
moved_wrong false true old new = refl
moved_wrong false false old new = refl

pub wrong_moved : (k : RegisterControl) (a b : StageKind) → is_wrong (moved_by k a Bubbled b) ≡ (k.stall && is_wrong a) || (loads k && is_wrong b)
wrong_moved k a b = moved_wrong k.stall k.bubble a b

apart : (k : RegisterControl) → k.stall && loads k ≡ false
apart k = by k.stall k.bubble
  where
    by : (s b : Bool) → s && not (s || b) ≡ false
    by true b = refl
    by false b = refl

pub load_is : {A : Type 0} (k : RegisterControl) (a b n : A) → loads k ≡ true → moved_by k a b n ≡ n
load_is k a b n h = by k.stall k.bubble h
  where
    by : (s t : Bool) → not (s || t) ≡ true → moved (update_by s t) a b n ≡ n
    by true t e = cc
    by false true e = cc
    by false false e = refl

pub stay_is : {A : Type 0} (k : RegisterControl) (a b n : A) → k.stall ≡ true → moved_by k a b n ≡ a
stay_is k a b n h = by k.stall k.bubble h
  where
    by : (s t : Bool) → s ≡ true → moved (update_by s t) a b n ≡ a
    by true t e = refl
    by false t e = cc

-- what holds for a register and its kind still holds after one motion
pub moved_all : {A B : Type 0} (R : A → B → Type 0) (k : RegisterControl) (a bubble n : A) (a' bubble' n' : B) →
    (k.stall ≡ true → R a a') → R bubble bubble' → (loads k ≡ true → R n n') → R (moved_by k a bubble n) (moved_by k a' bubble' n')
moved_all R k a bubble n a' bubble' n' s b l = by k.stall k.bubble s l
  where
    by : (t u : Bool) → (t ≡ true → R a a') → (not (t || u) ≡ true → R n n') → R (moved (update_by t u) a bubble n) (moved (update_by t u) a' bubble' n')
    by true u s l = s refl
    by false true s l = b
    by false false s l = l refl

-- ---- good instructions are neither lost nor doubled

abbrev pub leaves_by : RegisterControls → Bool → Bool
leaves_by k good_d = good_d && (loads k.e && not k.d.stall)

-- the same for kinds, register by register
abbrev keeps_w : RegisterControls → Schedule → Bool
keeps_w k c = not (is_good c.w && k.w.stall)

abbrev keeps_m : RegisterControls → Schedule → Bool
keeps_m k c = not (is_good c.m) || (loads k.w && not k.m.stall)

abbrev keeps_e : RegisterControls → Schedule → Bool
keeps_e k c = not (is_good c.e) || (loads k.m && not k.e.stall)

abbrev keeps_d : RegisterControls → Schedule → Bool
keeps_d k c = not (is_good c.d) || (leaves_by k (is_good c.d) || (k.d.stall && not (loads k.e)))

abbrev pub keeps_good : RegisterControls → Schedule → Bool
keeps_good k c = keeps_w k c && (keeps_m k c && (keeps_e k c && keeps_d k c))

kept_e : (k : RegisterControls) (c : Schedule) → keeps_good k c ≡ true → keeps_e k c ≡ true
kept_e k c h = (and_parts (keeps_e k c) (keeps_d k c) (and_parts (keeps_m k c) (keeps_e k c && keeps_d k c) (and_parts (keeps_w k c) (keeps_m k c && (keeps_e k c && keeps_d k c)) h).1).1).0

kept_d : (k : RegisterControls) (c : Schedule) → keeps_good k c ≡ true → keeps_d k c ≡ true
kept_d k c h = (and_parts (keeps_e k c) (keeps_d k c) (and_parts (keeps_m k c) (keeps_e k c && keeps_d k c) (and_parts (keeps_w k c) (keeps_m k c && (keeps_e k c && keeps_d k c)) h).1).1).1

-- after the cycle E holds a good instruction exactly if one leaves D
good_e_by : (s b stays d e m : Bool) → not e || (m && not s) ≡ true → not d || ((d && (not (s || b) && not stays)) || (stays && not (not (s || b)))) ≡ true →
    (s && e) || (not (s || b) && d) ≡ d && (not (s || b) && not stays)
good_e_by true b stays d e m p q = grind (arith)
good_e_by false true stays d e m p q = grind (arith)
good_e_by false false stays d e m p q = grind (arith)

pub keeps : (x : RunContext) (k : RegisterControls) (c : Schedule) → o24 k (run_flow x c) ≡ true → keeps_good k c ≡ true
unfolding run_flow
keeps x k c h = h

module _ (k : RegisterControls) (g : StageKind) (c : Schedule) (h : keeps_good k c ≡ true) where
  pub good_w : is_good (next_schedule k g c).w ≡ is_good c.m
  good_w = good_moved k.w c.w c.m ∙ grind (arith)

  pub good_m : is_good (next_schedule k g c).m ≡ is_good c.e
  good_m = good_moved k.m c.m c.e ∙ grind (arith)

  pub good_e : is_good (next_schedule k g c).e ≡ leaves_by k (is_good c.d)
  good_e = good_moved k.e c.e c.d ∙ good_e_by k.e.stall k.e.bubble k.d.stall (is_good c.d) (is_good c.e) (loads k.m) (kept_e k c h) (kept_d k c h)

  pub good_d : is_good (next_schedule k g c).d ≡ (k.d.stall && is_good c.d) || (loads k.d && is_good g)
  good_d = good_moved k.d c.d g

  pub loads_w : is_good c.m ≡ true → loads k.w ≡ true
  loads_w m = grind (arith)

  pub loads_m : is_good c.e ≡ true → loads k.m ≡ true
  loads_m e = grind (arith)

  pub loads_e : leaves_by k (is_good c.d) ≡ true → loads k.e ≡ true
  loads_e e = grind (arith)

  pub left_good : leaves_by k (is_good c.d) ≡ true → is_good c.d ≡ true
  left_good e = grind (arith)

  pub next_in_m : in_m (next_schedule k g c) ≡ in_e c
  next_in_m = omega (arith, ap count good_w)

  pub next_in_e : in_e (next_schedule k g c) ≡ in_d c
  next_in_e = omega (arith, next_in_m, ap count good_m)

  pub next_in_d : in_d (next_schedule k g c) ≡ in_d c + count (leaves_by k (is_good c.d))
  next_in_d = omega (arith, next_in_e, ap count good_e)

  pub stay_in_d : k.d.stall ≡ true → in_d (next_schedule k g c) ≡ in_d c
  stay_in_d s = let e : leaves_by k (is_good c.d) ≡ false = grind (arith) in omega (arith, next_in_d, ap count e)

  pub load_in_d : loads k.d ≡ true → in_d (next_schedule k g c) ≡ in_f c
  load_in_d s = let e : leaves_by k (is_good c.d) ≡ is_good c.d = grind (arith) in omega (arith, next_in_d, ap count e)

  split_d : (s b gd gg l : Bool) → (s ≡ true → l ≡ false) → (s ≡ false → l ≡ gd) → count l + count ((s && gd) || (not (s || b) && gg)) ≡ count gd + count (not (s || b) && gg)
  split_d true b gd gg l p q = grind (arith, p refl)
  split_d false true gd gg l p q = grind (arith, q refl)
  split_d false false gd gg l p q = grind (arith, q refl)

  pub next_in_f : in_f (next_schedule k g c) ≡ in_f c + count (loads k.d && is_good g)
  next_in_f =
      omega (arith, next_in_d, ap count good_d, split_d k.d.stall k.d.bubble (is_good c.d) (is_good g) (leaves_by k (is_good c.d)) (λ s. grind (arith)) (λ s. grind (arith)))

-- ---- stage flows

same_stage_flow : (x : RunContext) (a : StageKind) (i j : ℕ) → (is_good a ≡ true → i ≡ j) → run_stage_flow x a i ≡ run_stage_flow x a j
same_stage_flow x Bubbled i j h = refl
same_stage_flow x Wrong i j h = refl
same_stage_flow x Good i j h = ap (run_stage_flow x Good) (h refl)

stage_flow_moved : (x : RunContext) (k : RegisterControl) (a b : StageKind) (i j l : ℕ) → (k.stall ≡ true → is_good a ≡ true → i ≡ l) → (loads k ≡ true → is_good b ≡ true → j ≡ l) →
    moved_stage_flow k (run_stage_flow x a i) (run_stage_flow x b j) ≡ run_stage_flow x (moved_by k a Bubbled b) l
stage_flow_moved x k a b i j l h g = by k.stall k.bubble refl refl h g
  where
    by : (s t : Bool) → k.stall ≡ s → k.bubble ≡ t → (s ≡ true → is_good a ≡ true → i ≡ l) → (not (s || t) ≡ true → is_good b ≡ true → j ≡ l) →
        moved_stage_flow k (run_stage_flow x a i) (run_stage_flow x b j) ≡ run_stage_flow x (moved_by k a Bubbled b) l
    by true t p q h g = rw p (same_stage_flow x a i l (h refl))
    by false true p q h g = rw (p, q) refl
    by false false p q h g = rw (p, q) (same_stage_flow x b j l (g refl))

moved_to_w : (k : RegisterControl) (a b : StageFlow) → moved_stage_flow k (entering_w a) (entering_w b) ≡ entering_w (moved_stage_flow k a b)
moved_to_w k a b = by k.stall k.bubble refl refl
  where
    by : (s t : Bool) → k.stall ≡ s → k.bubble ≡ t → moved_stage_flow k (entering_w a) (entering_w b) ≡ entering_w (moved_stage_flow k a b)
    by true t p q = rw p refl
    by false true p q = rw (p, q) refl
    by false false p q = rw (p, q) refl

-- what a fetch brings to D
pub fetched_is : (x : RunContext) (good : Bool) (i : ℕ) → fetched_flow good (run_stage_flow x Good i) ≡ run_stage_flow x (fetched_kind good) i
fetched_is x true i = refl
fetched_is x false i = refl

abbrev pub flow_by : StageFlow → StageFlow → StageFlow → StageFlow → Flow
flow_by d e m w = record { d = d; e = e; m = m; w = w }

-- flows with equal stages are equal
pub four : {d e m w d' e' m' w' : StageFlow} → d ≡ d' → e ≡ e' → m ≡ m' → w ≡ w' → flow_by d e m w ≡ flow_by d' e' m' w'
four p q r s = rw (p, q, r, s) refl

-- the next flow is the moved one
pub flow_moved : (x : RunContext) (k : RegisterControls) (g : StageKind) (c : Schedule) → keeps_good k c ≡ true →
    moved_flow k (run_stage_flow x g (in_f c)) (run_flow x c) ≡ run_flow x (next_schedule k g c)
unfolding run_flow moved_flow
flow_moved x k g c h =
    let d : moved_stage_flow k.d (run_stage_flow x c.d (in_d c)) (run_stage_flow x g (in_f c)) ≡ run_stage_flow x (moved_by k.d c.d Bubbled g) (in_d (next_schedule k g c)) =
    stage_flow_moved x k.d c.d g _ _ _ (λ s a. sym (stay_in_d k g c h s)) (λ s a. sym (load_in_d k g c h s)) in
    let e : moved_stage_flow k.e (run_stage_flow x c.e (in_e c)) (run_stage_flow x c.d (in_d c)) ≡ run_stage_flow x (moved_by k.e c.e Bubbled c.d) (in_e (next_schedule k g c)) =
    stage_flow_moved x k.e c.e c.d _ _ _ (λ s a. absurd (gone_e s a)) (λ s a. sym (next_in_e k g c h)) in
    let m : moved_stage_flow k.m (run_stage_flow x c.m (in_m c)) (run_stage_flow x c.e (in_e c)) ≡ run_stage_flow x (moved_by k.m c.m Bubbled c.e) (in_m (next_schedule k g c)) =
    stage_flow_moved x k.m c.m c.e _ _ _ (λ s a. absurd (gone_m s a)) (λ s a. sym (next_in_m k g c h)) in
    let w : moved_stage_flow k.w (entering_w (run_stage_flow x c.w (in_w c))) (entering_w (run_stage_flow x c.m (in_m c))) ≡ entering_w (run_stage_flow x (moved_by k.w c.w Bubbled c.m) (in_w (next_schedule k g c))) =
    moved_to_w k.w (run_stage_flow x c.w (in_w c)) (run_stage_flow x c.m (in_m c)) ∙ ap entering_w (stage_flow_moved x k.w c.w c.m _ _ _ (λ s a. absurd (gone_w s a)) (λ s a. refl)) in
    four d e m w
  where
    gone_e : k.e.stall ≡ true → is_good c.e ≡ true → ⊥
    gone_e s a = grind (arith)

    gone_m : k.m.stall ≡ true → is_good c.m ≡ true → ⊥
    gone_m s a = grind (arith)

    gone_w : k.w.stall ≡ true → is_good c.w ≡ true → ⊥
    gone_w s a = grind (arith)

-- ---- the next state, where the cycle goes on

none_of : (a b c d e : Bool) → not a && (not b && (not c && (not d && not e))) ≡ true → a || b || c || d || e ≡ false
none_of a b c d e h = grind (arith)

pub none_both : (f : ℕ → ℕ) → o23 (requested_controls f) ≡ true → any_both f ≡ false
none_both f h =
    none_of (is_both f name.F_stall name.F_bubble) (is_both f name.D_stall name.D_bubble) (is_both f name.E_stall name.E_bubble)
    (is_both f name.M_stall name.M_bubble) (is_both f name.W_stall name.W_bubble) h

pub going : (f : ℕ → ℕ) → f name.Stat ≡ 1 → any_both f ≡ false → ending f ≡ Going
going f e h = rw (e, h) refl

pub next_d : (p : PipeState) (f : ℕ → ℕ) → ending f ≡ Going → (next p f).d ≡ moved_by (requested_controls f).d p.d bubble_d (loaded_d p f)
unfolding next updates_of
next_d p f e = rw e refl

pub next_e : (p : PipeState) (f : ℕ → ℕ) → ending f ≡ Going → (next p f).e ≡ moved_by (requested_controls f).e p.e bubble_e (loaded_e p f)
unfolding next updates_of
next_e p f e = rw e refl

pub next_m : (p : PipeState) (f : ℕ → ℕ) → ending f ≡ Going → (next p f).m ≡ moved_by (requested_controls f).m p.m bubble_m (loaded_m p f)
unfolding next updates_of
next_m p f e = rw e refl

pub next_w : (p : PipeState) (f : ℕ → ℕ) → ending f ≡ Going → (next p f).w ≡ moved_by (requested_controls f).w p.w bubble_w (loaded_w p f)
unfolding next updates_of
next_w p f e = rw e refl

pub next_f : (p : PipeState) (f : ℕ → ℕ) → ending f ≡ Going → (next p f).pred_pc ≡ moved_by (requested_controls f).f p.pred_pc 0 (f name.f_predPC)
unfolding next updates_of
next_f p f e = rw e refl
