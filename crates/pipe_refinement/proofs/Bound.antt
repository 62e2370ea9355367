-- Five cycles for each record.
use Rattle.std.proofs.Common.{◌≡◌, ℕ, ◌+◌, ◌*◌, ◌≤◌, Bool, true, false, not, ◌&&◌, ◌||◌, cond, refl, sym, ap, ◌∙◌, arith}
use Rattle.std.proofs.lemmas.Bool.{or_from}
use Rattle.y86_base.proofs.Booleans.{clash}
use Rattle.dp_signals.specs.declared.pipe_state.PipeState.{PipeState}
use Rattle.pipe_refinement.specs.Invariant.{RunContext, run_flow}
use Rattle.pipe_refinement.specs.Kinds.{Schedule, Bubbled, StageKind, requested_controls, count, fetched_kind, is_good, is_wrong, next_schedule, moved_by}
use Rattle.pipe_motion.specs.Flow.{RegisterControl, RegisterControls, flow_legal, loads}
use Rattle.pipe_refinement.proofs.Motions.{Motion}
use Rattle.pipe_refinement.proofs.Moves.{good_d, good_e, good_m, good_w, leaves_by, load_is}
use Rattle.pipe_refinement.proofs.Older.{e_not_wrong, quiet_d, quiet_e}

-- cycles until the next record, at most
abbrev pub dist : Schedule → ℕ
dist c = cond (is_good c.w) 1 (cond (is_good c.m) 2 (cond (is_good c.e) 3 (cond (is_good c.d) 4 5)))

top_by : (w m e d : Bool) → cond w 1 (cond m 2 (cond e 3 (cond d 4 5))) ≤ 5
top_by true m e d = omega arith
top_by false true e d = omega arith
top_by false false true d = omega arith
top_by false false false true = omega arith
top_by false false false false = omega arith

pub dist_top : (c : Schedule) → dist c ≤ 5
dist_top c = top_by (is_good c.w) (is_good c.m) (is_good c.e) (is_good c.d)

least_by : (w m e d : Bool) → 1 ≤ cond w 1 (cond m 2 (cond e 3 (cond d 4 5)))
least_by true m e d = omega arith
least_by false true e d = omega arith
least_by false false true d = omega arith
least_by false false false true = omega arith
least_by false false false false = omega arith

pub dist_least : (c : Schedule) → 1 ≤ dist c
dist_least c = least_by (is_good c.w) (is_good c.m) (is_good c.e) (is_good c.d)

wrong_loaded : (k : RegisterControl) (a b : StageKind) → loads k ≡ true → is_wrong (moved_by k a Bubbled b) ≡ is_wrong b
wrong_loaded k a b h = ap is_wrong (load_is k a Bubbled b h)

only_new : (s a l b : Bool) → a ≡ false → l ≡ true → (s && a) || (l && b) ≡ b
only_new true false true b e g = refl
only_new false false true b e g = refl
only_new s true l b e g = cc
only_new s false false b e g = cc

module _ (x : RunContext) (p : PipeState) (f : ℕ → ℕ) (c : Schedule) (fetch_good : Bool)
    (h : flow_legal x.s.je x.s.rm (run_flow x c) ≡ true) (q : Motion x p f c fetch_good) where
  abbrev k : RegisterControls
  k = requested_controls f

  abbrev g : StageKind
  g = fetched_kind fetch_good

  abbrev c' : Schedule
  c' = next_schedule k g c

  w_is : is_good c'.w ≡ is_good c.m
  w_is = good_w k g c q.kept

  m_is : is_good c'.m ≡ is_good c.e
  m_is = good_m k g c q.kept

  e_is : is_good c'.e ≡ leaves_by k (is_good c.d)
  e_is = good_e k g c q.kept

  -- if no good instruction is in flight, the fetch is good
  enters : is_good c.w ≡ false → is_good c.m ≡ false → is_good c.e ≡ false → is_good c.d ≡ false → is_good c'.d ≡ true
  enters w m e d = by (is_good g) refl
    where
      l : loads k.d ≡ true
      l = q.from_none d e m w (quiet_d x c h d e m w) (quiet_e x c h d e m w)

      no_e : is_good c'.e ≡ false
      no_e = e_is ∙ ap (λ z. z && (loads k.e && not k.d.stall)) d

      by : (z : Bool) → is_good g ≡ z → is_good c'.d ≡ true
      by true e' = good_d k g c q.kept ∙ only_new _ _ _ _ d l ∙ e'
      by false e' =
          let none_d : is_good c'.d ≡ false = good_d k g c q.kept ∙ only_new _ _ _ _ d l ∙ e' in
          let calm : is_wrong c'.d ≡ false = quiet_d x c' q.legal none_d no_e (m_is ∙ e) (w_is ∙ m) in
          let wrong_g : is_wrong g ≡ false = sym (wrong_loaded k.d c.d g l) ∙ calm in
          clash (is_good g || is_wrong g) q.some (or_from _ _ e' wrong_g)

  pub shorter : dist c' + 1 ≤ dist c + 5 * count (is_good c.w)
  shorter = by _ _ _ _ refl refl refl refl
    where
      by : (w m e d : Bool) → is_good c.w ≡ w → is_good c.m ≡ m → is_good c.e ≡ e → is_good c.d ≡ d → dist c' + 1 ≤ dist c + 5 * count (is_good c.w)
      by true m e d hw hm he hd = rw hw (omega (arith, dist_top c'))
      by false true e d hw hm he hd = rw (w_is, hw, hm) (omega arith)
      by false false true d hw hm he hd = rw (w_is, m_is, hw, hm, he) (omega arith)
      by false false false true hw hm he hd =
          let l : is_good c'.e ≡ true = e_is ∙ q.from_d hd he hm hw (e_not_wrong x c h hd) in
          rw (w_is, m_is, l, hw, hm, he, hd) (omega arith)
      by false false false false hw hm he hd =
          let l : is_good c'.e ≡ false = e_is ∙ ap (λ z. z && (loads k.e && not k.d.stall)) hd in
          rw (w_is, m_is, l, enters hw hm he hd, hw, hm, he, hd) (omega arith)
