-- The right value of a source is the value of its register before the instruction in D.
use Rattle.std.proofs.Common.{◌≡◌, ◌≢◌, ℕ, ◌+◌, ◌<◌, Bool, true, false, ◌==◌, cond, List, refl, sym, ap, ◌∙◌, arith}
use Rattle.std.proofs.lemmas.Bool.{ne_eqb, eqb-true, or_left}
use Rattle.y86_base.specs.Registers.{register}
use Rattle.y86_isa.specs.Run.{IsImage}
use Rattle.y86_isa.specs.declared.machine.Rec.{Rec}
use Rattle.yis_run_laws.specs.Instructions.{RunReaches, state_before, work_at}
use Rattle.yis_run_laws.proofs.ReadBack.{operand_from_dst, read_after_step}
use Rattle.dp_signals.specs.PipeNames as name
use Rattle.dp_signals.specs.PipeRows.{PipeHardware}
use Rattle.dp_signals.specs.declared.pipe_state.PipeState.{PipeState}
use Rattle.pipe_refinement.specs.Facts.{AlwaysFacts, ExecuteFacts, MemoryFacts, late_dst_e, right_value}
use Rattle.pipe_refinement.specs.Invariant.{RunContext, CouplingInvariant}
use Rattle.pipe_refinement.specs.Kinds.{Schedule, Bubbled, Good, StageKind, Wrong, count, in_d, in_e, in_m, in_w, is_good, is_wrong}
use Rattle.pipe_refinement.proofs.Older.{e_goes, m_goes, w_goes}
use Rattle.pipe_refinement.proofs.Values.{late_is, m_valM_is, val_e_is}

pub empty_from : (k : StageKind) → is_good k ≡ false → is_wrong k ≡ false → k ≡ Bubbled
empty_from Bubbled g w = refl
empty_from Wrong g w = cc
empty_from Good g w = cc

pub none : (k : StageKind) (n : ℕ) → is_good k ≡ false → n + count (is_good k) ≡ n
none k n e = omega (arith, ap count e)

pub one : (k : StageKind) (n : ℕ) → is_good k ≡ true → n + count (is_good k) ≡ n + 1
one k n e = omega (arith, ap count e)

-- ---- one stage of a right value

stage : (g : Bool) (s dm de vm ve rest wdm wde wvm wve old new : ℕ) → s ≢ 15 →
    (g ≡ true → new ≡ cond (s == wdm) wvm (cond (s == wde) wve old)) → (g ≡ false → new ≡ old) →
    (g ≡ true → dm ≡ wdm) → (g ≡ true → de ≡ wde) → (g ≡ true → vm ≡ wvm) → (g ≡ true → s ≡ wde → ve ≡ wve) →
    (g ≡ false → dm ≡ 15) → (g ≡ false → de ≡ 15) → rest ≡ old →
    cond (s == dm) vm (cond (s == de) ve rest) ≡ new
stage true s dm de vm ve rest wdm wde wvm wve old new ne a b c d e f k l r =
    rw (c refl, d refl, e refl, a refl, r) (by (s == wde) refl)
  where
    by : (t : Bool) → (s == wde) ≡ t → cond (s == wdm) wvm (cond (s == wde) ve old) ≡ cond (s == wdm) wvm (cond (s == wde) wve old)
    by true t = rw (f refl (eqb-true s wde t)) refl
    by false t = rw t refl
stage false s dm de vm ve rest wdm wde wvm wve old new ne a b c d e f k l r =
    let m : (s == dm) ≡ false = rw (k refl) (ne_eqb s 15 ne) in
    let n : (s == de) ≡ false = rw (l refl) (ne_eqb s 15 ne) in
    rw (m, n) (r ∙ sym (b refl))

module _ (x : RunContext) (t : ℕ) (c : Schedule) (p : PipeState) (f : ℕ → ℕ) (rs : List Rec) (image : IsImage x.image)
    (i : CouplingInvariant x t c p rs) (b : PipeHardware x.v p f) (a : AlwaysFacts x.v p f c) (ex : ExecuteFacts x.v x.s p f c) (me : MemoryFacts x.v p f c)
    (d : is_good c.d ≡ true) (s rest : ℕ) (lt : s < 15) (base : rest ≡ register p.regs s) where
  abbrev at : ℕ → ℕ
  at j = register (state_before x.v x.image j).regs s

  ne : s ≢ 15
  ne e = absurd (omega arith)

  live_w : is_good c.w ≡ true → RunReaches x.v x.image (in_w c)
  live_w w = i.live (in_w c) (omega (arith, ap count w))

  live_m : is_good c.m ≡ true → RunReaches x.v x.image (in_m c)
  live_m m = i.live (in_m c) (omega (arith, ap count m))

  live_e : is_good c.e ≡ true → RunReaches x.v x.image (in_e c)
  live_e e = i.live (in_e c) (omega (arith, ap count e))

  from_w : cond (s == p.w.dst_m) p.w.val_m (cond (s == p.w.dst_e) p.w.val_e rest) ≡ at (in_m c)
  from_w =
      stage (is_good c.w) s p.w.dst_m p.w.dst_e p.w.val_m p.w.val_e rest (work_at x.v x.image (in_w c)).dst_m (work_at x.v x.image (in_w c)).dst_e (work_at x.v x.image (in_w c)).val_m (work_at x.v x.image (in_w c)).val_e
      (at (in_w c)) (at (in_m c)) ne
      (λ w. ap at (one c.w (in_w c) w) ∙ read_after_step x.v x.image (in_w c) s image (live_w w) (w_goes x c i.legal (or_left _ _ d) w) lt)
      (λ w. ap at (none c.w (in_w c) w))
      (λ w. (i.good_w w).dst_m) (λ w. (i.good_w w).dst_e) (λ w. (i.good_w w).val_m)
      (λ w e. (i.good_w w).val_e (operand_from_dst x.v x.image (in_w c) s ne e))
      (λ w. (i.empty_w (empty_from c.w w i.right_w)).dst_m) (λ w. (i.empty_w (empty_from c.w w i.right_w)).dst_e)
      (base ∙ ap (λ z. register z s) i.regs)

  from_m : cond (s == p.m.dst_m) (f name.m_valM) (cond (s == p.m.dst_e) p.m.val_e (cond (s == p.w.dst_m) p.w.val_m (cond (s == p.w.dst_e) p.w.val_e rest))) ≡ at (in_e c)
  from_m =
      stage (is_good c.m) s p.m.dst_m p.m.dst_e (f name.m_valM) p.m.val_e _ (work_at x.v x.image (in_m c)).dst_m (work_at x.v x.image (in_m c)).dst_e (work_at x.v x.image (in_m c)).val_m (work_at x.v x.image (in_m c)).val_e
      (at (in_m c)) (at (in_e c)) ne
      (λ m. ap at (one c.m (in_m c) m) ∙ read_after_step x.v x.image (in_m c) s image (live_m m) (m_goes x c i.legal (or_left _ _ d) m) lt)
      (λ m. ap at (none c.m (in_m c) m))
      (λ m. (i.good_m m).dst_m) (λ m. (i.good_m m).dst_e) (λ m. m_valM_is x t c p f rs image i b a.access me.address m)
      (λ m e. (i.good_m m).val_e (operand_from_dst x.v x.image (in_m c) s ne e))
      (λ m. (i.empty_m (empty_from c.m m i.right_m)).dst_m) (λ m. (i.empty_m (empty_from c.m m i.right_m)).dst_e)
      from_w

  from_e : is_good c.e ≡ true → p.e.dst_m ≢ s → right_value x.v p f true s rest ≡ at (in_d c)
  from_e e apart =
      let m : (s == (work_at x.v x.image (in_e c)).dst_m) ≡ false = ne_eqb s _ (λ q. apart (sym (q ∙ sym (i.good_e e).dst_m))) in
      let step : at (in_d c) ≡ cond (s == (work_at x.v x.image (in_e c)).dst_e) (work_at x.v x.image (in_e c)).val_e (at (in_e c)) =
      ap at (one c.e (in_e c) e) ∙ read_after_step x.v x.image (in_e c) s image (live_e e) (e_goes x c i.legal d e) lt ∙ rw m refl in
      by (s == (work_at x.v x.image (in_e c)).dst_e) refl m step
    where
      by : (q : Bool) → (s == (work_at x.v x.image (in_e c)).dst_e) ≡ q → (s == (work_at x.v x.image (in_e c)).dst_m) ≡ false →
          at (in_d c) ≡ cond (s == (work_at x.v x.image (in_e c)).dst_e) (work_at x.v x.image (in_e c)).val_e (at (in_e c)) → right_value x.v p f true s rest ≡ at (in_d c)
      by true q m step =
          let late : (s == late_dst_e x.v p f) ≡ true = ap (λ z. s == z) (late_is x t c p f rs image i b a.access a.flags ex e) ∙ q in
          rw (late, step, q) (val_e_is x t c p f rs image i b a.access a.flags ex e (operand_from_dst x.v x.image (in_e c) s ne (eqb-true _ _ q)))
      by false q m step =
          let late : (s == late_dst_e x.v p f) ≡ false = ap (λ z. s == z) (late_is x t c p f rs image i b a.access a.flags ex e) ∙ q in
          rw (late, step, q) from_m

  pub right_is : (is_good c.e ≡ true → p.e.dst_m ≢ s) → right_value x.v p f (is_good c.e) s rest ≡ at (in_d c)
  right_is apart = by (is_good c.e) refl
    where
      by : (g : Bool) → is_good c.e ≡ g → right_value x.v p f g s rest ≡ at (in_d c)
      by true g = from_e g (apart g)
      by false g = from_m ∙ sym (ap at (none c.e (in_e c) g))
