-- In a legal flow, an instruction with a younger good one doesn't stop.
use Rattle.std.proofs.Common.{◌≡◌, Bool, true, false, ◌||◌, sym, ◌∙◌, arith}
use Rattle.yis_run_laws.specs.Instructions.{stops_at}
use Rattle.pipe_refinement.specs.Invariant.{RunContext, run_flow}
use Rattle.pipe_refinement.specs.Kinds.{Schedule, in_e, in_m, in_w, is_good, is_wrong}
use Rattle.pipe_motion.specs.Flow.{Flow, flow_legal}
use Rattle.pipe_refinement.proofs.Views.{Seen, seen}

old_e : (je rm : Bool) (v : Flow) → flow_legal je rm v ≡ true → v.d.good ≡ true → v.e.stops ≡ false
unfolding flow_legal
old_e je rm v h g = grind (arith)

old_m : (je rm : Bool) (v : Flow) → flow_legal je rm v ≡ true → v.d.good || v.e.good ≡ true → v.m.stops ≡ false
unfolding flow_legal
old_m je rm v h g = grind (arith)

old_w : (je rm : Bool) (v : Flow) → flow_legal je rm v ≡ true → v.d.good || (v.e.good || v.m.good) ≡ true → v.w.stops ≡ false
unfolding flow_legal
old_w je rm v h g = grind (arith)

no_wrong_e : (je rm : Bool) (v : Flow) → flow_legal je rm v ≡ true → v.d.good ≡ true → v.e.wrong ≡ false
unfolding flow_legal
no_wrong_e je rm v h g = grind (arith)

alone : (je rm : Bool) (v : Flow) → flow_legal je rm v ≡ true → v.w.stops ≡ true → (v.d.good ≡ false) × (v.e.good ≡ false) × (v.m.good ≡ false)
unfolding flow_legal
alone je rm v h s = (grind (arith), grind (arith), grind (arith))

-- without a good instruction there is no wrong one
calm_d : (je rm : Bool) (v : Flow) → flow_legal je rm v ≡ true → v.d.good ≡ false → v.e.good ≡ false → v.m.good ≡ false → v.w.stops ≡ false → v.d.wrong ≡ false
unfolding flow_legal
calm_d je rm v h d e m w = grind (arith)

calm_e : (je rm : Bool) (v : Flow) → flow_legal je rm v ≡ true → v.d.good ≡ false → v.e.good ≡ false → v.m.good ≡ false → v.w.stops ≡ false → v.e.wrong ≡ false
unfolding flow_legal
calm_e je rm v h d e m w = grind (arith)

module _ (x : RunContext) (c : Schedule) (h : flow_legal x.s.je x.s.rm (run_flow x c) ≡ true) where
  y : Seen x c (run_flow x c)
  y = seen x c

  pub e_goes : is_good c.d ≡ true → is_good c.e ≡ true → stops_at x.v x.image (in_e c) ≡ false
  e_goes d e = sym (y.stops_e e) ∙ old_e x.s.je x.s.rm (run_flow x c) h (y.good_d ∙ d)

  pub m_goes : is_good c.d || is_good c.e ≡ true → is_good c.m ≡ true → stops_at x.v x.image (in_m c) ≡ false
  m_goes d m = sym (y.stops_m m) ∙ old_m x.s.je x.s.rm (run_flow x c) h (rw (y.good_d, y.good_e) d)

  pub w_goes : is_good c.d || (is_good c.e || is_good c.m) ≡ true → is_good c.w ≡ true → stops_at x.v x.image (in_w c) ≡ false
  w_goes d w = sym (y.stops_w w) ∙ old_w x.s.je x.s.rm (run_flow x c) h (rw (y.good_d, y.good_e, y.good_m) d)

  pub e_not_wrong : is_good c.d ≡ true → is_wrong c.e ≡ false
  e_not_wrong d = sym y.wrong_e ∙ no_wrong_e x.s.je x.s.rm (run_flow x c) h (y.good_d ∙ d)

  pub w_alone : is_good c.w ≡ true → stops_at x.v x.image (in_w c) ≡ true → (is_good c.d ≡ false) × (is_good c.e ≡ false) × (is_good c.m ≡ false)
  w_alone w s =
      let q = alone x.s.je x.s.rm (run_flow x c) h (y.stops_w w ∙ s) in
      (sym y.good_d ∙ q.0, sym y.good_e ∙ q.1, sym y.good_m ∙ q.2)

  pub quiet_d : is_good c.d ≡ false → is_good c.e ≡ false → is_good c.m ≡ false → is_good c.w ≡ false → is_wrong c.d ≡ false
  quiet_d d e m w = sym y.wrong_d ∙ calm_d x.s.je x.s.rm (run_flow x c) h (y.good_d ∙ d) (y.good_e ∙ e) (y.good_m ∙ m) (y.none_w w)

  pub quiet_e : is_good c.d ≡ false → is_good c.e ≡ false → is_good c.m ≡ false → is_good c.w ≡ false → is_wrong c.e ≡ false
  quiet_e d e m w = sym y.wrong_e ∙ calm_e x.s.je x.s.rm (run_flow x c) h (y.good_d ∙ d) (y.good_e ∙ e) (y.good_m ∙ m) (y.none_w w)
