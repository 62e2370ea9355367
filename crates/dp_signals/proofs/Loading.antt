-- A cycle in which each register loads.
use Rattle.std.proofs.Common.{◌≡◌, ℕ, ◌==◌, true, false, not, refl}
use Rattle.std.proofs.lemmas.Bool.{and_parts, or_parts, not-true}
use Rattle.y86_base.specs.Words.{set}
use Rattle.dp_signals.specs.PipeCycle.{all_load, any_asked, ending, loaded, updates_of, next}
use Rattle.dp_signals.specs.PipeNames as row
use Rattle.dp_signals.specs.declared.register_updates.CycleEnd.TheVariants.{Going}
use Rattle.dp_signals.specs.declared.pipe_state.PipeState.{PipeState}

-- the machine goes on, and no register is to be stalled or bubbled
record IsQuiet (f : ℕ → ℕ) : Type 0 where
  pub goes : (f row.Stat == 1) ≡ true
  pub f_stall : set (f row.F_stall) ≡ false
  pub f_bubble : set (f row.F_bubble) ≡ false
  pub d_stall : set (f row.D_stall) ≡ false
  pub d_bubble : set (f row.D_bubble) ≡ false
  pub e_stall : set (f row.E_stall) ≡ false
  pub e_bubble : set (f row.E_bubble) ≡ false
  pub m_stall : set (f row.M_stall) ≡ false
  pub m_bubble : set (f row.M_bubble) ≡ false
  pub w_stall : set (f row.W_stall) ≡ false
  pub w_bubble : set (f row.W_bubble) ≡ false

quiet : (f : ℕ → ℕ) → all_load f ≡ true → IsQuiet f
quiet f h =
    let parts = and_parts (f row.Stat == 1) (not (any_asked f)) h in
    let w = or_parts _ _ (not-true (any_asked f) parts.1) in
    let m = or_parts _ _ w.0 in
    let e = or_parts _ _ m.0 in
    let d = or_parts _ _ e.0 in
    let of_f = or_parts (set (f row.F_stall)) (set (f row.F_bubble)) d.0 in
    let of_d = or_parts (set (f row.D_stall)) (set (f row.D_bubble)) d.1 in
    let of_e = or_parts (set (f row.E_stall)) (set (f row.E_bubble)) e.1 in
    let of_m = or_parts (set (f row.M_stall)) (set (f row.M_bubble)) m.1 in
    let of_w = or_parts (set (f row.W_stall)) (set (f row.W_bubble)) w.1 in
    record {
      goes = parts.0;
      f_stall = of_f.0;
      f_bubble = of_f.1;
      d_stall = of_d.0;
      d_bubble = of_d.1;
      e_stall = of_e.0;
      e_bubble = of_e.1;
      m_stall = of_m.0;
      m_bubble = of_m.1;
      w_stall = of_w.0;
      w_bubble = of_w.1;
    }

-- after the cycle, each register holds what it loads
pub next_loading : (p : PipeState) (f : ℕ → ℕ) → all_load f ≡ true → next p f ≡ loaded p f
unfolding next updates_of
next_loading p f h = let q = quiet f h in rw (q.goes, q.f_stall, q.f_bubble, q.d_stall, q.d_bubble, q.e_stall, q.e_bubble, q.m_stall, q.m_bubble, q.w_stall, q.w_bubble) refl

-- and the machine goes on
pub ending_loading : (f : ℕ → ℕ) → all_load f ≡ true → ending f ≡ Going
ending_loading f h = let q = quiet f h in rw (q.goes, q.f_stall, q.d_stall, q.e_stall, q.m_stall, q.w_stall) refl
