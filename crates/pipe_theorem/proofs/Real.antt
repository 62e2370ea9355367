-- The view of a real cycle's valuation is that of the invariant.
use Rattle.std.proofs.Common.{◌≡◌, ℕ, Bool, true, false, not, ◌&&◌, ◌==◌, List, refl, ap, ◌∙◌}
use Rattle.y86_base.specs.Stat.{stat_number}
use Rattle.y86_isa.specs.Machine.{is_aok}
use Rattle.y86_isa.specs.RowTests.{next_is_branch, next_is_val_m}
use Rattle.y86_isa.specs.Table.{row}
use Rattle.y86_isa.specs.declared.machine.Rec.{Rec}
use Rattle.yis_run_laws.specs.Instructions.{work_at, ret_at, instruction_row, stops_at}
use Rattle.yis_run_laws.proofs.Statuses.{fetch_one, one_is, stops_is}
use Rattle.nets.specs.Nets.{agree}
use Rattle.hcl_types.specs.Terms.{signed_below}
use Rattle.dp_signals.specs.PipeNames as name
use Rattle.y86_base.specs.Words.{set}
use Rattle.dp_signals.specs.declared.pipe_state.PipeState.{PipeState}
use Rattle.dp_signals.proofs.Bits.{set_bit}
use Rattle.pipe_motion.specs.Predictions.{predicts}
use Rattle.pipe_motion.specs.Flow.{entering_w}
use Rattle.pipe_fields.specs.Layout.{FetchLine}
use Rattle.pipe_obligations.specs.StageFlows.{is_missed, no_load_use_in_e, stage_flow_by, stops_by, flow_of as flow_was}
use Rattle.pipe_refinement.specs.Invariant.{RunContext, CouplingInvariant, differ, missed_at, predicted_at, run_stage_flow, run_flow}
use Rattle.pipe_refinement.specs.Kinds.{Schedule, Bubbled, Good, StageKind, Wrong, in_d, in_e, in_m, in_w, is_good}
use Rattle.pipe_refinement.proofs.Moves.{four}
use Rattle.pipe_refinement.proofs.Views.{and_on}
use Rattle.pipe_theorem.proofs.RealCycle.{back_of, fault_of, fields_at, hidden, kind_number, taken_of}

differ_is : (a b : Bool) → not (agree a b) ≡ differ a b
differ_is true b = refl
differ_is false true = refl
differ_is false false = refl

branch_and : (a b y y' : Bool) → (b ≡ true → y ≡ y') → (a && b) && y ≡ a && (b && y')
branch_and true true y y' h = h refl
branch_and true false y y' h = refl
branch_and false b y y' h = refl

-- a missed jump by its fields
pub missed_is : (x : RunContext) (i stat icode ifun taken back : ℕ) → stat ≡ stat_number (work_at x.v x.image i).fetch_stat → icode ≡ (work_at x.v x.image i).icode →
    ifun ≡ (work_at x.v x.image i).ifun → (next_is_branch (instruction_row x.v x.image i).next ≡ true → set taken ≡ (work_at x.v x.image i).cnd) →
    (next_is_branch (instruction_row x.v x.image i).next ≡ true → set back ≡ signed_below (work_at x.v x.image i).val_c (work_at x.v x.image i).val_p) →
    is_missed x.v x.s stat icode ifun taken back ≡ missed_at x i
missed_is x i stat icode ifun taken back s c n t b =
    rw (s, c, n, fetch_one x.v x.image i)
    (branch_and (is_aok (work_at x.v x.image i).fetch_stat) (next_is_branch (instruction_row x.v x.image i).next)
    (not (agree (set taken) (predicts x.s (work_at x.v x.image i).ifun (set back)))) (differ (work_at x.v x.image i).cnd (predicted_at x i))
    (λ e. rw (t e, b e) (differ_is (work_at x.v x.image i).cnd (predicted_at x i))))

pub hidden_good : (k : StageKind) (b : Bool) → is_good k ≡ true → set (hidden k b) ≡ b
hidden_good Bubbled b h = cc
hidden_good Wrong b h = cc
hidden_good Good b h = set_bit b

stage_flow_is : (x : RunContext) (k : StageKind) (i : ℕ) (s r m : Bool) → (is_good k ≡ true → s ≡ stops_at x.v x.image i) → (is_good k ≡ true → r ≡ ret_at x.v x.image i) →
    (is_good k ≡ true → m ≡ missed_at x i) → stage_flow_by (kind_number k) s r m ≡ run_stage_flow x k i
stage_flow_is x Bubbled i s r m a b c = refl
stage_flow_is x Wrong i s r m a b c = refl
stage_flow_is x Good i s r m a b c = rw (a refl, b refl, c refl) refl

stage_flow_w_is : (x : RunContext) (k : StageKind) (i : ℕ) (s r : Bool) → (is_good k ≡ true → s ≡ stops_at x.v x.image i) → (is_good k ≡ true → r ≡ ret_at x.v x.image i) →
    stage_flow_by (kind_number k) s r false ≡ entering_w (run_stage_flow x k i)
stage_flow_w_is x Bubbled i s r a b = refl
stage_flow_w_is x Wrong i s r a b = refl
stage_flow_w_is x Good i s r a b = rw (a refl, b refl) refl

pub good_number : (k : StageKind) → (kind_number k == 1) ≡ is_good k
good_number Bubbled = refl
good_number Wrong = refl
good_number Good = refl

module _ (x : RunContext) (t : ℕ) (c : Schedule) (p : PipeState) (f : ℕ → ℕ) (rs : List Rec) (l : FetchLine)
    (i : CouplingInvariant x t c p rs) (cnd_e : is_good c.e ≡ true → set (f name.e_Cnd) ≡ (work_at x.v x.image (in_e c)).cnd) where
  stops_d : is_good c.d ≡ true → stops_by p.d.stat (hidden c.d (fault_of x (in_d c))) ≡ stops_at x.v x.image (in_d c)
  stops_d h = rw ((i.good_d h).stat, hidden_good c.d (fault_of x (in_d c)) h) (stops_is x.v x.image (in_d c))

  stops_e : is_good c.e ≡ true → stops_by p.e.stat (hidden c.e (fault_of x (in_e c))) ≡ stops_at x.v x.image (in_e c)
  stops_e h = rw ((i.good_e h).stat, hidden_good c.e (fault_of x (in_e c)) h) (stops_is x.v x.image (in_e c))

  stops_m : is_good c.m ≡ true → stops_by p.m.stat (hidden c.m (fault_of x (in_m c))) ≡ stops_at x.v x.image (in_m c)
  stops_m h = rw ((i.good_m h).stat, hidden_good c.m (fault_of x (in_m c)) h) (stops_is x.v x.image (in_m c))

  stops_w : is_good c.w ≡ true → not (p.w.stat == 1) ≡ stops_at x.v x.image (in_w c)
  stops_w h = rw (i.good_w h).stat (ap not (one_is x.v x.image (in_w c)))

  back_is : (k : StageKind) (j : ℕ) → is_good k ≡ true → next_is_branch (instruction_row x.v x.image j).next ≡ true →
      set (hidden k (back_of x j)) ≡ signed_below (work_at x.v x.image j).val_c (work_at x.v x.image j).val_p
  back_is k j h e = hidden_good k (back_of x j) h ∙ and_on _ _ e

  taken_is : (k : StageKind) (j : ℕ) → is_good k ≡ true → next_is_branch (instruction_row x.v x.image j).next ≡ true → set (hidden k (taken_of x j)) ≡ (work_at x.v x.image j).cnd
  taken_is k j h e = hidden_good k (taken_of x j) h ∙ and_on _ _ e

  pub flow_is : flow_was x.v x.s (fields_at x c p f l) ≡ run_flow x c
  unfolding flow_was fields_at run_flow
  flow_is =
      let d = stage_flow_is x c.d (in_d c) _ _ _ stops_d (λ h. ap (λ k. next_is_val_m (row x.v k).next) (i.good_d h).icode)
      (λ h. missed_is x (in_d c) _ _ _ _ _ (i.good_d h).stat (i.good_d h).icode (i.good_d h).ifun (taken_is c.d (in_d c) h) (back_is c.d (in_d c) h)) in
      let e = stage_flow_is x c.e (in_e c) _ _ _ stops_e (λ h. ap (λ k. next_is_val_m (row x.v k).next) (i.good_e h).icode)
      (λ h. missed_is x (in_e c) _ _ _ _ _ (i.good_e h).stat (i.good_e h).icode (i.good_e h).ifun (λ _. cnd_e h) (back_is c.e (in_e c) h)) in
      let m = stage_flow_is x c.m (in_m c) _ _ _ stops_m (λ h. ap (λ k. next_is_val_m (row x.v k).next) (i.good_m h).icode)
      (λ h. missed_is x (in_m c) _ _ _ _ _ (i.good_m h).stat (i.good_m h).icode (i.good_m h).ifun (λ _. ap set (i.good_m h).cnd ∙ set_bit _) (back_is c.m (in_m c) h)) in
      let w = stage_flow_w_is x c.w (in_w c) _ _ stops_w (λ h. ap (λ k. next_is_val_m (row x.v k).next) (i.good_w h).icode) in
      four d e m w

  pub waits_is : no_load_use_in_e x.v x.s.lf (fields_at x c p f l) (run_flow x c) ≡ true
  unfolding fields_at run_flow
  waits_is = i.awaited
