-- A good fetch, and the obligations on motion, in a real cycle.
use Rattle.std.proofs.Common.{◌≡◌, ℕ, inl, inr, Bool, true, false, not, ◌&&◌, ◌||◌, ◌==◌, cond, List, refl, sym, ap, ◌∙◌, subst, arith}
use Rattle.std.proofs.lemmas.Bool.{and_parts, eqb-true, or_cases, not-true}
use Rattle.y86_isa.specs.RowTests.{next_is_branch, next_is_val_m}
use Rattle.y86_isa.specs.Table.{row}
use Rattle.y86_isa.specs.declared.machine.Rec.{Rec}
use Rattle.yis_run_laws.specs.Instructions.{work_at, ret_at}
use Rattle.dp_signals.specs.PipeNames as name
use Rattle.dp_signals.specs.PipeRows.{PipeHolds}
use Rattle.y86_base.specs.Words.{set}
use Rattle.dp_signals.specs.declared.pipe_state.PipeState.{PipeState}
use Rattle.ctl_atoms.specs.declared.leaf.Leaf.TheVariants.{Name}
use Rattle.ctl_atoms.specs.declared.leaf.Leaf.{Leaf}
use Rattle.ctl_equations.specs.Laws.{real_assignment, leaf_value}
use Rattle.ctl_equations.proofs.Worths.{leaf_worth}
use Rattle.ctl_rules.specs.ColumnDemands.{picks_leaf}
use Rattle.pipe_motion.specs.Flow.{StageFlow, fetched_flow, moved_flow, next_is_right, path, youngest_stops}
use Rattle.pipe_fields.specs.Layout.{FetchLine}
use Rattle.pipe_obligations.specs.Obligations.{fetch_good, fetched as fetched_at}
use Rattle.pipe_obligations.specs.StageFlows.{is_jump}
use Rattle.pipe_refinement.specs.Facts.{GoodFetch, MotionFacts, RightPc, fell_m, jump_e, ret_m, ret_w, taken_m}
use Rattle.pipe_refinement.specs.Invariant.{RunContext, CouplingInvariant, run_stage_flow, run_flow}
use Rattle.pipe_refinement.specs.Kinds.{Schedule, Good, StageKind, requested_controls, in_f, in_m, in_w, is_good}
use Rattle.pipe_theorem.proofs.RealCycle.{fields_at}
use Rattle.pipe_theorem.proofs.Reflect.{AllAsked, worth_if}

module _ (x : RunContext) (t : ℕ) (c : Schedule) (p : PipeState) (f : ℕ → ℕ) (rs : List Rec) (l : FetchLine) (cv : ℕ → Leaf) (i : CouplingInvariant x t c p rs)
    (st : PipeHolds p f) (agrees : (n : ℕ) → leaf_value f (cv n) ≡ f n) where
  abbrev pc_is : Leaf → Bool
  pc_is a = picks_leaf cv name.f_pc a

  pick : (a : Leaf) → pc_is a ≡ true → f name.f_pc ≡ leaf_value f a
  pick a h = sym (agrees name.f_pc) ∙ leaf_worth f (cv name.f_pc) a h

  at_e : is_good c.d ≡ false → is_good c.e ≡ true →
      is_jump x.v p.e.stat p.e.icode && pc_is (cond (set (f name.e_Cnd)) (Name name.E_valC) (Name name.E_valA)) ≡ true → RightPc x.v x.s p f c
  at_e d e h =
      let h1 = and_parts (is_jump x.v p.e.stat p.e.icode) (pc_is (cond (set (f name.e_Cnd)) (Name name.E_valC) (Name name.E_valA))) h in
      let j = and_parts (p.e.stat == 1) (next_is_branch (row x.v p.e.icode).next) h1.0 in
      let r : f name.f_pc ≡ cond (set (f name.e_Cnd)) (f name.E_valC) (f name.E_valA) =
      pick (cond (set (f name.e_Cnd)) (Name name.E_valC) (Name name.E_valA)) h1.1 ∙ worth_if f (set (f name.e_Cnd)) (Name name.E_valC) (Name name.E_valA) in
      jump_e d e (eqb-true p.e.stat 1 j.0) j.1 (r ∙ rw (st.E_valC, st.E_valA) refl)

  loads_in : (k : StageKind) (j icode : ℕ) → (is_good k ≡ true → icode ≡ (work_at x.v x.image j).icode) → is_good k && ret_at x.v x.image j ≡ true → next_is_val_m (row x.v icode).next ≡ true
  loads_in k j icode same h =
      let q = and_parts (is_good k) (ret_at x.v x.image j) h in
      ap (λ z. next_is_val_m (row x.v z).next) (same q.0) ∙ q.1

  at_m : is_good c.d ≡ false → is_good c.e ≡ false → is_good c.m ≡ true →
      (is_jump x.v p.m.stat p.m.icode && cond (set p.m.cnd) (x.s.tv && pc_is (Name name.M_valE)) (pc_is (Name name.M_valA)))
      || ((is_good c.m && ret_at x.v x.image (in_m c)) && pc_is (Name name.m_valM)) ≡ true → RightPc x.v x.s p f c
  at_m d e m h =
      elim (or_cases (is_jump x.v p.m.stat p.m.icode && cond (set p.m.cnd) (x.s.tv && pc_is (Name name.M_valE)) (pc_is (Name name.M_valA)))
      ((is_good c.m && ret_at x.v x.image (in_m c)) && pc_is (Name name.m_valM)) h) [
        | inl j ↦
            let j1 = and_parts (is_jump x.v p.m.stat p.m.icode) (cond (set p.m.cnd) (x.s.tv && pc_is (Name name.M_valE)) (pc_is (Name name.M_valA))) j in
            let j2 = and_parts (p.m.stat == 1) (next_is_branch (row x.v p.m.icode).next) j1.0 in
            by (set p.m.cnd) refl (eqb-true p.m.stat 1 j2.0) j2.1 j1.1
        | inr r ↦
            let r1 = and_parts (is_good c.m && ret_at x.v x.image (in_m c)) (pc_is (Name name.m_valM)) r in
            ret_m d e m (loads_in c.m (in_m c) p.m.icode (λ g. (i.good_m g).icode) r1.0) (pick (Name name.m_valM) r1.1)
      ]
    where
      by : (z : Bool) → set p.m.cnd ≡ z → p.m.stat ≡ 1 → next_is_branch (row x.v p.m.icode).next ≡ true →
          cond (set p.m.cnd) (x.s.tv && pc_is (Name name.M_valE)) (pc_is (Name name.M_valA)) ≡ true → RightPc x.v x.s p f c
      by true z s br g =
          let w = and_parts x.s.tv (pc_is (Name name.M_valE)) (sym (ap (λ y. cond y (x.s.tv && pc_is (Name name.M_valE)) (pc_is (Name name.M_valA))) z) ∙ g) in
          taken_m d e m s br z w.0 (pick (Name name.M_valE) w.1 ∙ st.M_valE)
      by false z s br g =
          fell_m d e m s br z (pick (Name name.M_valA) (sym (ap (λ y. cond y (x.s.tv && pc_is (Name name.M_valE)) (pc_is (Name name.M_valA))) z) ∙ g) ∙ st.M_valA)

  at_w : is_good c.d ≡ false → is_good c.e ≡ false → is_good c.m ≡ false → (is_good c.w && ret_at x.v x.image (in_w c)) && pc_is (Name name.W_valM) ≡ true → RightPc x.v x.s p f c
  at_w d e m h =
      let h1 = and_parts (is_good c.w && ret_at x.v x.image (in_w c)) (pc_is (Name name.W_valM)) h in
      ret_w d e m (and_parts (is_good c.w) (ret_at x.v x.image (in_w c)) h1.0).0 (loads_in c.w (in_w c) p.w.icode (λ g. (i.good_w g).icode) h1.0) (pick (Name name.W_valM) h1.1 ∙ st.W_valM)

  abbrev after_e : Bool
  after_e = is_jump x.v p.e.stat p.e.icode && pc_is (cond (set (f name.e_Cnd)) (Name name.E_valC) (Name name.E_valA))

  abbrev after_m : Bool
  after_m =
      (is_jump x.v p.m.stat p.m.icode && cond (set p.m.cnd) (x.s.tv && pc_is (Name name.M_valE)) (pc_is (Name name.M_valA)))
      || ((is_good c.m && ret_at x.v x.image (in_m c)) && pc_is (Name name.m_valM))

  abbrev after_w : Bool
  after_w = (is_good c.w && ret_at x.v x.image (in_w c)) && pc_is (Name name.W_valM)

  right_by : (d e m : Bool) → is_good c.d ≡ d → is_good c.e ≡ e → is_good c.m ≡ m → cond d false (cond e after_e (cond m after_m after_w)) ≡ true → RightPc x.v x.s p f c
  right_by true e m hd he hm h = cc
  right_by false true m hd he hm h = at_e hd he h
  right_by false false true hd he hm h = at_m hd he hm h
  right_by false false false hd he hm h = at_w hd he hm h

  pub good_fetch : fetch_good x.v x.s (fields_at x c p f l) (run_flow x c) (requested_controls f) (real_assignment f) cv ≡ true → GoodFetch x.v x.s p f c (run_flow x c)
  unfolding fields_at run_flow
  good_fetch h =
      let h1 = and_parts (not (youngest_stops (run_flow x c))) ((pc_is (Name name.F_predPC) && path (run_flow x c)) || cond (is_good c.d) false (cond (is_good c.e) after_e (cond (is_good c.m) after_m after_w))) h in
      record {
        goes_on = not-true (youngest_stops (run_flow x c)) h1.0;
        right = elim (or_cases (pc_is (Name name.F_predPC) && path (run_flow x c)) (cond (is_good c.d) false (cond (is_good c.e) after_e (cond (is_good c.m) after_m after_w))) h1.1) [
          | inl z ↦
              let z1 = and_parts (pc_is (Name name.F_predPC)) (path (run_flow x c)) z in
              inl (pick (Name name.F_predPC) z1.0 ∙ st.F_predPC, z1.1)
          | inr z ↦ inr (right_by (is_good c.d) (is_good c.e) (is_good c.m) refl refl refl z)
        ];
      }

  same_stage_flow : (good : Bool) (a b : StageFlow) → (good ≡ true → a ≡ b) → fetched_flow good a ≡ fetched_flow good b
  same_stage_flow true a b h = ap (fetched_flow true) (h refl)
  same_stage_flow false a b h = refl

  pub motion_facts : (q : AllAsked x c p f l (requested_controls f) cv) →
      (fetch_good x.v x.s (fields_at x c p f l) (run_flow x c) (requested_controls f) (real_assignment f) cv ≡ true →
      fetched_at x.v x.s (fields_at x c p f l) (run_flow x c) (requested_controls f) (real_assignment f) cv ≡ run_stage_flow x Good (in_f c)) →
      MotionFacts x.v x.s p f c (run_flow x c) (fetch_good x.v x.s (fields_at x c p f l) (run_flow x c) (requested_controls f) (real_assignment f) cv) (run_stage_flow x Good (in_f c))
  motion_facts q same = record {
    fetch = good_fetch;
    apart = q 23 (omega arith) (omega arith);
    kept = q 24 (omega arith) (omega arith);
    next =
        subst (λ z. next_is_right x.s.je x.s.rm (requested_controls f) (fetch_good x.v x.s (fields_at x c p f l) (run_flow x c) (requested_controls f) (real_assignment f) cv) (run_flow x c) (moved_flow (requested_controls f) z (run_flow x c)) ≡ true)
        (same_stage_flow (fetch_good x.v x.s (fields_at x c p f l) (run_flow x c) (requested_controls f) (real_assignment f) cv) _ _ same) (q 25 (omega arith) (omega arith));
    leaves = q 26 (omega arith) (omega arith);
    enters = q 27 (omega arith) (omega arith);
  }
