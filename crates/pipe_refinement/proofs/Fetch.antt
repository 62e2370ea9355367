-- What a good fetch is: the next instruction of the run, and all its words.
use Rattle.std.proofs.Common.{◌≡◌, ℕ, ◌+◌, ◌<◌, ◌≤◌, inl, inr, Bool, true, false, cond, List, refl, sym, ap, ◌∙◌, subst, arith}
use Rattle.std.proofs.lemmas.Bool.{or_right}
use Rattle.y86_base.specs.Stat.{stat_number}
use Rattle.y86_base.specs.declared.parts.Stat.TheVariants.{Aok}
use Rattle.y86_base.specs.declared.parts.Variant.{Variant}
use Rattle.y86_isa.specs.Blocks.{behind, condition, constant_at, fetch_status, fetched, field_a, field_b, next_address, reading}
use Rattle.y86_isa.specs.RowTests.{select_a_is_val_p, next_is_branch, next_is_val_m}
use Rattle.y86_isa.specs.Run.{IsImage}
use Rattle.yis_pure_runs.specs.Near.{NearPure}
use Rattle.y86_isa.specs.Table.{row}
use Rattle.y86_isa.specs.declared.columns.NextPcColumn.TheVariants.{Branch, Fall, Itself, Loaded, Target}
use Rattle.y86_isa.specs.declared.columns.NextPcColumn.{NextPcColumn}
use Rattle.y86_isa.specs.declared.fetch.Fetched.{Fetched}
use Rattle.y86_isa.specs.declared.machine.Rec.{Rec}
use Rattle.yis_pure_runs.proofs.Near.{fetched_near}
use Rattle.yis_run_laws.specs.Instructions.{RunReaches, state_before, work_at, instruction_row, stops_at}
use Rattle.yis_run_laws.proofs.Walk.{fetches, follows, live_aok, live_next, pc_next}
use Rattle.dp_signals.specs.PipeCycle.{loaded_d}
use Rattle.dp_signals.specs.PipeNames as name
use Rattle.dp_signals.specs.PipeRows.{PipeHardware, PipeHolds}
use Rattle.y86_base.specs.Words.{set}
use Rattle.dp_signals.specs.declared.pipe_state.PipeState.{PipeState}
use Rattle.dp_signals.proofs.Bits.{set_bit}
use Rattle.pipe_refinement.specs.Facts.{FetchFacts, GoodFetch, RightPc, fell_m, jump_e, ret_m, ret_w, taken_m}
use Rattle.pipe_refinement.specs.Invariant.{RunContext, HoldsInD, CouplingInvariant, run_flow}
use Rattle.pipe_refinement.specs.Kinds.{Schedule, count, in_d, in_e, in_f, in_m, in_w, is_good}
use Rattle.pipe_motion.specs.Flow.{youngest_stops}
use Rattle.pipe_refinement.proofs.Views.{Seen, at_d, at_e, at_m, at_none, at_w, seen, youngest}

-- what is fetched, by the reading and its row
pub record Reads (v : Variant) (mem : List ℕ) (pc : ℕ) (g : Fetched) : Type 0 where
  pub error : g.error ≡ (reading v mem pc).error
  pub icode : g.icode ≡ (reading v mem pc).icode
  pub ifun : g.ifun ≡ (reading v mem pc).ifun
  pub r_a : g.r_a ≡ field_a mem pc (row v (reading v mem pc).icode).has_byte
  pub r_b : g.r_b ≡ field_b mem pc (row v (reading v mem pc).icode).has_byte
  pub val_c : g.val_c ≡ constant_at mem pc (row v (reading v mem pc).icode).has_byte (row v (reading v mem pc).icode).has_const
  pub val_p : g.val_p ≡ behind pc (row v (reading v mem pc).icode).has_byte (row v (reading v mem pc).icode).has_const

pub reads : (v : Variant) (mem : List ℕ) (pc : ℕ) → Reads v mem pc (fetched v mem pc)
unfolding fetched
reads v mem pc = record { error = refl; icode = refl; ifun = refl; r_a = refl; r_b = refl; val_c = refl; val_p = refl }

-- O1 to O4: D loads what is fetched at f_pc
pub record LoadsFetched (p : PipeState) (f : ℕ → ℕ) (g : Fetched) : Type 0 where
  pub error : set (f name.imem_error) ≡ g.error
  pub icode : f name.f_icode ≡ g.icode
  pub read_icode : f name.imem_icode ≡ g.icode
  pub read_ifun : f name.imem_ifun ≡ g.ifun
  pub ifun : f name.f_ifun ≡ g.ifun
  pub stat : f name.f_stat ≡ stat_number (fetch_status g.error g.icode)
  pub r_a : (loaded_d p f).r_a ≡ g.r_a
  pub r_b : (loaded_d p f).r_b ≡ g.r_b
  pub val_c : f name.f_valC ≡ g.val_c
  pub val_p : f name.f_valP ≡ g.val_p

pub loads_fetched : (x : RunContext) (p : PipeState) (f : ℕ → ℕ) → PipeHardware x.v p f → FetchFacts x.v x.s f → LoadsFetched p f (fetched x.v p.mem (f name.f_pc))
loads_fetched x p f b q =
    let g = reads x.v p.mem (f name.f_pc) in
    let icode : f name.imem_icode ≡ (fetched x.v p.mem (f name.f_pc)).icode = b.imem_icode ∙ sym g.icode in
    let error : set (f name.imem_error) ≡ (fetched x.v p.mem (f name.f_pc)).error = ap set b.imem_error ∙ set_bit _ ∙ sym g.error in
    let byte : set (f name.need_regids) ≡ (row x.v (reading x.v p.mem (f name.f_pc)).icode).has_byte = q.regids ∙ ap (λ i. (row x.v i).has_byte) b.imem_icode in
    let constant : set (f name.need_valC) ≡ (row x.v (reading x.v p.mem (f name.f_pc)).icode).has_const = q.constant ∙ ap (λ i. (row x.v i).has_const) b.imem_icode in
    record {
      error = error;
      icode = q.icode ∙ icode;
      read_icode = icode;
      read_ifun = b.imem_ifun ∙ sym g.ifun;
      ifun = q.ifun ∙ b.imem_ifun ∙ sym g.ifun;
      stat = q.stat ∙ rw (error, icode) refl;
      r_a = ap (field_a p.mem (f name.f_pc)) byte ∙ sym g.r_a;
      r_b = ap (field_b p.mem (f name.f_pc)) byte ∙ sym g.r_b;
      val_c = b.f_valC ∙ rw (byte, constant) refl ∙ sym g.val_c;
      val_p = b.f_valP ∙ rw (byte, constant) refl ∙ sym g.val_p;
    }

branch_pc : (n : NextPcColumn) (pc val_p val_c val_m : ℕ) (cnd : Bool) → next_is_branch n ≡ true → next_address n pc val_p val_c val_m cnd ≡ cond cnd val_c val_p
branch_pc Itself pc val_p val_c val_m cnd h = cc
branch_pc Fall pc val_p val_c val_m cnd h = cc
branch_pc Branch pc val_p val_c val_m cnd h = refl
branch_pc Target pc val_p val_c val_m cnd h = cc
branch_pc Loaded pc val_p val_c val_m cnd h = cc

loaded_pc : (n : NextPcColumn) (pc val_p val_c val_m : ℕ) (cnd : Bool) → next_is_val_m n ≡ true → next_address n pc val_p val_c val_m cnd ≡ val_m
loaded_pc Itself pc val_p val_c val_m cnd h = cc
loaded_pc Fall pc val_p val_c val_m cnd h = cc
loaded_pc Branch pc val_p val_c val_m cnd h = cc
loaded_pc Target pc val_p val_c val_m cnd h = cc
loaded_pc Loaded pc val_p val_c val_m cnd h = refl

-- a jump's next PC, and a ret's
pub jump_next : (x : RunContext) (i : ℕ) → next_is_branch (instruction_row x.v x.image i).next ≡ true → (work_at x.v x.image i).next_pc ≡ cond (work_at x.v x.image i).cnd (work_at x.v x.image i).val_c (work_at x.v x.image i).val_p
jump_next x i h = (follows x.v x.image i).next_pc ∙ branch_pc _ _ _ _ _ _ h

pub ret_next : (x : RunContext) (i : ℕ) → next_is_val_m (instruction_row x.v x.image i).next ≡ true → (work_at x.v x.image i).next_pc ≡ (work_at x.v x.image i).val_m
ret_next x i h = (follows x.v x.image i).next_pc ∙ loaded_pc _ _ _ _ _ _ h

before_near : (x : RunContext) (n i j : ℕ) → IsImage x.image → NearPure x.v x.image n → i < n → j ≤ i → i ≤ j + 3 → (state_before x.v x.image i).stat ≡ Aok →
    fetched x.v (state_before x.v x.image j).mem (state_before x.v x.image i).pc ≡ fetched x.v (state_before x.v x.image i).mem (state_before x.v x.image i).pc
unfolding state_before
before_near x n i j image pure lt le near aok = fetched_near x.v x.image n i j image pure lt le near aok

pub at_most_one : (b : Bool) → count b ≤ 1
at_most_one true = omega arith
at_most_one false = omega arith

module _ (x : RunContext) (n t : ℕ) (c : Schedule) (p : PipeState) (f : ℕ → ℕ) (rs : List Rec)
    (image : IsImage x.image) (pure : NearPure x.v x.image n) (lt : t < n)
    (i : CouplingInvariant x t c p rs) (st : PipeHolds p f) (b : PipeHardware x.v p f)
    (valm : is_good c.m ≡ true → f name.m_valM ≡ (work_at x.v x.image (in_m c)).val_m)
    (q : FetchFacts x.v x.s f) (gf : GoodFetch x.v x.s p f c (run_flow x c)) where
  y : Seen x c (run_flow x c)
  y = seen x c

  live_at : (j : ℕ) → in_f c ≡ j + 1 → RunReaches x.v x.image j
  live_at j e = i.live j (omega arith)

  -- the youngest good instruction doesn't stop
  on_d : is_good c.d ≡ true → stops_at x.v x.image (in_d c) ≡ false
  unfolding youngest_stops
  on_d d = sym (y.stops_d d) ∙ sym (rw (y.good_d, d) refl) ∙ gf.goes_on

  on_e : is_good c.d ≡ false → is_good c.e ≡ true → stops_at x.v x.image (in_e c) ≡ false
  unfolding youngest_stops
  on_e d e = sym (y.stops_e e) ∙ sym (rw (y.good_d, d, y.good_e, e) refl) ∙ gf.goes_on

  on_m : is_good c.d ≡ false → is_good c.e ≡ false → is_good c.m ≡ true → stops_at x.v x.image (in_m c) ≡ false
  unfolding youngest_stops
  on_m d e m = sym (y.stops_m m) ∙ sym (rw (y.good_d, d, y.good_e, e, y.good_m, m) refl) ∙ gf.goes_on

  on_w : is_good c.d ≡ false → is_good c.e ≡ false → is_good c.m ≡ false → is_good c.w ≡ true → stops_at x.v x.image (in_w c) ≡ false
  unfolding youngest_stops
  on_w d e m w = sym (y.stops_w w) ∙ sym (rw (y.good_d, d, y.good_e, e, y.good_m, m) refl) ∙ gf.goes_on

  pub fetch_live : RunReaches x.v x.image (in_f c)
  fetch_live = elim (youngest c) [
    | at_d d e ↦ subst (RunReaches x.v x.image) (sym e) (live_next x.v x.image (in_d c) (live_at _ e) (on_d d))
    | at_e d g e ↦ subst (RunReaches x.v x.image) (sym e) (live_next x.v x.image (in_e c) (live_at _ e) (on_e d g))
    | at_m d g m e ↦ subst (RunReaches x.v x.image) (sym e) (live_next x.v x.image (in_m c) (live_at _ e) (on_m d g m))
    | at_w d g m w e ↦ subst (RunReaches x.v x.image) (sym e) (live_next x.v x.image (in_w c) (live_at _ e) (on_w d g m w))
    | at_none d g m w e ↦ subst (RunReaches x.v x.image) (sym e) i.last_live
  ]

  cnd_e : is_good c.e ≡ true → set (f name.e_Cnd) ≡ (work_at x.v x.image (in_e c)).cnd
  cnd_e g = ap set b.e_Cnd ∙ set_bit _ ∙ rw (ap (λ k. condition k p.flags) (i.good_e g).ifun, i.flags) refl ∙ sym (follows x.v x.image (in_e c)).cnd

  -- after the instruction at j, which doesn't stop
  next_behind : (j : ℕ) → in_f c ≡ j + 1 → stops_at x.v x.image j ≡ false → (work_at x.v x.image j).next_pc ≡ (state_before x.v x.image (in_f c)).pc
  next_behind j e on = sym (pc_next x.v x.image j (live_at j e) on) ∙ ap (λ k. (state_before x.v x.image k).pc) (sym e)

  from_jump_e : is_good c.d ≡ false → is_good c.e ≡ true → next_is_branch (row x.v p.e.icode).next ≡ true →
      f name.f_pc ≡ cond (set (f name.e_Cnd)) p.e.val_c p.e.val_a → f name.f_pc ≡ (state_before x.v x.image (in_f c)).pc
  from_jump_e d g j e =
      let h = i.good_e g in
      let branch : next_is_branch (instruction_row x.v x.image (in_e c)).next ≡ true = sym (ap (λ k. next_is_branch (row x.v k).next) h.icode) ∙ j in
      e ∙ rw (cnd_e g, h.val_c, h.val_p (or_right _ _ branch)) refl ∙ sym (jump_next x (in_e c) branch)
      ∙ next_behind (in_e c) (omega (arith, ap count d, ap count g)) (on_e d g)

  from_taken_m : is_good c.d ≡ false → is_good c.e ≡ false → is_good c.m ≡ true → next_is_branch (row x.v p.m.icode).next ≡ true →
      set p.m.cnd ≡ true → x.s.tv ≡ true → f name.f_pc ≡ p.m.val_e → f name.f_pc ≡ (state_before x.v x.image (in_f c)).pc
  from_taken_m d g m j taken tv e =
      let h = i.good_m m in
      let branch : next_is_branch (instruction_row x.v x.image (in_m c)).next ≡ true = sym (ap (λ k. next_is_branch (row x.v k).next) h.icode) ∙ j in
      let cnd : (work_at x.v x.image (in_m c)).cnd ≡ true = sym (set_bit _) ∙ sym (ap set h.cnd) ∙ taken in
      e ∙ h.target tv branch ∙ sym (rw cnd refl) ∙ sym (jump_next x (in_m c) branch)
      ∙ next_behind (in_m c) (omega (arith, ap count d, ap count g, ap count m)) (on_m d g m)

  from_fell_m : is_good c.d ≡ false → is_good c.e ≡ false → is_good c.m ≡ true → next_is_branch (row x.v p.m.icode).next ≡ true →
      set p.m.cnd ≡ false → f name.f_pc ≡ p.m.val_a → f name.f_pc ≡ (state_before x.v x.image (in_f c)).pc
  from_fell_m d g m j fell e =
      let h = i.good_m m in
      let branch : next_is_branch (instruction_row x.v x.image (in_m c)).next ≡ true = sym (ap (λ k. next_is_branch (row x.v k).next) h.icode) ∙ j in
      let carries : select_a_is_val_p (instruction_row x.v x.image (in_m c)) ≡ true = or_right _ _ branch in
      let cnd : (work_at x.v x.image (in_m c)).cnd ≡ false = sym (set_bit _) ∙ sym (ap set h.cnd) ∙ fell in
      let a : p.m.val_a ≡ (work_at x.v x.image (in_m c)).val_p = h.val_a (or_right _ _ carries) ∙ rw carries refl in
      e ∙ a ∙ sym (rw cnd refl) ∙ sym (jump_next x (in_m c) branch)
      ∙ next_behind (in_m c) (omega (arith, ap count d, ap count g, ap count m)) (on_m d g m)

  from_ret_m : is_good c.d ≡ false → is_good c.e ≡ false → is_good c.m ≡ true → next_is_val_m (row x.v p.m.icode).next ≡ true →
      f name.f_pc ≡ f name.m_valM → f name.f_pc ≡ (state_before x.v x.image (in_f c)).pc
  from_ret_m d g m j e =
      let loaded : next_is_val_m (instruction_row x.v x.image (in_m c)).next ≡ true = sym (ap (λ k. next_is_val_m (row x.v k).next) (i.good_m m).icode) ∙ j in
      e ∙ valm m ∙ sym (ret_next x (in_m c) loaded)
      ∙ next_behind (in_m c) (omega (arith, ap count d, ap count g, ap count m)) (on_m d g m)

  from_ret_w : is_good c.d ≡ false → is_good c.e ≡ false → is_good c.m ≡ false → is_good c.w ≡ true → next_is_val_m (row x.v p.w.icode).next ≡ true →
      f name.f_pc ≡ p.w.val_m → f name.f_pc ≡ (state_before x.v x.image (in_f c)).pc
  from_ret_w d g m w j e =
      let h = i.good_w w in
      let loaded : next_is_val_m (instruction_row x.v x.image (in_w c)).next ≡ true = sym (ap (λ k. next_is_val_m (row x.v k).next) h.icode) ∙ j in
      e ∙ h.val_m ∙ sym (ret_next x (in_w c) loaded)
      ∙ next_behind (in_w c) (omega (arith, ap count d, ap count g, ap count m, ap count w)) (on_w d g m w)

  from_right : RightPc x.v x.s p f c → f name.f_pc ≡ (state_before x.v x.image (in_f c)).pc
  from_right r = elim r [
    | jump_e d g s j e ↦ from_jump_e d g j e
    | taken_m d g m s j taken tv e ↦ from_taken_m d g m j taken tv e
    | fell_m d g m s j fell e ↦ from_fell_m d g m j fell e
    | ret_m d g m j e ↦ from_ret_m d g m j e
    | ret_w d g m w j e ↦ from_ret_w d g m w j e
  ]

  pub fetch_pc : f name.f_pc ≡ (state_before x.v x.image (in_f c)).pc
  fetch_pc = elim gf.right [ inl h ↦ h.0 ∙ i.path_holds h.1 | inr r ↦ from_right r ]

  early : in_m c ≤ in_f c
  early = omega arith

  -- the instructions that haven't stored yet are in D, E and M
  near : in_f c ≤ in_m c + 3
  near = omega (arith, at_most_one (is_good c.m), at_most_one (is_good c.e), at_most_one (is_good c.d))

  -- the one use of NearPure
  pub fetch_same : fetched x.v p.mem (f name.f_pc) ≡ fetched x.v (state_before x.v x.image (in_f c)).mem (state_before x.v x.image (in_f c)).pc
  fetch_same = rw (i.mem, fetch_pc) (before_near x n (in_f c) (in_m c) image pure (omega (arith, i.few)) early near (live_aok x.v x.image (in_f c) fetch_live))

  -- what D loads is instruction in_f
  pub fetch_words : HoldsInD x (in_f c) (loaded_d p f)
  fetch_words =
      let l = loads_fetched x p f b q in
      let w = fetches x.v x.image (in_f c) in
      let e = fetch_same in
      record {
        trail = record { pc = fetch_pc; ifun = l.ifun ∙ ap (λ g. g.ifun) e ∙ sym w.ifun };
        stat = l.stat ∙ ap (λ g. stat_number (fetch_status g.error g.icode)) e ∙ sym (ap stat_number w.fetch_stat);
        icode = l.icode ∙ ap (λ g. g.icode) e ∙ sym w.icode;
        ifun = l.ifun ∙ ap (λ g. g.ifun) e ∙ sym w.ifun;
        r_a = l.r_a ∙ ap (λ g. g.r_a) e ∙ sym w.r_a;
        r_b = l.r_b ∙ ap (λ g. g.r_b) e ∙ sym w.r_b;
        val_c = l.val_c ∙ ap (λ g. g.val_c) e ∙ sym w.val_c;
        val_p = l.val_p ∙ ap (λ g. g.val_p) e ∙ sym w.val_p;
      }
