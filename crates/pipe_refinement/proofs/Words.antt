-- The words that E, M and W load are those of their instruction.
use Rattle.std.proofs.Common.{◌≡◌, ◌≢◌, ℕ, ◌+◌, ◌^◌, ◌<◌, Bool, true, false, Option, ◌&&◌, ◌||◌, ◌==◌, cond, List, refl, sym, ap, ◌∙◌, ne_of_lt, arith}
use Rattle.std.proofs.lemmas.Bool.{eq-eqb, eqb-true, or_left, or_right}
use Rattle.std.proofs.Math.Nat.{mod-eq_of_lt}
use Rattle.y86_base.specs.Registers.{register}
use Rattle.y86_base.specs.declared.parts.Flags.{Flags}
use Rattle.y86_isa.specs.Blocks.{alu_value, condition}
use Rattle.y86_isa.specs.RowTests.{select_a_is_val_p, next_is_branch, address_is_val_a, stores_val_a}
use Rattle.y86_isa.specs.Run.{IsImage}
use Rattle.y86_isa.specs.Table.{row}
use Rattle.y86_isa.specs.declared.columns.Row.{Row}
use Rattle.y86_isa.specs.declared.machine.Rec.{Rec}
use Rattle.y86_isa.specs.declared.machine.Store.{Store}
use Rattle.y86_isa.specs.declared.work.Work.{Work}
use Rattle.y86_isa.proofs.RowsAgree.{sources_agree}
use Rattle.y86_isa.proofs.Words.{FitsFields-fetched}
use Rattle.yis_run_laws.specs.Instructions.{RunReaches, state_before, work_at, instruction_row}
use Rattle.yis_run_laws.proofs.ReadBack.{read_after_step, source_a_lt, source_b_lt}
use Rattle.yis_run_laws.proofs.Statuses.{stat_one}
use Rattle.yis_run_laws.proofs.Walk.{aok-from_branch, fetches, flags_next, follows, image_before, source_a}
use Rattle.dp_signals.specs.PipeCycle.{loaded_e, loaded_m, loaded_w, next_flags, store_of, with_flags, with_store}
use Rattle.dp_signals.specs.PipeNames as name
use Rattle.dp_signals.specs.PipeRows.{PipeHardware}
use Rattle.dp_signals.specs.Values.{bit}
use Rattle.dp_signals.specs.declared.pipe_state.PipeState.{PipeState}
use Rattle.dp_signals.specs.declared.pipe_state.Trail.{Trail}
use Rattle.pipe_refinement.specs.Facts.{AlwaysFacts, DecodeFacts, ExecuteFacts, MemoryFacts, store_word_comes_late, needs_select_a, leaves_d}
use Rattle.pipe_refinement.specs.Invariant.{RunContext, HoldsInD, HoldsInE, HoldsInM, HoldsInW, CouplingInvariant, TrailOf, select_a}
use Rattle.pipe_refinement.specs.Kinds.{Schedule, Bubbled, Good, StageKind, Wrong, count, in_d, in_e, in_m, is_good, kind_is_live, is_wrong}
use Rattle.pipe_refinement.proofs.Older.{m_goes}
use Rattle.pipe_refinement.proofs.Right.{one, right_is}
use Rattle.pipe_refinement.proofs.Values.{dst_e_is, flags_are, m_stat_is, m_valM_is, store_is, val_e_is}

three : (a b c : Bool) → (a || b || c) ≡ true → c ≡ false → a || b ≡ true
three a true c h e = or_right a true refl
three true false c h e = refl
three false false true h e = cc
three false false false h e = cc

-- a conjunction of four
pub and_four : (a b c d : Bool) → a && (b && (c && d)) ≡ true → (a ≡ true) × (b ≡ true) × (c ≡ true) × (d ≡ true)
and_four true true true true h = (refl, refl, refl, refl)
and_four false b c d h = cc
and_four true false c d h = cc
and_four true true false d h = cc
and_four true true true false h = cc

-- ---- what rides along

pub live_good : (k : StageKind) → is_good k ≡ true → kind_is_live k ≡ true
live_good Bubbled h = cc
live_good Wrong h = cc
live_good Good h = refl

trail_flags : (x : RunContext) (i : ℕ) (live : Bool) (a : Trail) (flags : Flags) → TrailOf x i a → TrailOf x i (with_flags live a flags)
trail_flags x i true a flags h = record { pc = h.pc; ifun = h.ifun }
trail_flags x i false a flags h = h

flags_set : (live : Bool) (a : Trail) (flags : Flags) → live ≡ true → (with_flags live a flags).flags ≡ flags
flags_set true a flags e = refl
flags_set false a flags e = cc

trail_store : (x : RunContext) (i : ℕ) (live : Bool) (a : Trail) (store : Option Store) → TrailOf x i a → TrailOf x i (with_store live a store)
trail_store x i true a store h = record { pc = h.pc; ifun = h.ifun }
trail_store x i false a store h = h

flags_kept : (live : Bool) (a : Trail) (store : Option Store) → (with_store live a store).flags ≡ a.flags
flags_kept true a store = refl
flags_kept false a store = refl

store_set : (live : Bool) (a : Trail) (store : Option Store) → live ≡ true → (with_store live a store).store ≡ store
store_set true a store e = refl
store_set false a store e = cc

-- ---- E, where D leaves
module _ (x : RunContext) (t : ℕ) (c : Schedule) (p : PipeState) (f : ℕ → ℕ) (rs : List Rec) (image : IsImage x.image)
    (i : CouplingInvariant x t c p rs) (b : PipeHardware x.v p f) (a : AlwaysFacts x.v p f c) (ex : ExecuteFacts x.v x.s p f c) (me : MemoryFacts x.v p f c)
    (de : DecodeFacts x.v x.s p f c) (d : is_good c.d ≡ true) (l : leaves_d f (is_good c.d) ≡ true) where
  abbrev w : Work
  w = work_at x.v x.image (in_d c)

  h : HoldsInD x (in_d c) p.d
  h = i.good_d d

  row_d : row x.v p.d.icode ≡ instruction_row x.v x.image (in_d c)
  row_d = ap (row x.v) h.icode

  src_a_is : f name.d_srcA ≡ w.src_a
  src_a_is = de.src_a ∙ rw (row_d, h.r_a, h.r_b) refl ∙ sym (follows x.v x.image (in_d c)).src_a

  src_b_is : f name.d_srcB ≡ w.src_b
  src_b_is = de.src_b ∙ rw (row_d, h.r_a, h.r_b) refl ∙ sym (follows x.v x.image (in_d c)).src_b

  dst_e_raw : f name.d_dstE ≡ w.raw_dst_e
  dst_e_raw = de.dst_e ∙ rw (row_d, h.r_a, h.r_b) refl ∙ sym (follows x.v x.image (in_d c)).raw_dst_e

  pub dst_m_raw : f name.d_dstM ≡ (work_at x.v x.image (in_d c)).dst_m
  dst_m_raw = de.dst_m ∙ rw (row_d, h.r_a, h.r_b) refl ∙ sym (follows x.v x.image (in_d c)).dst_m

  val_b_is : w.src_b ≢ 15 → f name.d_valB ≡ w.val_b
  val_b_is ne =
      let far : f name.d_srcB ≢ 15 = λ e. ne (sym src_b_is ∙ e) in
      let lt : f name.d_srcB < 15 = rw src_b_is (source_b_lt x.v x.image (in_d c) image ne) in
      de.val_b l far ∙ right_is x t c p f rs image i b a ex me d (f name.d_srcB) (f name.d_rvalB) lt b.d_rvalB (λ e. de.late_b l far e)
      ∙ ap (register (state_before x.v x.image (in_d c)).regs) src_b_is ∙ sym (follows x.v x.image (in_d c)).val_b

  -- unless E loads this register, d_valA is the instruction's valA
  val_a_is : w.src_a ≢ 15 → (is_good c.e ≡ true → p.e.dst_m ≢ f name.d_srcA) → f name.d_valA ≡ w.val_a
  val_a_is ne apart =
      let far : f name.d_srcA ≢ 15 = λ e. ne (sym src_a_is ∙ e) in
      let lt : f name.d_srcA < 15 = rw src_a_is (source_a_lt x.v x.image (in_d c) image ne) in
      de.val_a l far apart ∙ right_is x t c p f rs image i b a ex me d (f name.d_srcA) (f name.d_rvalA) lt b.d_rvalA apart
      ∙ ap (register (state_before x.v x.image (in_d c)).regs) src_a_is ∙ sym (follows x.v x.image (in_d c)).val_a

  -- valA of the next E may still be on its way (free) if the instruction in E, which moves to M, loads that register
  pub words_e : (free : Bool) → (free ≡ false → is_good c.e ≡ true → p.e.dst_m ≡ f name.d_srcA → x.s.lf && stores_val_a (row x.v p.d.icode).memory ≡ true → ⊥) →
      HoldsInE x (in_d c) free (loaded_e p f)
  words_e free k = record {
    trail = h.trail;
    stat = h.stat;
    icode = h.icode;
    ifun = h.ifun;
    val_c = h.val_c;
    src_a = src_a_is;
    src_b = src_b_is;
    dst_e = dst_e_raw;
    dst_m = dst_m_raw;
    val_a = λ ne fr. val_a_is ne (λ e q. k fr e q (de.late_a l (λ z. ne (sym src_a_is ∙ z)) e q));
    val_b = val_b_is;
    val_p = λ e. de.val_p l (rw row_d e) ∙ h.val_p;
  }

-- ---- M, where E is good
module _ (x : RunContext) (t : ℕ) (c : Schedule) (p : PipeState) (f : ℕ → ℕ) (rs : List Rec) (image : IsImage x.image)
    (i : CouplingInvariant x t c p rs) (b : PipeHardware x.v p f) (a : AlwaysFacts x.v p f c) (ex : ExecuteFacts x.v x.s p f c) (me : MemoryFacts x.v p f c)
    (e : is_good c.e ≡ true) where
  abbrev we : Work
  we = work_at x.v x.image (in_e c)

  abbrev re : Row
  re = instruction_row x.v x.image (in_e c)

  he : HoldsInE x (in_e c) (store_word_comes_late x.s x.v p (is_good c.m)) p.e
  he = i.good_e e

  row_e : row x.v p.e.icode ≡ instruction_row x.v x.image (in_e c)
  row_e = ap (row x.v) he.icode

  live_e : RunReaches x.v x.image (in_e c)
  live_e = i.live (in_e c) (omega (arith, ap count e))

  -- with lf: the word that M loads now is valA of the store in E
  loaded_now : stores_val_a re.memory ≡ true → is_good c.m ≡ true → p.m.dst_m ≡ p.e.src_a → f name.m_valM ≡ we.val_a
  loaded_now s m q =
      let hm = i.good_m m in
      let live_m : RunReaches x.v x.image (in_m c) = i.live (in_m c) (omega (arith, ap count m)) in
      let lt : we.src_a < 15 = source_a x.v x.image (in_e c) image ((sources_agree x.v we.icode).carried (or_left _ _ s)) in
      let same : (we.src_a == (work_at x.v x.image (in_m c)).dst_m) ≡ true = eq-eqb _ _ (sym he.src_a ∙ sym q ∙ hm.dst_m) in
      let after : register (state_before x.v x.image (in_m c + 1)).regs we.src_a ≡ (work_at x.v x.image (in_m c)).val_m =
      read_after_step x.v x.image (in_m c) we.src_a image live_m (m_goes x c i.legal (or_right _ _ e) m) lt ∙ rw same refl in
      m_valM_is x t c p f rs image i b a.access me.address m ∙ sym after ∙ ap (λ j. register (state_before x.v x.image j).regs we.src_a) (sym (one c.m (in_m c) m)) ∙ sym (follows x.v x.image (in_e c)).val_a

  val_a_kept : needs_select_a re ≡ true → f name.e_valA ≡ select_a re we
  val_a_kept k = by (store_word_comes_late x.s x.v p (is_good c.m)) refl
    where
      stay : store_word_comes_late x.s x.v p (is_good c.m) ≡ false → (q : Bool) → select_a_is_val_p re ≡ q → p.e.val_a ≡ cond (select_a_is_val_p re) we.val_p we.val_a
      stay n true q = rw q (he.val_p q)
      stay n false q = rw q (he.val_a (ne_of_lt (source_a x.v x.image (in_e c) image ((sources_agree x.v we.icode).carried (three (stores_val_a re.memory) (address_is_val_a re.memory) (select_a_is_val_p re) k q)))) n)

      by : (q : Bool) → store_word_comes_late x.s x.v p (is_good c.m) ≡ q → f name.e_valA ≡ select_a re we
      by true q =
          let z = and_four _ _ _ _ q in
          let s : stores_val_a re.memory ≡ true = ap (λ r. stores_val_a r.memory) (sym row_e) ∙ z.1 in
          let no_p : select_a_is_val_p re ≡ false = (sources_agree x.v we.icode).one_carried (or_left _ _ s) in
          ex.val_a e (rw row_e k) ∙ ap (λ u. cond u (f name.m_valM) p.e.val_a) q ∙ loaded_now s z.2 (eqb-true _ _ z.3) ∙ sym (ap (λ u. cond u we.val_p we.val_a) no_p)
      by false q = ex.val_a e (rw row_e k) ∙ ap (λ u. cond u (f name.m_valM) p.e.val_a) q ∙ stay q (select_a_is_val_p re) refl

  sum_is : (n : ℕ) → n < 2 ^ 64 → alu_value 0 n 0 ≡ n
  unfolding alu_value
  sum_is n lt = let z : 0 + n ≡ n = omega arith in rw z (mod-eq_of_lt lt)

  target_is : x.s.tv ≡ true → next_is_branch re.next ≡ true → f name.e_valE ≡ we.val_c
  target_is tv br =
      let one_stat : p.e.stat ≡ 1 = he.stat ∙ stat_one _ (aok-from_branch x.v x.image (in_e c) br) in
      let q = ex.target tv e one_stat (rw row_e br) in
      let lt : we.val_c < 2 ^ 64 = rw (fetches x.v x.image (in_e c)).val_c ((FitsFields-fetched x.v (state_before x.v x.image (in_e c)).mem (state_before x.v x.image (in_e c)).pc (image_before x.v x.image (in_e c) image)).val_c) in
      b.e_valE ∙ rw (q.0, q.1, q.2) refl ∙ ap (λ n. alu_value 0 n 0) he.val_c ∙ sum_is we.val_c lt

  right_e : is_wrong c.e ≡ false
  right_e = by c.e e
    where
      by : (k : StageKind) → is_good k ≡ true → is_wrong k ≡ false
      by Bubbled g = cc
      by Wrong g = cc
      by Good g = refl

  pub words_m : HoldsInM x (in_e c) (loaded_m p f)
  words_m = record {
    trail = trail_flags x (in_e c) p.e.live p.e.trail (next_flags p f) he.trail;
    flags = flags_set p.e.live p.e.trail (next_flags p f) (i.live_e ∙ live_good c.e e) ∙ flags_are x t c p f rs image i b a.access a.flags ex e ∙ sym (flags_next x.v x.image (in_e c) live_e);
    stat = he.stat;
    icode = he.icode;
    ifun = he.ifun;
    cnd = b.e_Cnd ∙ rw (ap (λ k. condition k p.flags) he.ifun, i.flags) refl ∙ ap bit (sym (follows x.v x.image (in_e c)).cnd);
    dst_e = dst_e_is x t c p f rs image i b a.access a.flags ex e right_e;
    dst_m = he.dst_m;
    val_e = val_e_is x t c p f rs image i b a.access a.flags ex e;
    val_a = val_a_kept;
    target = target_is;
  }

-- ---- W, where M is good
module _ (x : RunContext) (t : ℕ) (c : Schedule) (p : PipeState) (f : ℕ → ℕ) (rs : List Rec) (image : IsImage x.image)
    (i : CouplingInvariant x t c p rs) (b : PipeHardware x.v p f) (a : AlwaysFacts x.v p f c) (me : MemoryFacts x.v p f c)
    (m : is_good c.m ≡ true) where
  pub words_w : HoldsInW x (in_m c) (loaded_w p f)
  words_w =
      let h = i.good_m m in
      record {
        trail = trail_store x (in_m c) p.m.live p.m.trail (store_of p f) h.trail;
        stat = m_stat_is x t c p f rs image i b a.access me.address m me.stat;
        icode = h.icode;
        flags = flags_kept p.m.live p.m.trail (store_of p f) ∙ h.flags;
        store = store_set p.m.live p.m.trail (store_of p f) (i.live_m ∙ live_good c.m m) ∙ store_is x t c p f rs image i b a.access me.address m;
        dst_e = h.dst_e;
        dst_m = h.dst_m;
        val_e = h.val_e;
        val_m = m_valM_is x t c p f rs image i b a.access me.address m;
      }
