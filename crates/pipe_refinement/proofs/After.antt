-- Registers, flags, memory and records after a cycle.
use Rattle.std.proofs.Common.{◌≡◌, ℕ, inl, inr, Bool, true, false, ◌==◌, cond, List, [], ◌∷◌, ◌++◌, length, Some, None, refl, sym, ap, ◌∙◌, arith, append-nil, length-append}
use Rattle.std.specs.Option.{option_to_list}
use Rattle.std.proofs.lemmas.Bool.{cases_Bool, false≢true, not-false}
use Rattle.y86_base.specs.Registers.{with_register}
use Rattle.y86_base.specs.Stat.{stat_of}
use Rattle.y86_isa.specs.Blocks.{stored, written_back}
use Rattle.y86_isa.specs.Machine.{is_aok, written_word}
use Rattle.y86_isa.specs.RowTests.{has_operand_a}
use Rattle.y86_isa.specs.Run.{IsImage, records}
use Rattle.y86_isa.specs.Step.{machine_after, record_of}
use Rattle.y86_isa.specs.declared.machine.Rec.{Rec}
use Rattle.yis_run_laws.specs.Instructions.{RunReaches, state_before, work_at, instruction_row, stops_at}
use Rattle.yis_run_laws.proofs.ReadBack.{no_operand_dst}
use Rattle.yis_run_laws.proofs.Statuses.{one_is, stat_is}
use Rattle.yis_run_laws.proofs.Told.{after_flags, records_next, retired_at}
use Rattle.yis_run_laws.proofs.Walk.{flags_next, mem_next, regs_next}
use Rattle.dp_signals.specs.PipeCycle.{next_flags, next_regs, record_of as record_by, retires, store_of}
use Rattle.dp_signals.specs.PipeNames as name
use Rattle.dp_signals.specs.PipeRows.{PipeHardware}
use Rattle.dp_signals.specs.declared.pipe_state.PipeState.{PipeState}
use Rattle.pipe_refinement.specs.Facts.{AlwaysFacts, ExecuteFacts, MemoryFacts, WriteFacts}
use Rattle.pipe_refinement.specs.Invariant.{RunContext, CouplingInvariant}
use Rattle.pipe_refinement.specs.Kinds.{Schedule, Bubbled, Good, StageKind, Wrong, count, in_d, in_e, in_m, in_w, is_good, kind_is_live, is_wrong}
use Rattle.pipe_refinement.proofs.Right.{empty_from, none, one}
use Rattle.pipe_refinement.proofs.Values.{flags_are, no_store, same_flags, store_is, stored_none}

-- a write to no register
write_none : (rs : List ℕ) (n word : ℕ) → n ≡ 15 → with_register rs n word ≡ rs
unfolding with_register
write_none rs n word e = rw e refl

none_word : (n word word' : ℕ) → n ≡ 15 → written_word n word ≡ written_word n word'
none_word n word word' e = rw e refl

module _ (x : RunContext) (t : ℕ) (c : Schedule) (p : PipeState) (f : ℕ → ℕ) (rs : List Rec) (image : IsImage x.image)
    (i : CouplingInvariant x t c p rs) (a : AlwaysFacts x.v p f c) where
  live_w : is_good c.w ≡ true → RunReaches x.v x.image (in_w c)
  live_w w = i.live (in_w c) (omega (arith, ap count w))

  live_m : is_good c.m ≡ true → RunReaches x.v x.image (in_m c)
  live_m m = i.live (in_m c) (omega (arith, ap count m))

  live_e : is_good c.e ≡ true → RunReaches x.v x.image (in_e c)
  live_e e = i.live (in_e c) (omega (arith, ap count e))

  w_stat_is : is_good c.w ≡ true → (p.w.stat == 1) ≡ is_aok (work_at x.v x.image (in_w c)).stat
  w_stat_is w = ap (λ n. n == 1) (i.good_w w).stat ∙ one_is x.v x.image (in_w c)

  -- ---- registers
  module _ (wr : WriteFacts p f c) where
    written_e : is_good c.w ≡ true → with_register p.regs (f name.w_dstE) (f name.w_valE) ≡ with_register p.regs (work_at x.v x.image (in_w c)).dst_e (work_at x.v x.image (in_w c)).val_e
    written_e w =
        let h = i.good_w w in
        rw (wr.dst_e w, wr.val_e w, h.dst_e)
        (elim (cases_Bool (has_operand_a (instruction_row x.v x.image (in_w c)).alu_a)) [
          | inl k ↦ rw (h.val_e k) refl
          | inr n ↦ let e = no_operand_dst x.v x.image (in_w c) n in write_none p.regs _ _ e ∙ sym (write_none p.regs _ _ e)
        ])

    pub regs_are : (is_good c.w ≡ true → stops_at x.v x.image (in_w c) ≡ false) → next_regs p f ≡ (state_before x.v x.image (in_m c)).regs
    regs_are on = by (is_good c.w) refl
      where
        by : (g : Bool) → is_good c.w ≡ g → next_regs p f ≡ (state_before x.v x.image (in_m c)).regs
        by true w =
            let h = i.good_w w in
            let q : (p.w.stat == 1) ≡ true = w_stat_is w ∙ not-false _ (on w) in
            rw (q, written_e w, wr.dst_m w, wr.val_m w, h.dst_m, h.val_m)
            (ap (λ z. written_back z (work_at x.v x.image (in_w c)).dst_e (work_at x.v x.image (in_w c)).val_e (work_at x.v x.image (in_w c)).dst_m (work_at x.v x.image (in_w c)).val_m) i.regs
            ∙ sym (regs_next x.v x.image (in_w c) (live_w w) (on w)) ∙ ap (λ j. (state_before x.v x.image j).regs) (sym (one c.w (in_w c) w)))
        by false w =
            let q : (p.w.stat == 1) ≡ false = ap (λ n. n == 1) (i.empty_w (empty_from c.w w i.right_w)).stat in
            rw q (i.regs ∙ ap (λ j. (state_before x.v x.image j).regs) (sym (none c.w (in_w c) w)))

    -- ---- records
    word_same : (w : is_good c.w ≡ true) → written_word (f name.w_dstE) (f name.w_valE) ≡ written_word (work_at x.v x.image (in_w c)).dst_e (work_at x.v x.image (in_w c)).val_e
    word_same w =
        let h = i.good_w w in
        rw (wr.dst_e w, wr.val_e w, h.dst_e)
        (elim (cases_Bool (has_operand_a (instruction_row x.v x.image (in_w c)).alu_a)) [
          | inl k ↦ rw (h.val_e k) refl
          | inr n ↦ none_word _ _ _ (no_operand_dst x.v x.image (in_w c) n)
        ])

    pub record_is : (w : is_good c.w ≡ true) → record_by p f ≡ record_of (state_before x.v x.image (in_w c)) (work_at x.v x.image (in_w c))
    record_is w =
        let h = i.good_w w in
        let s : stat_of p.w.stat ≡ (work_at x.v x.image (in_w c)).stat = ap stat_of h.stat ∙ stat_is x.v x.image (in_w c) in
        let fl : p.w.trail.flags ≡ (machine_after (state_before x.v x.image (in_w c)) (work_at x.v x.image (in_w c))).flags = h.flags ∙ sym (after_flags x.v x.image (in_w c) (live_w w)) in
        rw (s, fl, h.trail.pc, h.trail.ifun, h.icode, h.store, word_same w, wr.dst_e w, h.dst_e, wr.dst_m w, h.dst_m, wr.val_m w, h.val_m) refl

    pub records_are : rs ++ option_to_list (retires p f) ≡ records x.v x.image (in_m c)
    unfolding retires
    records_are = by c.w refl
      where
        by : (k : StageKind) → c.w ≡ k → rs ++ option_to_list (cond p.w.live (Some (record_by p f)) None) ≡ records x.v x.image (in_m c)
        by Bubbled e = rw (i.live_w ∙ ap kind_is_live e) (append-nil rs ∙ i.recs ∙ ap (records x.v x.image) (sym (none c.w (in_w c) (ap is_good e))))
        by Wrong e = absurd (false≢true (sym i.right_w ∙ ap is_wrong e))
        by Good e =
            let w : is_good c.w ≡ true = ap is_good e in
            rw (i.live_w ∙ ap kind_is_live e)
            (ap (λ z. z ++ (record_by p f ∷ [])) i.recs ∙ ap (λ z. records x.v x.image c.retired ++ (z ∷ [])) (record_is w)
            ∙ ap (λ o. records x.v x.image c.retired ++ option_to_list o) (sym (retired_at x.v x.image (in_w c) (live_w w)))
            ∙ sym (records_next x.v x.image (in_w c)) ∙ ap (records x.v x.image) (sym (one c.w (in_w c) w)))

  pub counted_are : length (rs ++ option_to_list (retires p f)) ≡ in_m c
  unfolding retires
  counted_are = by c.w refl
    where
      by : (k : StageKind) → c.w ≡ k → length (rs ++ option_to_list (cond p.w.live (Some (record_by p f)) None)) ≡ in_m c
      by Bubbled e = rw (i.live_w ∙ ap kind_is_live e) (omega (arith, length-append rs [], i.counted, none c.w (in_w c) (ap is_good e)))
      by Wrong e = absurd (false≢true (sym i.right_w ∙ ap is_wrong e))
      by Good e = rw (i.live_w ∙ ap kind_is_live e) (omega (arith, length-append rs (record_by p f ∷ []), i.counted, one c.w (in_w c) (ap is_good e)))

  -- ---- memory and flags
  pub mem_is : PipeHardware x.v p f → MemoryFacts x.v p f c → stored p.mem (store_of p f) ≡ (state_before x.v x.image (in_e c)).mem
  mem_is b me = by (is_good c.m) refl
    where
      by : (g : Bool) → is_good c.m ≡ g → stored p.mem (store_of p f) ≡ (state_before x.v x.image (in_e c)).mem
      by true m = ap (stored p.mem) (store_is x t c p f rs image i b a.access me.address m) ∙ ap (λ z. stored z (work_at x.v x.image (in_m c)).store) i.mem
          ∙ sym (mem_next x.v x.image (in_m c) (live_m m)) ∙ ap (λ j. (state_before x.v x.image j).mem) (sym (one c.m (in_m c) m))
      by false m = ap (stored p.mem) (no_store x t c p f rs image i b a.access m) ∙ stored_none p.mem ∙ i.mem ∙ ap (λ j. (state_before x.v x.image j).mem) (sym (none c.m (in_m c) m))

  pub flags_next_are : PipeHardware x.v p f → ExecuteFacts x.v x.s p f c → next_flags p f ≡ (state_before x.v x.image (in_d c)).flags
  flags_next_are b ex = by (is_good c.e) refl
    where
      by : (g : Bool) → is_good c.e ≡ g → next_flags p f ≡ (state_before x.v x.image (in_d c)).flags
      by true e = flags_are x t c p f rs image i b a.access a.flags ex e ∙ sym (flags_next x.v x.image (in_e c) (live_e e)) ∙ ap (λ j. (state_before x.v x.image j).flags) (sym (one c.e (in_e c) e))
      by false e = same_flags x t c p f rs image i b a.access a.flags e ∙ i.flags ∙ ap (λ j. (state_before x.v x.image j).flags) (sym (none c.e (in_e c) e))
