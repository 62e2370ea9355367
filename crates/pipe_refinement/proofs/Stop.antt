-- A stopping cycle.
use Rattle.std.proofs.Common.{◌≡◌, ◌≢◌, ℕ, ◌+◌, Bool, true, false, ◌==◌, ◌++◌, length, Some, refl, sym, ap, ◌∙◌, subst, arith, length-append}
use Rattle.std.specs.Option.{option_to_list}
use Rattle.std.proofs.lemmas.Bool.{false≢true, not-true}
use Rattle.y86_base.specs.Stat.{stat_number, stat_of}
use Rattle.y86_base.specs.declared.parts.Stat.TheVariants.{Adr, Aok, Bad, Bub, Hlt, Ins, Pip}
use Rattle.y86_base.specs.declared.parts.Stat.{Stat}
use Rattle.y86_isa.specs.Blocks.{stored}
use Rattle.y86_isa.specs.Machine.{is_aok}
use Rattle.y86_isa.specs.Run.{IsImage, records}
use Rattle.y86_isa.specs.Step.{machine_after, record_of, retired, raw_record}
use Rattle.y86_isa.specs.declared.machine.Machine.{Machine}
use Rattle.y86_isa.specs.declared.machine.Rec.{Rec}
use Rattle.y86_isa.proofs.Normal.{normal-bad}
use Rattle.yis_run_laws.specs.Instructions.{RunReaches, state_before, work_at, stops_at}
use Rattle.yis_run_laws.specs.Laws.{IsStepStatus, adr, aok, hlt, ins}
use Rattle.yis_run_laws.proofs.Statuses.{ends, one_is, stat_is}
use Rattle.yis_run_laws.proofs.Told.{after_flags, records_next, retired_at}
use Rattle.yis_run_laws.proofs.Walk.{stopped_is}
use Rattle.dp_signals.specs.PipeCycle.{ending, updates_of, next, record_of as record_by, retires}
use Rattle.dp_signals.specs.PipeNames as name
use Rattle.dp_signals.specs.PipeRows.{PipeHardware}
use Rattle.dp_signals.specs.PipeRun.{PipeHistory, after_cycle, end_pc, ended_by_status}
use Rattle.dp_signals.specs.declared.register_updates.CycleEnd.TheVariants.{Stopped}
use Rattle.pipe_refinement.specs.Facts.{AlwaysFacts}
use Rattle.pipe_refinement.specs.Invariant.{RunContext, CouplingInvariant}
use Rattle.pipe_refinement.specs.Kinds.{Schedule, count, in_m, in_w, is_good}
use Rattle.pipe_refinement.proofs.Older.{w_alone}
use Rattle.pipe_refinement.proofs.Right.{none, one}
use Rattle.pipe_refinement.proofs.Values.{no_store, same_flags, stored_none}
use Rattle.pipe_refinement.proofs.Words.{live_good}

-- what holds after a stop
pub record Ended (x : RunContext) (p : PipeHistory) : Type 0 where
  pub stopped : is_aok p.end ≡ false
  pub halted : ended_by_status p.end ≡ true
  pub records_are : p.records ≡ records x.v x.image (length p.records)
  pub regs : p.state.regs ≡ (state_before x.v x.image (length p.records)).regs
  pub flags : p.state.flags ≡ (state_before x.v x.image (length p.records)).flags
  pub mem : p.state.mem ≡ (state_before x.v x.image (length p.records)).mem
  pub pc : end_pc p.state p.end ≡ (state_before x.v x.image (length p.records)).pc
  pub stat : p.end ≡ (state_before x.v x.image (length p.records)).stat
  pub not_pip : p.end ≢ Pip

end_stops : (s : Stat) → IsStepStatus s → is_aok s ≡ false → ended_by_status s ≡ true
end_stops _ aok h = cc
end_stops _ hlt h = refl
end_stops _ adr h = refl
end_stops _ ins h = refl

ends_not_pip : (x : RunContext) (i : ℕ) → (work_at x.v x.image i).stat ≢ Pip
ends_not_pip x i e = absurd (by _ (stat_is x.v x.image i) e)
  where
    by : (s : Stat) → stat_of (stat_number s) ≡ s → s ≡ Pip → ⊥
    by s h e = absurd (no_pip (subst (λ z. stat_of (stat_number z) ≡ z) e h))
      where
        is_bad : Stat → Bool
        is_bad Bub = false
        is_bad Aok = false
        is_bad Hlt = false
        is_bad Adr = false
        is_bad Ins = false
        is_bad Pip = false
        is_bad Bad = true

        no_pip : Bad ≡ Pip → ⊥
        no_pip q = false≢true (sym (ap is_bad q))

module _ (x : RunContext) (t : ℕ) (c : Schedule) (p : PipeHistory) (f : ℕ → ℕ) (image : IsImage x.image)
    (i : CouplingInvariant x t c p.state p.records) (b : PipeHardware x.v p.state f) (a : AlwaysFacts x.v p.state f c)
    (w : is_good c.w ≡ true) (s : stops_at x.v x.image (in_w c) ≡ true) where
  abbrev q : PipeHistory
  q = after_cycle p f

  live : RunReaches x.v x.image (in_w c)
  live = i.live (in_w c) (omega (arith, ap count w))

  no_e : is_good c.e ≡ false
  no_e = (w_alone x c i.legal w s).1

  no_m : is_good c.m ≡ false
  no_m = (w_alone x c i.legal w s).2

  bad : is_aok (work_at x.v x.image (in_w c)).stat ≡ false
  bad = not-true _ s

  stat_now : f name.Stat ≡ stat_number (work_at x.v x.image (in_w c)).stat
  stat_now = a.stat ∙ rw w (i.good_w w).stat

  not_one : (f name.Stat == 1) ≡ false
  not_one = ap (λ n. n == 1) stat_now ∙ one_is x.v x.image (in_w c) ∙ bad

  w_not_one : (p.state.w.stat == 1) ≡ false
  w_not_one = ap (λ n. n == 1) (i.good_w w).stat ∙ one_is x.v x.image (in_w c) ∙ bad

  stops : ending f ≡ Stopped
  stops = rw not_one refl

  same_w : (next p.state f).w ≡ p.state.w
  unfolding next updates_of
  same_w = rw stops refl

  index : in_m c ≡ in_w c + 1
  index = one c.w (in_w c) w

  abbrev told : Rec
  told = record {
    pc = p.state.w.trail.addr;
    icode = p.state.w.icode;
    ifun = p.state.w.trail.ifun;
    dst_e = f name.w_dstE;
    val_e = f name.w_valE;
    dst_m = f name.w_dstM;
    val_m = f name.w_valM;
    store = p.state.w.trail.store;
    flags = p.state.w.trail.flags;
    stat = stat_of p.state.w.stat;
  }

  record_is : record_by p.state f ≡ record_of (state_before x.v x.image (in_w c)) (work_at x.v x.image (in_w c))
  record_is =
      let h = i.good_w w in
      normal-bad (raw_record (state_before x.v x.image (in_w c)).pc (work_at x.v x.image (in_w c)) (machine_after (state_before x.v x.image (in_w c)) (work_at x.v x.image (in_w c))).flags) told bad
      (record {
        pc = h.trail.pc;
        icode = h.icode;
        ifun = h.trail.ifun;
        flags = h.flags ∙ sym (after_flags x.v x.image (in_w c) live);
        stat = ap stat_of h.stat ∙ stat_is x.v x.image (in_w c);
      })

  live_now : p.state.w.live ≡ true
  live_now = i.live_w ∙ live_good c.w w

  added : retires p.state f ≡ Some (record_of (state_before x.v x.image (in_w c)) (work_at x.v x.image (in_w c)))
  unfolding retires
  added = rw live_now (ap Some record_is)

  records_now : q.records ≡ records x.v x.image (in_w c + 1)
  records_now =
      ap (λ o. p.records ++ option_to_list o) (added ∙ sym (retired_at x.v x.image (in_w c) live))
      ∙ ap (λ z. z ++ option_to_list (retired x.v (state_before x.v x.image (in_w c)))) i.recs ∙ sym (records_next x.v x.image (in_w c))

  length_now : length q.records ≡ in_w c + 1
  length_now = length-append p.records (option_to_list (retires p.state f)) ∙ rw added (omega (arith, i.counted))

  final : state_before x.v x.image (in_w c + 1) ≡ record (state_before x.v x.image (in_w c)) { stat = (work_at x.v x.image (in_w c)).stat }
  final = stopped_is x.v x.image (in_w c) live s

  at : {A : Type 0} (g : Machine → A) (y : A) → y ≡ g (state_before x.v x.image (in_w c + 1)) → y ≡ g (state_before x.v x.image (length q.records))
  at g y e = e ∙ ap (λ j. g (state_before x.v x.image j)) (sym length_now)

  end_is : q.end ≡ (work_at x.v x.image (in_w c)).stat
  end_is = rw stops (ap stat_of stat_now ∙ stat_is x.v x.image (in_w c))

  halted_now : ended_by_status q.end ≡ true
  halted_now = rw end_is (end_stops _ (ends x.v x.image (in_w c)) bad)

  regs_now : (next p.state f).regs ≡ p.state.regs
  unfolding next
  regs_now = rw w_not_one refl

  flags_now : (next p.state f).flags ≡ (state_before x.v x.image (in_w c + 1)).flags
  unfolding next
  flags_now =
      same_flags x t c p.state f p.records image i b a.access a.flags no_e ∙ i.flags
      ∙ ap (λ j. (state_before x.v x.image j).flags) (none c.m (in_m c) no_m ∙ index)

  mem_now : (next p.state f).mem ≡ (state_before x.v x.image (in_w c + 1)).mem
  unfolding next
  mem_now =
      ap (stored p.state.mem) (no_store x t c p.state f p.records image i b a.access no_m) ∙ stored_none p.state.mem ∙ i.mem ∙ ap (λ j. (state_before x.v x.image j).mem) index

  pub ended_now : Ended x q
  ended_now = record {
    stopped = ap is_aok end_is ∙ bad;
    halted = halted_now;
    records_are = records_now ∙ ap (records x.v x.image) (sym length_now);
    regs = at (λ m. m.regs) _ (regs_now ∙ i.regs ∙ ap (λ m. m.regs) (sym final));
    flags = at (λ m. m.flags) _ flags_now;
    mem = at (λ m. m.mem) _ mem_now;
    pc = at (λ m. m.pc) _ (rw (halted_now, same_w, live_now) ((i.good_w w).trail.pc ∙ ap (λ m. m.pc) (sym final)));
    stat = at (λ m. m.stat) _ (end_is ∙ ap (λ m. m.stat) (sym final));
    not_pip = λ e. ends_not_pip x (in_w c) (sym end_is ∙ e);
  }
