-- Under any file, a cycle of SEQ+ works on the machine at the PC that the file computes, and its record reports what it
-- changes.
use Rattle.std.proofs.Common.{◌≡◌, ℕ, ◌==◌, Bool, true, false, cond, List, Option, IfSome, refl, sym, subst}
use Rattle.y86_base.specs.Stat.{stat_of}
use Rattle.y86_base.specs.declared.parts.Stat.{Stat}
use Rattle.y86_base.specs.declared.parts.Variant.{Variant}
use Rattle.y86_isa.specs.Laws.{IsRecordOfStep}
use Rattle.y86_isa.specs.Machine.{is_aok, normal}
use Rattle.y86_isa.specs.declared.machine.Machine.{Machine}
use Rattle.y86_isa.specs.declared.machine.Rec.{Rec}
use Rattle.hcl_types.specs.declared.term.Term.{Term}
use Rattle.dp_sequential.specs.Cycle.{flags_by, memory_by, record_by, registers_by, stepped, store_by}
use Rattle.dp_sequential.proofs.Tells.{cycle_says, tells}
use Rattle.seq_plus.specs.PlusCycle.{plus_next, plus_record, previous_of}
use Rattle.seq_plus.specs.PlusEquations.{PlusSolves, at_pc}
use Rattle.seq_plus.specs.PlusNames as name
use Rattle.seq_plus.specs.PlusRun.{IsPlusCycle, plus_path}
use Rattle.seq_plus.specs.Told.{TellsCycle}
use Rattle.seq_plus.specs.declared.state.PlusState.{PlusState}

-- the state after a cycle with this status, if the cycle changes anything
abbrev pub updated : PlusState → (ℕ → ℕ) → Stat → PlusState
updated t f stat =
    record {
      previous = previous_of f;
      regs = registers_by name.plus t.regs f;
      flags = flags_by name.plus t.flags f;
      stat = stat;
      mem = memory_by name.plus t.mem f;
    }

module _ (t : PlusState) (f : ℕ → ℕ) where
  next_by : (b : Bool) (stat : Stat) → at_pc (cond b (updated t f stat) (record t { stat = stat })) (f name.pc)
      ≡ cond b (record (at_pc (updated t f stat) (f name.pc)) { stat = stat }) (record (at_pc t (f name.pc)) { stat = stat })
  next_by true stat = refl
  next_by false stat = refl

  next_is : at_pc (plus_next t f) (f name.pc) ≡ stepped name.plus (at_pc t (f name.pc)) f (f name.pc)
  unfolding plus_next
  next_is = next_by (f name.Stat == 1) (stat_of (f name.Stat))

  -- ---- what the record says

  normal_icode : (b : Bool) (r : Rec) → is_aok r.stat ≡ b → (normal r).icode ≡ r.icode
  normal_icode true r e = rw e refl
  normal_icode false r e = rw e refl

  normal_ifun : (b : Bool) (r : Rec) → is_aok r.stat ≡ b → (normal r).ifun ≡ r.ifun
  normal_ifun true r e = rw e refl
  normal_ifun false r e = rw e refl

  -- the record before normalization
  abbrev raw : Rec
  raw =
      record {
        pc = f name.pc;
        icode = f name.icode;
        ifun = f name.ifun;
        dst_e = f name.dstE;
        val_e = f name.valE;
        dst_m = f name.dstM;
        val_m = f name.valM;
        store = store_by name.plus f;
        flags = (plus_next t f).flags;
        stat = stat_of (f name.Stat);
      }

  pub plus_tells : TellsCycle t (plus_next t f) f (plus_record t f)
  unfolding plus_record
  plus_tells =
      record {
        step = subst (λ (m : Machine). IsRecordOfStep (at_pc t (f name.pc)) m (record_by name.plus (f name.pc) m.flags f)) (sym next_is) (tells name.plus (at_pc t (f name.pc)) f (f name.pc));
        icode = normal_icode (is_aok (stat_of (f name.Stat))) raw refl;
        ifun = normal_ifun (is_aok (stat_of (f name.Stat))) raw refl;
      }

pub plus_cycle_tells : (v : Variant) (terms : List Term) (s : PlusState) (r : Option Rec) (t : PlusState) → IsPlusCycle v terms s r t →
    IfSome r (λ x. (f : ℕ → ℕ) × PlusSolves v terms s f × TellsCycle s t f x)
plus_cycle_tells v terms = cycle_says plus_path v terms (λ s t x. (f : ℕ → ℕ) × PlusSolves v terms s f × TellsCycle s t f x) (λ s f h. (f, h, plus_tells s f))
