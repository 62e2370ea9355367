-- The line of a cycle and its signals, for a design that meets the obligations.
use Rattle.std.proofs.Common.{◌≡◌, ℕ, ◌≤◌, Bool, true, false, cond, List, refl, sym, ap, ◌∙◌, arith}
use Rattle.y86_base.specs.Words.{set}
use Rattle.y86_base.specs.declared.parts.Variant.{Variant}
use Rattle.y86_base.proofs.Booleans.{and_first, and_second}
use Rattle.y86_isa.specs.Blocks.{condition, data_error, field_a, field_b, is_load, is_store}
use Rattle.y86_isa.specs.RowTests.{accesses}
use Rattle.y86_isa.specs.Table.{row}
use Rattle.y86_isa.specs.declared.columns.MemoryColumn.{MemoryColumn}
use Rattle.y86_isa.specs.declared.columns.MemoryColumn.TheVariants.{NoMem, StoreA, StoreP, LoadE, LoadA}
use Rattle.y86_isa.specs.declared.machine.Machine.{Machine}
use Rattle.dp_signals.specs.Values.{bit}
use Rattle.dp_signals.specs.declared.sequential_rows.SignalRows.{SignalRows}
use Rattle.ctl_atoms.specs.declared.leaf.Leaf.{Leaf}
use Rattle.ctl_equations.specs.Laws.{real_assignment}
use Rattle.seq_obligations.specs.Obligations.{shared_demand}
use Rattle.seq_refinement.specs.Cycle.{Agrees, fields_at}
use Rattle.dp_sequential.specs.Hardware.{HasHardware}
use Rattle.seq_refinement.proofs.Reflected.{Ties, number_is, truth_is}

-- no access, no error
no_error : (a : MemoryColumn) (mem : List ℕ) (x : ℕ) → accesses a ≡ false → data_error mem x (is_load a) (is_store a) ≡ false
unfolding data_error
no_error NoMem mem x e = refl
no_error StoreA mem x e = cc
no_error StoreP mem x e = cc
no_error LoadE mem x e = cc
no_error LoadA mem x e = cc

chosen : (b : Bool) (x : ℕ) → (b ≡ false → x ≡ 0) → cond b x 0 ≡ x
chosen true x h = refl
chosen false x h = sym (h refl)

module _ (r : SignalRows) (v : Variant) (m : Machine) (f : ℕ → ℕ) (cv : ℕ → Leaf) (hw : HasHardware r v m f)
    (asked : (i : ℕ) → 1 ≤ i → i ≤ 15 → shared_demand r i (row v (f r.imem_icode)) (fields_at r v m f) (real_assignment f) cv ≡ true) where
  ask : (i : ℕ) → 1 ≤ i → i ≤ 15 → shared_demand r i (row v (f r.imem_icode)) (fields_at r v m f) (real_assignment f) cv ≡ true
  ask = asked

  pub ra_is : Agrees f cv r.need_regids → (fields_at r v m f).r_a ≡ f r.r_a
  ra_is a = sym (hw.rA ∙ ap (λ b. field_a m.mem m.pc b) (truth_is f cv r.need_regids _ (ask 2 (omega arith) (omega arith)) a))

  pub rb_is : Agrees f cv r.need_regids → (fields_at r v m f).r_b ≡ f r.r_b
  rb_is a = sym (hw.rB ∙ ap (λ b. field_b m.mem m.pc b) (truth_is f cv r.need_regids _ (ask 2 (omega arith) (omega arith)) a))

  pub cnd_is : Agrees f cv r.ifun → (fields_at r v m f).cnd ≡ f r.cnd
  cnd_is a = sym (hw.Cnd ∙ ap (λ n. bit (condition n m.flags)) (number_is f cv r.ifun _ (and_second _ _ (ask 1 (omega arith) (omega arith))) a))

  pub derror_is : Agrees f cv r.mem_read → Agrees f cv r.mem_write → (fields_at r v m f).derror ≡ f r.dmem_error
  derror_is a b =
      let reads = truth_is f cv r.mem_read _ (and_first _ _ (ask 13 (omega arith) (omega arith))) a in
      let writes = truth_is f cv r.mem_write _ (and_second _ _ (ask 13 (omega arith) (omega arith))) b in
      chosen _ (f r.dmem_error) (λ n. hw.dmem_error ∙ (rw (reads, writes) refl) ∙ ap bit (no_error _ m.mem (f r.mem_addr) n))

  pub ties : ((n : ℕ) → Agrees f cv n) → Ties r (fields_at r v m f) f
  ties agrees =
      record {
        icode = refl;
        ifun = refl;
        error = refl;
        r_a = ra_is (agrees r.need_regids);
        r_b = rb_is (agrees r.need_regids);
        cond_is = ap set (cnd_is (agrees r.ifun));
        derror = ap set (derror_is (agrees r.mem_read) (agrees r.mem_write));
      }
