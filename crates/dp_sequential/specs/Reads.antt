-- The hardware of a sequential datapath reads only the rows that its table lists.
use Rattle.std.proofs.Common.{◌≡◌, ℕ, ◌+◌, List, [], ◌∷◌, ◌++◌, map, get_or, refl, ap, subst, arith}
use Rattle.std.specs.List.{AllByRecursion}
use Rattle.y86_base.specs.Registers.{register}
use Rattle.y86_base.specs.Words.{set}
use Rattle.y86_base.specs.declared.parts.Variant.{Variant}
use Rattle.y86_isa.specs.Blocks.{reading, field_a, field_b, constant_at, behind, alu_value, condition, data_read, data_error}
use Rattle.y86_isa.specs.declared.machine.Machine.{Machine}
use Rattle.hcl_types.specs.declared.table.Row.{Row}
use Rattle.hcl_types.specs.Tables.{inputs}
use Rattle.hcl_types.proofs.Each.{each_left, each_right}
use Rattle.dp_signals.specs.Layout.{ReadsInputs}
use Rattle.dp_signals.specs.SequentialRows.{rows_from}
use Rattle.dp_signals.specs.SequentialTables.{hardware_rows}
use Rattle.dp_signals.specs.Values.{bit}
use Rattle.dp_signals.specs.declared.sequential_rows.SignalRows.{SignalRows}
use Rattle.dp_signals.proofs.RowByRow.{by_row, two, three}
use Rattle.dp_sequential.specs.Cycle.{block_by, fetched_by, worked_by}

-- a cycle on the machine m at a PC: hardware that depends on the row pc, or on the rows pcs, may read this PC
module _ (pc hardware control : ℕ) (pcs : List ℕ) (v : Variant) (m : Machine) (pc_of : (ℕ → ℕ) → ℕ)
    (by_pc : (f g : ℕ → ℕ) → f pc ≡ g pc → pc_of f ≡ pc_of g)
    (by_pcs : (f g : ℕ → ℕ) → AllByRecursion (λ n. f n ≡ g n) pcs → pc_of f ≡ pc_of g) where
  abbrev r : SignalRows
  r = rows_from pc hardware control

  abbrev rows : List Row
  rows = hardware_rows r pcs

  abbrev block : ℕ → (ℕ → ℕ) → ℕ
  block n f = block_by r v (record m { pc = pc_of f }) n f

  -- what the fields and the words of the fetch stage need beside the PC
  abbrev one : List ℕ
  one = r.need_regids ∷ []

  abbrev both : List ℕ
  both = r.need_regids ∷ r.need_val_c ∷ []

  -- f and g agree on the rows that row k of hardware needs
  abbrev Alike : (ℕ → ℕ) → (ℕ → ℕ) → ℕ → Type 0
  Alike f g k = AllByRecursion (λ n. f n ≡ g n) (get_or (map (λ (row : Row). inputs row.role) rows) k [])

  module _ (k : ℕ) (f g : ℕ → ℕ) (alike : Alike f g k) where
    at : (j : ℕ) → hardware + k ≡ hardware + j → Alike f g j
    at j e = let same : k ≡ j = omega (arith, e) in subst (Alike f g) same alike

    fetched : (ids : List ℕ) → AllByRecursion (λ n. f n ≡ g n) (pcs ++ ids) → pc_of f ≡ pc_of g
    fetched ids h = by_pcs f g (each_left (λ n. f n ≡ g n) pcs ids h)

    others : (ids : List ℕ) → AllByRecursion (λ n. f n ≡ g n) (pcs ++ ids) → AllByRecursion (λ n. f n ≡ g n) ids
    others ids h = each_right (λ n. f n ≡ g n) pcs ids h

    reads : block (hardware + k) f ≡ block (hardware + k) g
    unfolding block_by fetched_by worked_by
    reads =
        by_row (hardware + k) r.imem_icode _ _ _ _ (omega arith) (λ e. ap (λ x. (reading v m.mem x).icode) (by_pc f g (at 0 e).0))
        (λ ge. by_row (hardware + k) r.imem_ifun _ _ _ _ (omega (arith, ge)) (λ e. ap (λ x. (reading v m.mem x).ifun) (by_pc f g (at 1 e).0))
        (λ ge. by_row (hardware + k) r.imem_error _ _ _ _ (omega (arith, ge)) (λ e. ap (λ x. bit (reading v m.mem x).error) (by_pc f g (at 2 e).0))
        (λ ge. by_row (hardware + k) r.r_a _ _ _ _ (omega (arith, ge)) (λ e. two (λ x y. field_a m.mem x (set y)) (fetched one (at 3 e)) (others one (at 3 e)).0)
        (λ ge. by_row (hardware + k) r.r_b _ _ _ _ (omega (arith, ge)) (λ e. two (λ x y. field_b m.mem x (set y)) (fetched one (at 4 e)) (others one (at 4 e)).0)
        (λ ge. by_row (hardware + k) r.val_c _ _ _ _ (omega (arith, ge)) (λ e. let p = others both (at 5 e) in three (λ x y z. constant_at m.mem x (set y) (set z)) (fetched both (at 5 e)) p.0 p.1.0)
        (λ ge. by_row (hardware + k) r.val_p _ _ _ _ (omega (arith, ge)) (λ e. let p = others both (at 6 e) in three (λ x y z. behind x (set y) (set z)) (fetched both (at 6 e)) p.0 p.1.0)
        (λ ge. by_row (hardware + k) r.val_a _ _ _ _ (omega (arith, ge)) (λ e. ap (register m.regs) (at 7 e).0)
        (λ ge. by_row (hardware + k) r.val_b _ _ _ _ (omega (arith, ge)) (λ e. ap (register m.regs) (at 8 e).0)
        (λ ge. by_row (hardware + k) r.val_e _ _ _ _ (omega (arith, ge)) (λ e. let p = at 9 e in three (λ x y z. alu_value z x y) p.0 p.1.0 p.1.1.0)
        (λ ge. by_row (hardware + k) r.cnd _ _ _ _ (omega (arith, ge)) (λ e. ap (λ x. bit (condition x m.flags)) (at 10 e).0)
        (λ ge. by_row (hardware + k) r.val_m _ _ _ _ (omega (arith, ge)) (λ e. let p = at 11 e in two (λ x y. data_read m.mem x (set y)) p.0 p.1.0)
        (λ ge. by_row (hardware + k) r.dmem_error _ _ _ _ (omega (arith, ge)) (λ e. let p = at 12 e in three (λ x y z. bit (data_error m.mem x (set y) (set z))) p.0 p.1.0 p.1.1.0)
        (λ ge. refl)))))))))))))

  pub hardware_reads : (first : ℕ) → ReadsInputs (hardware_rows (rows_from pc hardware control) pcs) hardware first
      (λ n f. block_by (rows_from pc hardware control) v (record m { pc = pc_of f }) n f)
  hardware_reads first k f g lt h = reads k f g h
