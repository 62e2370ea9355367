-- Images whose instructions fetch nothing that an earlier instruction stored.
use Rattle.std.proofs.Common.{◌≡◌, ◌⊎◌, ℕ, ◌+◌, ◌<◌, ◌≤◌, not, Bool, true, false, cond, nat_le, List, Option, Some, None, get_or, length, refl, sym, ap, ◌∙◌, subst, inl, inr, arith}
use Rattle.std.specs.Prelude.{is_none}
use Rattle.std.proofs.lemmas.Bool.{cases_lt, leb-true}
use Rattle.std.proofs.lemmas.Option.{slice_get-get_or, same_Some}
use Rattle.y86_base.specs.Image.{word_at}
use Rattle.y86_base.specs.declared.parts.Variant.{Variant}
use Rattle.y86_isa.specs.declared.columns.Row.{Row}
use Rattle.y86_isa.specs.declared.machine.Machine.{Machine}
use Rattle.y86_isa.specs.declared.machine.Rec.{Rec}
use Rattle.y86_isa.specs.declared.machine.Store.{Store}
use Rattle.y86_isa.specs.declared.work.Work.{Work}
use Rattle.y86_isa.specs.Blocks.{data_error, data_store, data_word, high_half, is_load, is_store, low_half}
use Rattle.y86_isa.specs.Laws.{FollowsRow}
use Rattle.y86_isa.specs.Machine.{is_aok, normal, start, written_number, written_word}
use Rattle.y86_isa.specs.Step.{machine_after, record_of, retired, raw_record}
use Rattle.y86_isa.specs.Table.{is_instruction, no_register, row}
use Rattle.y86_isa.specs.Work.{work}
use Rattle.y86_isa.specs.Run.{run, count_by_first, fetched_count, Pure, IsFetched, IsInStore, IsStoredBy}
use Rattle.y86_isa.proofs.Images.{length-run_from}
use Rattle.y86_isa.proofs.Rows.{row-length}
use Rattle.y86_isa.proofs.Steps.{Advances, advances}
use Rattle.y86_isa.proofs.Steps.Advances.{stays, stops, goes}
use Rattle.y86_isa.proofs.Works.{FollowsRow-work}
use Rattle.yis_pure_runs.specs.Purity.{AvoidsStore, StoresAvoidCode}

-- ---- if stores are apart from the code, none of their bytes is fetched

-- a byte of a store that is apart from the instruction is not fetched
not_both : (v : Variant) (m : Machine) (address : ℕ) (o : Option Store) → ((s : Store) → o ≡ Some s → AvoidsStore v m s) →
    IsFetched v m.mem m.pc address → IsInStore o address → ⊥
not_both v m address None apart fetched inside = inside
not_both v m address (Some s) apart fetched inside = by (apart s refl)
  where
    by : AvoidsStore v m s → ⊥
    by (inl front) = absurd (omega (arith, front, fetched.from, inside.0, inside.1))
    by (inr behind) = absurd (omega (arith, behind, fetched.to, inside.0, inside.1))

-- the same for the store of a record
pub pair_pure : (v : Variant) (m : Machine) (o : Option Rec) (address : ℕ) → ((r : Rec) (s : Store) → o ≡ Some r → r.store ≡ Some s → AvoidsStore v m s) →
    IsFetched v m.mem m.pc address → IsStoredBy o address → ⊥
pair_pure v m None address apart fetched stored = stored
pair_pure v m (Some r) address apart fetched stored = not_both v m address r.store (λ s is. apart r s refl is) fetched stored

pub pure_apart : (v : Variant) (image : List ℕ) (n : ℕ) → StoresAvoidCode v image n → Pure v image n
pure_apart v image n apart i j address within earlier on fetched stored =
    pair_pure v (run v image i) (retired v (run v image j)) address (λ r s told is. apart i j r s within earlier on told is) fetched stored

-- ---- if no byte of a store is fetched, the store is apart from the code

-- an instruction whose first byte is inside memory fetches at least one byte
some_counted : (v : Variant) (byte : ℕ) → 0 < count_by_first v (Some byte)
some_counted v byte = by (is_instruction v (high_half byte) (low_half byte))
  where
    by : (b : Bool) → 0 < cond b (row v (high_half byte)).length 1
    by true = omega (arith, row-length v (high_half byte))
    by false = omega arith

some_fetched : (v : Variant) (memory : List ℕ) (pc : ℕ) → pc < length memory → 0 < fetched_count v memory pc
some_fetched v memory pc inside =
    subst (λ (o : Option ℕ). 0 < count_by_first v o) (sym (slice_get-get_or memory pc 0 inside)) (some_counted v (get_or memory pc 0))

apart_unless_both : (v : Variant) (m : Machine) (s : Store) → s.addr + 8 ≤ length m.mem →
    ((address : ℕ) → IsFetched v m.mem m.pc address → IsInStore (Some s) address → ⊥) → AvoidsStore v m s
apart_unless_both v m s inside neither = before (cases_lt m.pc (s.addr + 8))
  where
    meets : m.pc < s.addr + 8 → s.addr < m.pc + fetched_count v m.mem m.pc → (m.pc < s.addr) ⊎ (s.addr ≤ m.pc) → ⊥
    meets front back (inl lt) =
        neither s.addr (record { from = omega (arith, lt); to = back; inside = omega (arith, inside) }) (omega arith, omega arith)
    meets front back (inr le) =
        let some : 0 < fetched_count v m.mem m.pc = some_fetched v m.mem m.pc (omega (arith, front, inside)) in
        neither m.pc (record { from = omega arith; to = omega (arith, some); inside = omega (arith, front, inside) }) (le, front)

    behind : m.pc < s.addr + 8 → (s.addr < m.pc + fetched_count v m.mem m.pc) ⊎ (m.pc + fetched_count v m.mem m.pc ≤ s.addr) → AvoidsStore v m s
    behind front (inl back) = absurd (meets front back (cases_lt m.pc s.addr))
    behind front (inr le) = inr le

    before : (m.pc < s.addr + 8) ⊎ (s.addr + 8 ≤ m.pc) → AvoidsStore v m s
    before (inl front) = behind front (cases_lt s.addr (m.pc + fetched_count v m.mem m.pc))
    before (inr le) = inl le

-- ---- the store of a record is inside memory

-- a store that takes place; b says that it is inside
done : (b : Bool) (address word x : ℕ) (s : Store) → cond (not (is_none (cond b (Some x) None))) (Some (record { addr = address; word = word })) None ≡ Some s →
    (b ≡ true) × (address ≡ s.addr)
done true address word x s e = (refl, ap (λ (t : Store). t.addr) (same_Some (record { addr = address; word = word }) s e))
done false address word x s e = absurd (cc e)

inside_by : (memory : List ℕ) (address word : ℕ) (reads writes : Bool) (s : Store) →
    data_store address word writes (data_error memory address reads writes) ≡ Some s → s.addr + 8 ≤ length memory
unfolding data_store data_error word_at
inside_by memory address word reads false s e = absurd (cc e)
inside_by memory address word true true s e =
    let is = done (nat_le (address + 8) (length memory)) address word _ s e in
    omega (arith, leb-true (address + 8) (length memory) is.0, is.1)
inside_by memory address word false true s e =
    let is = done (nat_le (address + 8) (length memory)) address word _ s e in
    omega (arith, leb-true (address + 8) (length memory) is.0, is.1)

worked_inside : (v : Variant) (m : Machine) (s : Store) → (work v m).store ≡ Some s → s.addr + 8 ≤ length m.mem
worked_inside v m s e =
    let r : Row = row v (work v m).icode in
    let w : Work = work v m in
    let f : FollowsRow r m w = FollowsRow-work v m in
    let word : ℕ = data_word r.memory w.val_a w.val_p in
    inside_by m.mem w.address word (is_load r.memory) (is_store r.memory) s
    (sym (ap (data_store w.address word (is_store r.memory)) f.fault) ∙ (sym f.store ∙ e))

kept : (b : Bool) (r t : Rec) (s : Store) → t.store ≡ None → (cond b r t).store ≡ Some s → r.store ≡ Some s
kept true r t s none e = e
kept false r t s none e = absurd (cc (none, e))

recorded : (r : Rec) (s : Store) → (normal r).store ≡ Some s → r.store ≡ Some s
recorded r s e =
    kept (is_aok r.stat)
    (record r { dst_e = written_number r.dst_e; val_e = written_word r.dst_e r.val_e; dst_m = written_number r.dst_m; val_m = written_word r.dst_m r.val_m })
    (record r { dst_e = no_register; val_e = 0; dst_m = no_register; val_m = 0; store = None }) s refl e

record_inside : (v : Variant) (m : Machine) (r : Rec) (s : Store) → Some (record_of m (work v m)) ≡ Some r → r.store ≡ Some s → s.addr + 8 ≤ length m.mem
record_inside v m r s is has =
    let told = raw_record m.pc (work v m) (machine_after m (work v m)).flags in
    worked_inside v m s (recorded told s (ap (λ (x : Rec). x.store) (same_Some (record_of m (work v m)) r is) ∙ has))

stored_inside : (v : Variant) (m after : Machine) (o : Option Rec) (r : Rec) (s : Store) → Advances v m after o → o ≡ Some r → r.store ≡ Some s → s.addr + 8 ≤ length m.mem
stored_inside v m _ _ r s (stays e) is has = absurd (cc is)
stored_inside v m _ _ r s (stops e w) is has = record_inside v m r s is has
stored_inside v m _ _ r s (goes e w) is has = record_inside v m r s is has

-- a store of step j is apart from the instruction of step i, if that fetches none of its bytes
pub pair_apart : (v : Variant) (image : List ℕ) (i j : ℕ) (r : Rec) (s : Store) →
    ((address : ℕ) → IsFetched v (run v image i).mem (run v image i).pc address → IsStoredBy (retired v (run v image j)) address → ⊥) →
    retired v (run v image j) ≡ Some r → r.store ≡ Some s → AvoidsStore v (run v image i) s
pair_apart v image i j r s neither told is =
    let inside : s.addr + 8 ≤ length (run v image j).mem = stored_inside v (run v image j) _ _ r s (advances v (run v image j)) told is in
    let here = length-run_from v (start image) i in
    let there = length-run_from v (start image) j in
    apart_unless_both v (run v image i) s (omega (arith, inside, here, there)) (λ address fetched stored.
    neither address fetched (subst (λ (o : Option Rec). IsStoredBy o address) (sym told) (subst (λ (o : Option Store). IsInStore o address) (sym is) stored)))

pub apart_pure : (v : Variant) (image : List ℕ) (n : ℕ) → Pure v image n → StoresAvoidCode v image n
apart_pure v image n pure i j r s within earlier on told is =
    pair_apart v image i j r s (λ address fetched stored. pure i j address within earlier on fetched stored) told is
