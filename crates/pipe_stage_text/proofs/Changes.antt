-- The lines of a cycle report just what the cycle changes in registers and memory.
use Rattle.std.proofs.Common.{◌≡◌, ℕ, ◌<◌, Bool, true, false, not, ◌&&◌, ◌||◌, ◌==◌, cond, if◌then◌else◌, List, [], ◌∷◌, ◌++◌, Option, None, Some, nat_lt, refl, sym, ap, ◌∙◌, arith}
use Rattle.std.specs.Prelude.{is_none, is_some}
use Rattle.std.proofs.lemmas.Bool.Decides.{nat_tests}
use Rattle.std.proofs.lemmas.Option.{none-some}
use Rattle.std.specs.List.{AllByRecursion}
use Rattle.y86_base.specs.Image.{word_at}
use Rattle.y86_base.specs.Registers.{with_register}
use Rattle.y86_base.specs.Words.{set}
use Rattle.y86_isa.specs.Blocks.{data_error, data_store, stored, written_back}
use Rattle.y86_isa.specs.declared.machine.Store.{Store}
use Rattle.dp_signals.specs.PipeCycle.{next}
use Rattle.dp_signals.specs.PipeNames as row
use Rattle.dp_signals.specs.Values.{bit}
use Rattle.dp_signals.specs.declared.pipe_state.PipeState.{PipeState}
use Rattle.dp_signals.proofs.PipeRows.{pipe_hardware_rows}
use Rattle.dp_signals.proofs.Bits.{set_bit}
use Rattle.pipe_stage_text.specs.Changes.{EachCycleTellsChanges, IsOfRegister, after_writes}
use Rattle.pipe_stage_text.specs.Cycle.{told_store, told_writes, written}

-- ---- registers

after_two : (registers : List ℕ) (first second : List (ℕ × ℕ)) → after_writes registers (first ++ second) ≡ after_writes (after_writes registers first) second
after_two registers [] second = refl
after_two registers (write ∷ rest) second = after_two (with_register registers write.0 write.1) rest second

by_test : (registers : List ℕ) (n word : ℕ) (b : Bool) → nat_lt n 15 ≡ b → after_writes registers (if b then (n, word) ∷ [] else []) ≡ with_register registers n word
unfolding with_register
by_test registers n word true e = refl
by_test registers n word false e = rw e refl

after_one : (registers : List ℕ) (n word : ℕ) → after_writes registers (written n word) ≡ with_register registers n word
after_one registers n word = by_test registers n word (nat_lt n 15) refl

after_both : (registers : List ℕ) (n word m other : ℕ) → after_writes registers (written n word ++ written m other) ≡ written_back registers n word m other
after_both registers n word m other =
    after_two registers (written n word) (written m other)
    ∙ ap (λ xs. after_writes xs (written m other)) (after_one registers n word)
    ∙ after_one (with_register registers n word) m other

pub after_some : (registers : List ℕ) (n word m other : ℕ) (b : Bool) →
    (if b then written_back registers n word m other else registers) ≡ after_writes registers (if b then written n word ++ written m other else [])
after_some registers n word m other true = sym (after_both registers n word m other)
after_some registers n word m other false = refl

is_below : (n : ℕ) → nat_lt n 15 ≡ true → n < 15
is_below n e = grind (arith, nat_tests)

one_by_test : (n word : ℕ) (b : Bool) → nat_lt n 15 ≡ b → AllByRecursion IsOfRegister (if b then (n, word) ∷ [] else [])
one_by_test n word true e = (is_below n e, tt)
one_by_test n word false e = tt

both_of : (first second : List (ℕ × ℕ)) → AllByRecursion IsOfRegister first → AllByRecursion IsOfRegister second → AllByRecursion IsOfRegister (first ++ second)
both_of [] second h h' = h'
both_of (write ∷ rest) second h h' = (h.0, both_of rest second h.1 h')

pub some_of : (n word m other : ℕ) (b : Bool) → AllByRecursion IsOfRegister (if b then written n word ++ written m other else [])
some_of n word m other true =
    both_of (written n word) (written m other) (one_by_test n word (nat_lt n 15) refl) (one_by_test m other (nat_lt m 15) refl)
some_of n word m other false = tt

-- ---- memory

is_done : (writes error : Bool) (addr word : ℕ) (store : Store) → ◌≡◌ {A = Option Store} (if writes && not error then Some (record { addr = addr; word = word }) else None) (Some store) →
    (writes ≡ true) × (error ≡ false) × (addr ≡ store.addr)
is_done true false addr word store e = (refl, refl, cc)
is_done true true addr word store e = absurd (none-some _ e)
is_done false error addr word store e = absurd (none-some _ e)

is_there : (reads writes : Bool) (found : Option ℕ) → (reads || writes) && is_none found ≡ false → writes ≡ true → is_some found ≡ true
is_there reads writes (Some word) e w = refl
is_there true writes None e w = absurd (cc)
is_there false true None e w = absurd (cc)
is_there false false None e w = absurd (cc)

error_means : (memory : List ℕ) (addr : ℕ) (reads writes : Bool) → data_error memory addr reads writes ≡ false → writes ≡ true → is_some (word_at memory addr) ≡ true
unfolding data_error
error_means memory addr reads writes e w = is_there reads writes (word_at memory addr) e w

pub store_inside : (memory : List ℕ) (addr word error : ℕ) (reads writes : Bool) (store : Store) → error ≡ bit (data_error memory addr reads writes) →
    data_store addr word writes (set error) ≡ Some store → is_some (word_at memory store.addr) ≡ true
unfolding data_store
store_inside memory addr word error reads writes store e s =
    let done = is_done writes (set error) addr word store s in
    ap (λ a. is_some (word_at memory a)) (sym done.2)
    ∙ error_means memory addr reads writes (sym (ap set e ∙ set_bit (data_error memory addr reads writes)) ∙ done.1) done.0

-- ---- a cycle

registers_told : (p : PipeState) (f : ℕ → ℕ) → (next p f).regs ≡ after_writes p.regs (told_writes p f)
unfolding next told_writes
registers_told p f = after_some p.regs (f row.w_dstE) (f row.w_valE) (f row.w_dstM) (f row.w_valM) (p.w.stat == 1)

of_registers_told : (p : PipeState) (f : ℕ → ℕ) → AllByRecursion IsOfRegister (told_writes p f)
unfolding told_writes
of_registers_told p f = some_of (f row.w_dstE) (f row.w_valE) (f row.w_dstM) (f row.w_valM) (p.w.stat == 1)

memory_told : (p : PipeState) (f : ℕ → ℕ) → (next p f).mem ≡ stored p.mem (told_store p f)
unfolding next
memory_told p f = refl

pub each_cycle_tells_changes : EachCycleTellsChanges
each_cycle_tells_changes v terms p f solves =
    let hardware = pipe_hardware_rows v terms p f solves in
    record {
      registers = registers_told p f;
      of_registers = of_registers_told p f;
      memory = memory_told p f;
      inside = λ store. store_inside p.mem (f row.mem_addr) p.m.val_a (f row.dmem_error) (set (f row.mem_read)) (set (f row.mem_write)) store hardware.dmem_error;
    }
