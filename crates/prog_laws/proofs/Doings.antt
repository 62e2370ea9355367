-- What the instruction of each kind does, on a machine whose %r14 is 0.
use Rattle.std.proofs.Common.{◌≡◌, ◌≢◌, ℕ, ◌+◌, ◌^◌, ◌<◌, ◌≤◌, Bool, true, false, cond, List, length, Option, None, refl, arith}
use Rattle.y86_base.specs.Registers.{register}
use Rattle.y86_base.specs.declared.parts.Stat.TheVariants.{Aok, Adr}
use Rattle.y86_base.proofs.Memories.{word_inside}
use Rattle.y86_isa.specs.declared.encoding.Instr.{Instr}
use Rattle.y86_isa.specs.declared.machine.Machine.{Machine}
use Rattle.y86_isa.specs.declared.machine.Store.{Store}
use Rattle.y86_isa.specs.declared.work.Work.{Work}
use Rattle.y86_isa.specs.Blocks.{alu_value, condition, destination_e, data_error, data_store}
use Rattle.y86_isa.specs.Encoding.{IsValid, encoded, fields_of, widest}
use Rattle.y86_isa.specs.Run.{IsInStore}
use Rattle.y86_isa.specs.Table.{row}
use Rattle.y86_isa.specs.Work.{worked}
use Rattle.prog_gen.proofs.Valid.{irmovq_valid, opq_valid, rrmovq_valid, rmmovq_valid, mrmovq_valid, jxx_valid}

abbrev pub StoresFrom : ℕ → Option Store → Type 0
StoresFrom data_at store = (address : ℕ) → IsInStore store address → data_at ≤ address

-- the work of an instruction that continues at `behind`, doesn't write %r14, and stores only from data_at on
pub record Passes (data_at behind : ℕ) (w : Work) : Type 0 where
  pub stat : w.stat ≡ Aok
  pub next : w.next_pc ≡ behind
  pub dst_e : w.dst_e ≢ 14
  pub dst_m : w.dst_m ≢ 14
  pub store : StoresFrom data_at w.store

-- a machine of a generated program
pub record Serves (data_at : ℕ) (m : Machine) : Type 0 where
  pub zero : register m.regs 14 ≡ 0
  pub long : data_at + 2048 ≤ length m.mem
  pub small : data_at < 2000000

-- an instruction that passes at an address on each such machine
pub record Fits (data_at at : ℕ) (i : Instr) : Type 0 where
  pub valid : IsValid widest i
  pub known : i.icode < 12
  pub ifun : i.ifun < 16
  pub constant : i.val_c < 2 ^ 64
  pub passes : (m : Machine) → Serves data_at m → Passes data_at (at + length (encoded i)) (worked m (row widest i.icode) (fields_of i at))

-- ---- parts of what they do

no_store : (data_at : ℕ) → StoresFrom data_at None
no_store data_at address h = absurd h

store_from : (data_at address word : ℕ) (fault : Bool) → data_at ≤ address → StoresFrom data_at (data_store address word true fault)
unfolding data_store
store_from data_at address word true le k h = absurd h
store_from data_at address word false le k h = omega (arith, le, h.0)

late_dst : (c : Bool) (n : ℕ) → n < 14 → destination_e true c n ≢ 14
late_dst true n lt e = absurd (omega (arith, lt, e))
late_dst false n lt e = absurd (omega (arith, e))

either_way : (c : Bool) (a b there : ℕ) → a ≡ there → b ≡ there → cond c a b ≡ there
either_way true a b there p q = p
either_way false a b there p q = q

plus_zero : (b c : ℕ) → b ≡ 0 → c < 2 ^ 64 → alu_value 0 c b ≡ c
unfolding alu_value
plus_zero b c e lt = rw e (omega (arith, lt))

inside : (memory : List ℕ) (address : ℕ) (reads writes : Bool) → address + 8 ≤ length memory → data_error memory address reads writes ≡ false
unfolding data_error
inside memory address true writes h = rw (word_inside memory address h) refl
inside memory address false true h = rw (word_inside memory address h) refl
inside memory address false false h = refl

-- ---- the kinds

pub irmovq_fits : (data_at at r_b c : ℕ) → at < 2000000 → r_b < 14 → c < 2 ^ 64 → Fits data_at at (record { icode = 3; ifun = 0; r_a = 15; r_b = r_b; val_c = c })
unfolding row encoded data_error data_store
irmovq_fits data_at at r_b c small b lt =
    record {
      valid = irmovq_valid r_b c b;
      known = omega arith;
      ifun = omega arith;
      constant = lt;
      passes = λ m s. record { stat = refl; next = omega arith; dst_e = λ e. absurd (omega (arith, b, e)); dst_m = λ e. absurd (omega (arith, e)); store = no_store data_at };
    }

pub opq_fits : (data_at at ifun r_a r_b : ℕ) → at < 2000000 → ifun < 4 → r_a < 14 → r_b < 14 → Fits data_at at (record { icode = 6; ifun = ifun; r_a = r_a; r_b = r_b; val_c = 0 })
unfolding row encoded data_error data_store
opq_fits data_at at ifun r_a r_b small f a b =
    record {
      valid = opq_valid ifun r_a r_b f a b;
      known = omega arith;
      ifun = omega (arith, f);
      constant = omega arith;
      passes = λ m s. record { stat = refl; next = omega arith; dst_e = λ e. absurd (omega (arith, b, e)); dst_m = λ e. absurd (omega (arith, e)); store = no_store data_at };
    }

pub rrmovq_fits : (data_at at ifun r_a r_b : ℕ) → at < 2000000 → ifun < 7 → r_a < 14 → r_b < 14 → Fits data_at at (record { icode = 2; ifun = ifun; r_a = r_a; r_b = r_b; val_c = 0 })
unfolding row encoded data_error data_store
rrmovq_fits data_at at ifun r_a r_b small f a b =
    record {
      valid = rrmovq_valid ifun r_a r_b f a b;
      known = omega arith;
      ifun = omega (arith, f);
      constant = omega arith;
      passes = λ m s. record { stat = refl; next = omega arith; dst_e = late_dst (condition ifun m.flags) r_b b; dst_m = λ e. absurd (omega (arith, e)); store = no_store data_at };
    }

pub jxx_fits : (data_at at ifun : ℕ) → at < 2000000 → ifun < 7 → Fits data_at at (record { icode = 7; ifun = ifun; r_a = 15; r_b = 15; val_c = at + 9 })
unfolding row encoded data_error data_store
jxx_fits data_at at ifun small f =
    record {
      valid = jxx_valid ifun (at + 9) f;
      known = omega arith;
      ifun = omega (arith, f);
      constant = omega arith;
      passes = λ m s. record {
        stat = refl;
        next = either_way (condition ifun m.flags) _ _ (at + 9) refl (omega arith);
        dst_e = λ e. absurd (omega (arith, e));
        dst_m = λ e. absurd (omega (arith, e));
        store = no_store data_at;
      };
    }

-- the address of an instruction that accesses the data area, and that it is inside
abbrev reached : Machine → ℕ → ℕ
reached m c = alu_value 0 c (register m.regs 14)

no_fault : (data_at c : ℕ) (m : Machine) (reads writes : Bool) → Serves data_at m → c + 8 ≤ data_at + 2048 → data_error m.mem (reached m c) reads writes ≡ false
no_fault data_at c m reads writes s to =
    inside m.mem (reached m c) reads writes (rw (plus_zero (register m.regs 14) c s.zero (omega (arith, to, s.small))) (omega (arith, to, s.long)))

status : (fault : Bool) → fault ≡ false → cond fault Adr Aok ≡ Aok
status fault e = rw e refl

pub rmmovq_fits : (data_at at r_a c : ℕ) → at < 2000000 → data_at < 2000000 → r_a < 14 → data_at ≤ c → c + 8 ≤ data_at + 2048 → Fits data_at at (record { icode = 4; ifun = 0; r_a = r_a; r_b = 14; val_c = c })
unfolding row encoded
rmmovq_fits data_at at r_a c small low a from to =
    record {
      valid = rmmovq_valid r_a c a;
      known = omega arith;
      ifun = omega arith;
      constant = omega (arith, to, low);
      passes = λ m s. record {
        stat = status (data_error m.mem (reached m c) false true) (no_fault data_at c m false true s to);
        next = omega arith;
        dst_e = λ e. absurd (omega (arith, e));
        dst_m = λ e. absurd (omega (arith, e));
        store = store_from data_at (reached m c) (register m.regs r_a) (data_error m.mem (reached m c) false true)
            (rw (plus_zero (register m.regs 14) c s.zero (omega (arith, to, low))) from);
      };
    }

pub mrmovq_fits : (data_at at r_a c : ℕ) → at < 2000000 → data_at < 2000000 → r_a < 14 → c + 8 ≤ data_at + 2048 → Fits data_at at (record { icode = 5; ifun = 0; r_a = r_a; r_b = 14; val_c = c })
unfolding row encoded data_store
mrmovq_fits data_at at r_a c small low a to =
    record {
      valid = mrmovq_valid r_a c a;
      known = omega arith;
      ifun = omega arith;
      constant = omega (arith, to, low);
      passes = λ m s. record {
        stat = status (data_error m.mem (reached m c) true false) (no_fault data_at c m true false s to);
        next = omega arith;
        dst_e = λ e. absurd (omega (arith, e));
        dst_m = λ e. absurd (omega (arith, a, e));
        store = no_store data_at;
      };
    }
