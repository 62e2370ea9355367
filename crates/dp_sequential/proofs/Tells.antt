-- The record of a cycle reports all that it changed.
use Rattle.std.proofs.Common.{◌≡◌, ℕ, ◌==◌, Bool, true, false, cond, List, Option, IfSome, refl, sym, ap, ◌∙◌, arith}
use Rattle.std.proofs.lemmas.Bool.Decides.{nat_tests}
use Rattle.y86_base.specs.Registers.{with_register}
use Rattle.y86_base.specs.Stat.{stat_of}
use Rattle.y86_base.specs.declared.parts.Flags.{Flags}
use Rattle.y86_base.specs.declared.parts.Stat.{Stat}
use Rattle.y86_base.specs.declared.parts.Stat.TheVariants as stat
use Rattle.y86_base.specs.declared.parts.Variant.{Variant}
use Rattle.y86_isa.specs.declared.machine.Machine.{Machine}
use Rattle.y86_isa.specs.declared.machine.Rec.{Rec}
use Rattle.y86_isa.specs.Blocks.{stored}
use Rattle.y86_isa.specs.Laws.{IsRecordOfStep}
use Rattle.y86_isa.specs.Machine.{is_aok, normal, written_number, written_word}
use Rattle.y86_isa.proofs.Records.{written_same}
use Rattle.dp_sequential.specs.Cycle.{flags_by, memory_by, record_by, registers_by, stepped, store_by}
use Rattle.dp_sequential.specs.Path.{IsCycle, SequentialPath, Solves}
use Rattle.hcl_types.specs.declared.term.Term.{Term}
use Rattle.dp_signals.specs.declared.sequential_rows.SignalRows.{SignalRows}

-- the status is AOK for the number 1 alone
pub aok_is_one : (n : ℕ) → is_aok (stat_of n) ≡ (n == 1)
aok_is_one n = by (n == 0) (n == 1) (n == 2) (n == 3) (n == 4) (λ e. grind (arith, nat_tests, e))
  where
    by : (a b c d e : Bool) → (a ≡ true → b ≡ false) →
        is_aok (cond a stat.Bub (cond b stat.Aok (cond c stat.Hlt (cond d stat.Adr (cond e stat.Ins stat.Bad))))) ≡ b
    by true b c d e h = sym (h refl)
    by false true c d e h = refl
    by false false true d e h = refl
    by false false false true e h = refl
    by false false false false true h = refl
    by false false false false false h = refl

module _ (r : SignalRows) (m : Machine) (f : ℕ → ℕ) (pc : ℕ) where
  -- the machine after a cycle with this status, and the record with these flags
  abbrev next_by : Bool → Stat → Machine
  next_by goes stat =
      cond goes
      (record { regs = registers_by r m.regs f; flags = flags_by r m.flags f; pc = pc; stat = stat; mem = memory_by r m.mem f })
      (record m { stat = stat })

  abbrev record_with : Flags → Stat → Rec
  record_with flags stat =
      normal (record {
        pc = m.pc;
        icode = f r.icode;
        ifun = f r.ifun;
        dst_e = f r.dst_e;
        val_e = f r.val_e;
        dst_m = f r.dst_m;
        val_m = f r.val_m;
        store = store_by r f;
        flags = flags;
        stat = stat;
      })

  tells_by : (goes : Bool) (stat : Stat) → is_aok stat ≡ goes → IsRecordOfStep m (next_by goes stat) (record_with (next_by goes stat).flags stat)
  unfolding stored with_register
  tells_by true stat w =
      record {
        pc = rw w refl;
        stat = rw w refl;
        flags = rw w refl;
        mem = rw w refl;
        regs = rw w (written_same (with_register m.regs (f r.dst_e) (f r.val_e)) (f r.dst_m) (f r.val_m)
            ∙ ap (λ rs. with_register rs (written_number (f r.dst_m)) (written_word (f r.dst_m) (f r.val_m))) (written_same m.regs (f r.dst_e) (f r.val_e)));
      }
  tells_by false stat w = record { pc = rw w refl; stat = rw w refl; flags = rw w refl; mem = rw w refl; regs = rw w refl }

  pub tells : IsRecordOfStep m (stepped r m f pc) (record_by r m.pc (stepped r m f pc).flags f)
  tells = tells_by (f r.stat == 1) (stat_of (f r.stat)) (aok_is_one (f r.stat))

-- what each cycle's record says, the record of a cycle says, if there is one
pub cycle_says : {S : Type 0} (path : SequentialPath S) (v : Variant) (terms : List Term) (Says : S → S → Rec → Type 0) →
    ((s : S) (f : ℕ → ℕ) → Solves path v terms s f → Says s (path.next s f) (path.told s f)) →
    (s : S) (r : Option Rec) (t : S) → IsCycle path v terms s r t → IfSome r (Says s t)
cycle_says path v terms Says each s r t c = by (is_aok (path.stat s)) refl
  where
    by : (b : Bool) → is_aok (path.stat s) ≡ b → IfSome r (Says s t)
    by true e = let goes = c.goes e in rw (goes.3, goes.2) (each s goes.0 goes.1)
    by false e = rw (c.ended e).1 tt
