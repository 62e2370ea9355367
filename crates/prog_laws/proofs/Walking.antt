-- A machine before the rest of a generated program, walked to its halt.
use Rattle.std.proofs.Common.{◌≡◌, ◌≢◌, ℕ, zero, suc, ◌+◌, ◌<◌, ◌≤◌, true, false, List, ◌∷◌, ◌++◌, length, take, drop, refl, sym, ap, subst, ◌∙◌, arith, append_assoc, length-append}
use Rattle.std.proofs.lemmas.Bool.{ne_eqb}
use Rattle.y86_base.specs.Image.{IsSize}
use Rattle.y86_base.specs.Registers.{register}
use Rattle.y86_base.specs.declared.parts.Stat.{Stat}
use Rattle.y86_base.specs.declared.parts.Stat.TheVariants.{Aok, Hlt}
use Rattle.y86_base.specs.declared.parts.Variant.{Variant}
use Rattle.y86_base.proofs.Memories.{length-with_register}
use Rattle.y86_isa.specs.declared.encoding.Instr.{Instr}
use Rattle.y86_isa.specs.declared.machine.Machine.{Machine}
use Rattle.y86_isa.specs.declared.work.Work.{Work}
use Rattle.y86_isa.specs.Blocks.{written_back, data_error}
use Rattle.y86_isa.specs.Encoding.{IsValid, encoded, fields_of, widest}
use Rattle.y86_isa.specs.Machine.{is_aok}
use Rattle.y86_isa.specs.Run.{run_from, records_from, IsFetched, IsStoredBy}
use Rattle.y86_isa.specs.Step.{advance, retired, finished}
use Rattle.y86_isa.specs.Table.{row}
use Rattle.y86_isa.specs.Work.{work, worked}
use Rattle.y86_isa.proofs.Effects.{mem-by_work}
use Rattle.y86_isa.proofs.Records.{advance-goes, retired-live, stat-advance}
use Rattle.y86_isa.proofs.Registers.{register-written_back}
use Rattle.y86_isa.proofs.Runs.{run_from-stopped, retired-stopped}
use Rattle.y86_isa.proofs.Steps.{length-advance}
use Rattle.prog_gen.specs.Programs.{code, next_drawn}
use Rattle.prog_laws.proofs.Doings.{Fits, Passes, Serves, StoresFrom}
use Rattle.prog_laws.proofs.Drawings.{drawn_fits}
use Rattle.prog_laws.proofs.Fronts.{fits_below, behind_them, stored_above}
use Rattle.prog_laws.proofs.Standing.{Stands, works_as, fetches_below}

-- the machine is at the code of n more instructions, followed by a halt, all below the data area
pub record Ready (data_at n word : ℕ) (rest : List ℕ) (m : Machine) : Type 0 where
  pub aok : m.stat ≡ Aok
  pub zero : register m.regs 14 ≡ 0
  pub registers : length m.regs ≡ 15
  pub sized : IsSize (length m.mem)
  pub long : length m.mem ≡ data_at + 2048
  pub room : 0 < length rest
  pub held : drop m.pc (take data_at m.mem) ≡ code data_at n m.pc word ++ 0 ∷ rest

-- every address from which the run of a machine fetches is below data_at, and every address to which it stores isn't
pub record Quiet (v : Variant) (data_at : ℕ) (m : Machine) : Type 0 where
  pub fetched : (i address : ℕ) → (run_from v m i).stat ≡ Aok → IsFetched v (run_from v m i).mem (run_from v m i).pc address → address < data_at
  pub stored : (i address : ℕ) → IsStoredBy (retired v (run_from v m i)) address → data_at ≤ address

-- the run of a machine has n more instructions, and the last one is a halt
pub record Ends (v : Variant) (data_at n : ℕ) (m : Machine) : Type 0 where
  pub records : length (records_from v m n) ≡ n
  pub halted : (run_from v m n).stat ≡ Hlt
  pub quiet : Quiet v data_at m

-- ---- what a step says about the run

stored_by : (v : Variant) (data_at : ℕ) (m : Machine) → is_aok m.stat ≡ true → is_aok (work v m).stat ≡ true → StoresFrom data_at (work v m).store →
    (address : ℕ) → IsStoredBy (retired v m) address → data_at ≤ address
stored_by v data_at m live on from address h = from address (rw on at (rw (retired-live v m live) at h))

quiet_more : (v : Variant) (data_at : ℕ) (m : Machine) → ((address : ℕ) → IsFetched v m.mem m.pc address → address < data_at) →
    ((address : ℕ) → IsStoredBy (retired v m) address → data_at ≤ address) → Quiet v data_at (advance v m) → Quiet v data_at m
unfolding run_from
quiet_more v data_at m now stores quiet = record { fetched = λ i. below i; stored = λ i. above i }
  where
    below : (i address : ℕ) → (run_from v m i).stat ≡ Aok → IsFetched v (run_from v m i).mem (run_from v m i).pc address → address < data_at
    below zero address on h = now address h
    below (suc i) address on h = quiet.fetched i address on h

    above : (i address : ℕ) → IsStoredBy (retired v (run_from v m i)) address → data_at ≤ address
    above zero address h = stores address h
    above (suc i) address h = quiet.stored i address h

not_both : (s : Stat) → is_aok s ≡ false → s ≡ Aok → ⊥
not_both s e a = absurd (cc (ap is_aok a))

quiet_stopped : (v : Variant) (data_at : ℕ) (m : Machine) → is_aok m.stat ≡ false → Quiet v data_at m
quiet_stopped v data_at m off =
    record {
      fetched = λ i address on h. absurd (not_both m.stat off (ap (λ a. a.stat) (sym (run_from-stopped v m i off)) ∙ on));
      stored = λ i address h. absurd (rw (run_from-stopped v m i off, retired-stopped v m off) at h);
    }

ends_more : (v : Variant) (data_at n : ℕ) (m : Machine) → is_aok m.stat ≡ true → Quiet v data_at m → Ends v data_at n (advance v m) → Ends v data_at (suc n) m
unfolding run_from records_from
ends_more v data_at n m live quiet ends =
    record {
      records = rw (retired-live v m live) (ap suc ends.records);
      halted = ends.halted;
      quiet = quiet;
    }

ends_none : (v : Variant) (data_at : ℕ) (m : Machine) → m.stat ≡ Hlt → Ends v data_at 0 m
unfolding run_from records_from
ends_none v data_at m e = record { records = refl; halted = e; quiet = quiet_stopped v data_at m (ap is_aok e) }

-- ---- the halt

halt : Instr
halt = record { icode = 0; ifun = 0; r_a = 15; r_b = 15; val_c = 0 }

halt_valid : IsValid widest halt
unfolding row halt
halt_valid = record { known = omega arith; fits = record { ifun = omega arith; field_a = refl; field_b = refl; constant = λ h. refl } }

halt_stands : (data_at word : ℕ) (rest : List ℕ) (m : Machine) → Ready data_at 0 word rest m → Stands data_at halt rest m
unfolding row code encoded halt
halt_stands data_at word rest m r =
    record { sized = r.sized; held = r.held; some = r.room; valid = halt_valid; known = omega arith; ifun = omega arith; constant = omega arith }

halt_status : (m : Machine) → (worked m (row widest halt.icode) (fields_of halt m.pc)).stat ≡ Hlt
unfolding row data_error halt
halt_status m = refl

halts_as : (v : Variant) (data_at word : ℕ) (rest : List ℕ) (m : Machine) → Ready data_at 0 word rest m → (work v m).stat ≡ Hlt
halts_as v data_at word rest m r = ap (λ w. w.stat) (works_as v data_at halt rest m (halt_stands data_at word rest m r)) ∙ halt_status m

stores_none : (v : Variant) (data_at : ℕ) (m : Machine) → is_aok m.stat ≡ true → is_aok (work v m).stat ≡ false → (address : ℕ) → IsStoredBy (retired v m) address → data_at ≤ address
stores_none v data_at m live off address h = absurd (rw off at (rw (retired-live v m live) at h))

halts : (v : Variant) (data_at word : ℕ) (rest : List ℕ) (m : Machine) → Ready data_at 0 word rest m → Ends v data_at 1 m
halts v data_at word rest m r =
    let live : is_aok m.stat ≡ true = ap is_aok r.aok in
    let stops : (work v m).stat ≡ Hlt = halts_as v data_at word rest m r in
    let ends : (advance v m).stat ≡ Hlt = stat-advance v m live ∙ stops in
    let quiet : Quiet v data_at m =
    quiet_more v data_at m (fetches_below v data_at halt rest m (halt_stands data_at word rest m r)) (stores_none v data_at m live (ap is_aok stops))
    (quiet_stopped v data_at (advance v m) (ap is_aok ends)) in
    ends_more v data_at 0 m live quiet (ends_none v data_at (advance v m) ends)

-- ---- one instruction

-- the next instruction, and what follows it
abbrev next : ℕ → Machine → ℕ → Instr
next data_at m word = (next_drawn data_at m.pc word).instr

abbrev more_of : ℕ → ℕ → Machine → ℕ → List ℕ → List ℕ
more_of data_at n m word rest = code data_at n (m.pc + length (encoded (next data_at m word))) (next_drawn data_at m.pc word).word ++ 0 ∷ rest

stands_next : (data_at n word : ℕ) (rest : List ℕ) (m : Machine) → data_at < 2000000 → m.pc < 2000000 → Ready data_at (suc n) word rest m →
    Stands data_at (next data_at m word) (more_of data_at n m word rest) m
unfolding code
stands_next data_at n word rest m low small r =
    let i : Instr = next data_at m word in
    let fits : Fits data_at m.pc i = drawn_fits data_at m.pc word low small in
    let behind : List ℕ = code data_at n (m.pc + length (encoded i)) (next_drawn data_at m.pc word).word in
    record {
      sized = r.sized;
      held = r.held ∙ append_assoc (encoded i) behind (0 ∷ rest);
      some = omega (arith, length-append behind (0 ∷ rest));
      valid = fits.valid;
      known = fits.known;
      ifun = fits.ifun;
      constant = fits.constant;
    }

written_zero : (registers : List ℕ) (w : Work) → length registers ≡ 15 → w.dst_e ≢ 14 → w.dst_m ≢ 14 → register registers 14 ≡ 0 →
    register (written_back registers w.dst_e w.val_e w.dst_m w.val_m) 14 ≡ 0
written_zero registers w size e m none =
    register-written_back registers w.dst_e w.val_e w.dst_m w.val_m 14 size (omega arith)
    ∙ rw (ne_eqb 14 w.dst_m (λ h. m (sym h)), ne_eqb 14 w.dst_e (λ h. e (sym h))) none

ready_next : (v : Variant) (data_at n word : ℕ) (rest : List ℕ) (m : Machine) → data_at < 2000000 → m.pc < 2000000 → Ready data_at (suc n) word rest m →
    Passes data_at (m.pc + length (encoded (next data_at m word))) (work v m) →
    Ready data_at n (next_drawn data_at m.pc word).word rest (advance v m)
ready_next v data_at n word rest m low small r p =
    let i : Instr = next data_at m word in
    let w : Work = work v m in
    let live : is_aok m.stat ≡ true = ap is_aok r.aok in
    let goes : advance v m ≡ finished m w = advance-goes v m live (ap is_aok p.stat) in
    let pc : (advance v m).pc ≡ m.pc + length (encoded i) = ap (λ a. a.pc) goes ∙ p.next in
    let size : length (advance v m).mem ≡ length m.mem = length-advance v m in
    let front : take data_at (advance v m).mem ≡ take data_at m.mem = ap (take data_at) (mem-by_work v m live) ∙ stored_above m.mem data_at w.store p.store in
    record {
      aok = stat-advance v m live ∙ p.stat;
      zero = ap (λ a. register a.regs 14) goes ∙ written_zero m.regs w r.registers p.dst_e p.dst_m r.zero;
      registers = ap (λ a. length a.regs) goes ∙ (length-with_register _ w.dst_m w.val_m ∙ (length-with_register m.regs w.dst_e w.val_e ∙ r.registers));
      sized = rw size r.sized;
      long = size ∙ r.long;
      room = r.room;
      held = ap (drop (advance v m).pc) front
          ∙ (behind_them m.mem (encoded i) (more_of data_at n m word rest) data_at m.pc (advance v m).pc pc (stands_next data_at n word rest m low small r).held
          ∙ ap (λ (k : ℕ). code data_at n k (next_drawn data_at m.pc word).word ++ 0 ∷ rest) (sym pc));
    }

-- the machine's PC is below the data area
pc_below : (data_at n word : ℕ) (rest : List ℕ) (m : Machine) → Ready data_at n word rest m → m.pc < data_at
pc_below data_at n word rest m r =
    let behind : List ℕ = code data_at n m.pc word in
    omega (arith, fits_below m.mem behind (0 ∷ rest) data_at m.pc r.held (omega arith))

pub ends : (v : Variant) (data_at n word : ℕ) (rest : List ℕ) (m : Machine) → data_at < 2000000 → Ready data_at n word rest m → Ends v data_at (suc n) m
ends v data_at zero word rest m low r = halts v data_at word rest m r
ends v data_at (suc n) word rest m low r =
    let i : Instr = next data_at m word in
    let more : List ℕ = more_of data_at n m word rest in
    let small : m.pc < 2000000 = omega (arith, pc_below data_at (suc n) word rest m r, low) in
    let stands : Stands data_at i more m = stands_next data_at n word rest m low small r in
    let serves : Serves data_at m = record { zero = r.zero; long = omega (arith, r.long); small = low } in
    let passes : Passes data_at (m.pc + length (encoded i)) (work v m) =
    subst (Passes data_at (m.pc + length (encoded i))) (sym (works_as v data_at i more m stands)) ((drawn_fits data_at m.pc word low small).passes m serves) in
    let live : is_aok m.stat ≡ true = ap is_aok r.aok in
    let behind : Ends v data_at (suc n) (advance v m) =
    ends v data_at n (next_drawn data_at m.pc word).word rest (advance v m) low (ready_next v data_at n word rest m low small r passes) in
    ends_more v data_at (suc n) m live
    (quiet_more v data_at m (fetches_below v data_at i more m stands) (stored_by v data_at m live (ap is_aok passes.stat) passes.store) behind.quiet)
    behind
