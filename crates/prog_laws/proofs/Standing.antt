-- The instruction at a PC whose bytes are below the data area.
use Rattle.std.proofs.Common.{◌≡◌, ℕ, ◌+◌, ◌*◌, ◌/◌, ◌%◌, ◌^◌, ◌<◌, ◌≤◌, Bool, true, false, cond, List, ◌++◌, length, take, drop, get_or, Some, slice_get, refl, sym, ap, subst, ◌∙◌, arith, add-zero}
use Rattle.y86_base.specs.Image.{IsSize}
use Rattle.y86_base.specs.declared.parts.Variant.{Variant}
use Rattle.y86_base.specs.declared.parts.Variant.TheVariants.{Base, Full}
use Rattle.y86_isa.specs.declared.columns.Row.{Row}
use Rattle.y86_isa.specs.declared.encoding.Instr.{Instr}
use Rattle.y86_isa.specs.declared.machine.Machine.{Machine}
use Rattle.y86_isa.specs.Encoding.{IsValid, FitsRow, encoded, fields_of, widest}
use Rattle.y86_isa.specs.Run.{fetched_count, IsFetched}
use Rattle.y86_isa.specs.Table.{row, rows, is_instruction}
use Rattle.y86_isa.specs.Work.{work, worked}
use Rattle.y86_isa.proofs.Fetching.{held_at}
use Rattle.y86_isa.proofs.ReadBack.{fetched-encoded, length-encoded}
use Rattle.y86_isa.proofs.Rows.{row-widest}
use Rattle.prog_laws.proofs.Drawings.{encoded_size}
use Rattle.prog_laws.proofs.Fronts.{fits_below, holds_below}

in_each : (v : Variant) (icode : ℕ) → icode < 12 → icode < length (rows v)
in_each Base icode lt = omega (arith, lt)
in_each Full icode lt = omega (arith, lt)

valid_in_each : (v : Variant) (i : Instr) → i.icode < 12 → IsValid widest i → IsValid v i
valid_in_each v i lt h = record { known = in_each v i.icode lt; fits = subst (λ (r : Row). FitsRow r i) (sym (row-widest v i.icode (in_each v i.icode lt))) h.fits }

-- the bytes of an instruction are at the PC, followed by others
pub record Stands (data_at : ℕ) (i : Instr) (more : List ℕ) (m : Machine) : Type 0 where
  pub sized : IsSize (length m.mem)
  pub held : drop m.pc (take data_at m.mem) ≡ encoded i ++ more
  pub some : 0 < length more
  pub valid : IsValid widest i
  pub known : i.icode < 12
  pub ifun : i.ifun < 16
  pub constant : i.val_c < 2 ^ 64

pub works_as : (v : Variant) (data_at : ℕ) (i : Instr) (more : List ℕ) (m : Machine) → Stands data_at i more m → work v m ≡ worked m (row widest i.icode) (fields_of i m.pc)
unfolding work
works_as v data_at i more m s =
    ap (λ f. worked m (row v f.icode) f)
    (fetched-encoded v i m.mem m.pc (valid_in_each v i s.known s.valid) s.constant s.sized (holds_below m.mem (encoded i) more data_at m.pc s.held s.some))
    ∙ ap (λ (r : Row). worked m r (fields_of i m.pc)) (row-widest v i.icode (in_each v i.icode s.known))

either : (b : Bool) (x y most : ℕ) → x ≤ most → y ≤ most → cond b x y ≤ most
either true x y most p q = p
either false x y most p q = q

first_byte : (i : Instr) → get_or (encoded i) 0 0 ≡ 16 * i.icode + i.ifun
unfolding encoded
first_byte i = refl

-- what it fetches is below the data area
pub fetches_below : (v : Variant) (data_at : ℕ) (i : Instr) (more : List ℕ) (m : Machine) → Stands data_at i more m → (address : ℕ) → IsFetched v m.mem m.pc address → address < data_at
fetches_below v data_at i more m s address h =
    let first : ℕ = 16 * i.icode + i.ifun in
    let size : (1 ≤ length (encoded i)) × (length (encoded i) ≤ 10) = encoded_size i in
    let there : slice_get m.mem m.pc ≡ Some first =
    ap (slice_get m.mem) (sym (add-zero m.pc))
    ∙ (held_at m.mem (encoded i) m.pc 0 (holds_below m.mem (encoded i) more data_at m.pc s.held s.some) (omega (arith, size.0)) ∙ ap Some (first_byte i)) in
    let high : first / 16 ≡ i.icode = omega (arith, s.ifun) in
    let long : (row v (first / 16)).length ≡ length (encoded i) =
    ap (λ (k : ℕ). (row v k).length) high ∙ (ap (λ (r : Row). r.length) (row-widest v i.icode (in_each v i.icode s.known)) ∙ sym (length-encoded i)) in
    let count : fetched_count v m.mem m.pc ≤ length (encoded i) =
    rw there (either (is_instruction v (first / 16) (first % 16)) (row v (first / 16)).length 1 (length (encoded i)) (omega (arith, long)) (omega (arith, size.0))) in
    omega (arith, h.to, count, fits_below m.mem (encoded i) more data_at m.pc s.held s.some)
