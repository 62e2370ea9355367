-- An instruction is read back from its bytes.
use Rattle.std.proofs.Common.{◌≡◌, ℕ, ◌+◌, ◌*◌, ◌%◌, ◌^◌, ◌<◌, ◌≤◌, Bool, true, false, cond, ◌&&◌, nat_le, ◌==◌, List, [], ◌∷◌, ◌++◌, length, get_or, Some, slice_get, refl, sym, ap, ◌∙◌, arith, add_assoc, add-zero}
use Rattle.std.specs.Int.{to_le_bytes, w64}
use Rattle.std.proofs.lemmas.List.{get_or-drop}
use Rattle.std.proofs.lemmas.Nat.{from_le_bytes-to_le_bytes_8}
use Rattle.std.proofs.lemmas.Bool.{and_from, le-leb, lt-ltb, ne_eqb}
use Rattle.std.proofs.lemmas.Bool.Decides.{nat_tests}
use Rattle.y86_base.specs.Image.{IsSize}
use Rattle.y86_base.specs.declared.parts.Variant.{Variant}
use Rattle.y86_isa.specs.declared.columns.Row.{Row}
use Rattle.y86_isa.specs.declared.encoding.Instr.{Instr}
use Rattle.y86_isa.specs.Table.{row, is_instruction}
use Rattle.y86_isa.specs.Blocks.{high_half, low_half, byte_at, field_a, field_b, constant_at, behind, lacks_register, reading, fetched}
use Rattle.y86_isa.specs.Encoding.{NamesRegister, FitsRow, IsValid, encoded, encoded_by, Holds, fields_of, widest}
use Rattle.y86_isa.proofs.Encodings.{field_most}
use Rattle.y86_isa.proofs.Rows.{row-length, row-widest, ifun_top-le}
use Rattle.y86_isa.proofs.RowsAgree.{fields_agree}
use Rattle.y86_isa.proofs.Fetching.{held_at, held_whole, held_byte_at, word_from-bytes}

halves : (high low : ℕ) → low ≤ 15 → (high_half (16 * high + low) ≡ high) × (low_half (16 * high + low) ≡ low)
halves high low h = (omega arith, omega arith)

-- ---- the bytes of an instruction, by the parts that it has

abbrev bytes_of : Bool → Bool → ℕ → ℕ → ℕ → List ℕ
bytes_of has constant first second n = first ∷ (cond has (second ∷ []) [] ++ cond constant (to_le_bytes w64 n) [])

length-bytes_of : (has constant : Bool) (first second n : ℕ) → length (bytes_of has constant first second n) ≡ 1 + cond has 1 0 + cond constant 8 0
length-bytes_of true true first second n = refl
length-bytes_of true false first second n = refl
length-bytes_of false true first second n = refl
length-bytes_of false false first second n = refl

second_of : (has constant : Bool) (first second n : ℕ) → has ≡ true →
    (1 < length (bytes_of has constant first second n)) × (get_or (bytes_of has constant first second n) 1 0 ≡ second)
second_of true constant first second n h = (rw (length-bytes_of true constant first second n) (omega arith), refl)
second_of false constant first second n h = cc

constant_of : (has : Bool) (first second n k : ℕ) →
    get_or (bytes_of has true first second n) (cond has 2 1 + k) 0 ≡ get_or (to_le_bytes w64 n) k 0
constant_of true first second n k = sym (get_or-drop 2 (first ∷ second ∷ to_le_bytes w64 n) k 0)
constant_of false first second n k = sym (get_or-drop 1 (first ∷ to_le_bytes w64 n) k 0)

-- ---- the fields that are read back

field_a_of : (has used : Bool) (memory : List ℕ) (pc high low : ℕ) → (has ≡ true → byte_at memory (pc + 1) ≡ 16 * high + low) →
    low ≤ 15 → (used ≡ true → has ≡ true) → NamesRegister used high → field_a memory pc has ≡ high
unfolding field_a
field_a_of true used memory pc high low e le there names = rw (e refl) (halves high low le).0
field_a_of false true memory pc high low e le there names = cc (there refl)
field_a_of false false memory pc high low e le there names = sym names

field_b_of : (has used : Bool) (memory : List ℕ) (pc high low : ℕ) → (has ≡ true → byte_at memory (pc + 1) ≡ 16 * high + low) →
    low ≤ 15 → (used ≡ true → has ≡ true) → NamesRegister used low → field_b memory pc has ≡ low
unfolding field_b
field_b_of true used memory pc high low e le there names = rw (e refl) (halves high low le).1
field_b_of false true memory pc high low e le there names = cc (there refl)
field_b_of false false memory pc high low e le there names = sym names

place : (has : Bool) (k : ℕ) → k < 8 → cond has 2 1 + k < 1 + cond has 1 0 + 8
place true k h = omega arith
place false k h = omega arith

const_of : (has constant : Bool) (memory : List ℕ) (pc first second n : ℕ) → IsSize (length memory) → n < 2 ^ 64 →
    Holds memory pc (bytes_of has constant first second n) → (constant ≡ false → n ≡ 0) → constant_at memory pc has constant ≡ n
unfolding constant_at
const_of has false memory pc first second n size lt h zero_if = sym (zero_if refl)
const_of has true memory pc first second n size lt h zero_if =
    word_from-bytes memory (to_le_bytes w64 n) (pc + cond has 2 1)
    (λ k below.
    rw add_assoc
    (held_byte_at memory (bytes_of has true first second n) pc (cond has 2 1 + k) size h
    (rw (length-bytes_of has true first second n) (place has k below))
    ∙ constant_of has first second n k))
    ∙ from_le_bytes-to_le_bytes_8 n lt

-- ---- the reading

-- an ifun that is written is one that the icode accepts
below : (top ifun : ℕ) → top ≤ 15 → ifun ≤ cond (top == 15) 0 top → ifun ≤ top
below top ifun le h = grind (arith, nat_tests)

begins : (v : Variant) (i : Instr) → IsValid v i → is_instruction v i.icode i.ifun ≡ true
begins v i valid =
    and_from _ _ (lt-ltb _ _ valid.known) (le-leb _ _ (below (row v i.icode).ifun_top i.ifun (ifun_top-le v i.icode) valid.fits.ifun))

reads : (v : Variant) (i : Instr) (memory : List ℕ) (pc : ℕ) (r : Row) → r ≡ row v i.icode → is_instruction v i.icode i.ifun ≡ true →
    i.ifun ≤ 15 → slice_get memory pc ≡ Some (16 * i.icode + i.ifun) → pc + r.length ≤ length memory →
    lacks_register memory pc r ≡ false → reading v memory pc ≡ record { error = false; icode = i.icode; ifun = i.ifun }
unfolding reading
reads v i memory pc r same begin le first fits has =
    let whole : nat_le (pc + r.length) (length memory) ≡ true = le-leb _ _ fits in
    rw (first, (halves i.icode i.ifun le).0, (halves i.icode i.ifun le).1, begin, ← same, whole, has) refl

named : (used : Bool) (field : ℕ) → NamesRegister used field → (used && (field == 15)) ≡ false
named true field h = ne_eqb field 15 (λ e. omega arith)
named false field h = refl

behind_of : (has constant : Bool) (pc first second n : ℕ) →
    behind pc has constant ≡ (pc + length (bytes_of has constant first second n)) % 2 ^ 64
unfolding behind
behind_of has constant pc first second n =
    ap (λ m. m % 2 ^ 64) (omega (arith, length-bytes_of has constant first second n))

-- a memory that holds the bytes of a valid instruction at pc splits to its fields there
by_row : (v : Variant) (i : Instr) (memory : List ℕ) (pc : ℕ) (r : Row) → r ≡ row v i.icode → IsValid v i → i.val_c < 2 ^ 64 →
    IsSize (length memory) → Holds memory pc (encoded_by r i) →
    fetched v memory pc
    ≡ record { error = false; icode = i.icode; ifun = i.ifun; r_a = i.r_a; r_b = i.r_b; val_c = i.val_c; val_p = (pc + length (encoded_by r i)) % 2 ^ 64 }
unfolding fetched
by_row v i memory pc r same valid lt size held =
    let fits : FitsRow r i = rw same valid.fits in
    let first = 16 * i.icode + i.ifun in
    let second = 16 * i.r_a + i.r_b in
    let bytes = bytes_of r.has_byte r.has_const first second i.val_c in
    let count : length bytes ≡ 1 + cond r.has_byte 1 0 + cond r.has_const 8 0 = length-bytes_of r.has_byte r.has_const first second i.val_c in
    let long : r.length ≡ length bytes = rw (same, row-length v i.icode) (sym (rw (← same) count)) in
    let ifun_le : i.ifun ≤ 15 = omega (arith, below r.ifun_top i.ifun (rw same (ifun_top-le v i.icode)) fits.ifun, rw (← same) at (ifun_top-le v i.icode)) in
    let r_b_le : i.r_b ≤ 15 = field_most r.uses_b i.r_b fits.field_b in
    let second_there : r.has_byte ≡ true → byte_at memory (pc + 1) ≡ second =
    λ h. held_byte_at memory bytes pc 1 size held (second_of r.has_byte r.has_const first second i.val_c h).0
    ∙ (second_of r.has_byte r.has_const first second i.val_c h).1 in
    let a : field_a memory pc r.has_byte ≡ i.r_a =
    field_a_of r.has_byte r.uses_a memory pc i.r_a i.r_b second_there r_b_le (rw same ((fields_agree v i.icode).byte_a)) fits.field_a in
    let b : field_b memory pc r.has_byte ≡ i.r_b =
    field_b_of r.has_byte r.uses_b memory pc i.r_a i.r_b second_there r_b_le (rw same ((fields_agree v i.icode).byte_b)) fits.field_b in
    let constant : constant_at memory pc r.has_byte r.has_const ≡ i.val_c =
    const_of r.has_byte r.has_const memory pc first second i.val_c size lt held fits.constant in
    let lacks : lacks_register memory pc r ≡ false = rw (a, b, named r.uses_a i.r_a fits.field_a, named r.uses_b i.r_b fits.field_b) refl in
    let at_first : slice_get memory pc ≡ Some first = rw (← add-zero pc) (held_at memory bytes pc 0 held (rw count (omega arith))) in
    let whole : pc + r.length ≤ length memory = rw long (held_whole memory bytes pc held (rw count (omega arith))) in
    rw (reads v i memory pc r same (begins v i valid) ifun_le at_first whole lacks, ← same, a, b, constant, behind_of r.has_byte r.has_const pc first second i.val_c) refl

pub fetched-encoded : (v : Variant) (i : Instr) (memory : List ℕ) (pc : ℕ) → IsValid v i → i.val_c < 2 ^ 64 → IsSize (length memory) →
    Holds memory pc (encoded i) → fetched v memory pc ≡ fields_of i pc
unfolding encoded
fetched-encoded v i memory pc valid lt size held =
    by_row v i memory pc (row widest i.icode) (sym (row-widest v i.icode valid.known)) valid lt size held

-- an instruction's length is the one that its row gives
pub length-encoded : (i : Instr) → length (encoded i) ≡ (row widest i.icode).length
unfolding encoded
length-encoded i =
    let r = row widest i.icode in
    length-bytes_of r.has_byte r.has_const (16 * i.icode + i.ifun) (16 * i.r_a + i.r_b) i.val_c ∙ sym (row-length widest i.icode)
