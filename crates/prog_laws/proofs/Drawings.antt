-- Every drawn instruction passes, and its bytes are bytes.
use Rattle.std.proofs.Common.{ℕ, ◌+◌, ◌*◌, ◌%◌, ◌^◌, ◌<◌, ◌≤◌, ◌==◌, Bool, true, false, cond, List, [], ◌∷◌, ◌++◌, length, All, arith}
use Rattle.std.specs.Int.{to_le_bytes, w64}
use Rattle.std.proofs.lemmas.List.Elements.{All-from_recursion, All-append}
use Rattle.y86_isa.specs.declared.columns.Row.{Row}
use Rattle.y86_isa.specs.declared.encoding.Instr.{Instr}
use Rattle.y86_isa.specs.Encoding.{encoded, widest}
use Rattle.y86_isa.specs.Table.{row}
use Rattle.y86_isa.proofs.Encodings.{field_most}
use Rattle.y86_isa.proofs.Memories.{bytes_of_word}
use Rattle.prog_gen.specs.Draws.{lcg_next, lcg_output}
use Rattle.prog_gen.specs.Programs.{Drawn, next_drawn}
use Rattle.prog_laws.proofs.Doings.{Fits, irmovq_fits, opq_fits, rrmovq_fits, rmmovq_fits, mrmovq_fits, jxx_fits}

-- ---- every kind passes

one_of : (data_at at : ℕ) (b : Bool) (x y : Drawn) → Fits data_at at x.instr → Fits data_at at y.instr → Fits data_at at (cond b x y).instr
one_of data_at at true x y p q = p
one_of data_at at false x y p q = q

given_lt : (word : ℕ) → lcg_output (lcg_next word) < 2 ^ 31
unfolding lcg_output lcg_next
given_lt word = omega arith

pub drawn_fits : (data_at at word : ℕ) → data_at < 2000000 → at < 2000000 → Fits data_at at (next_drawn data_at at word).instr
unfolding next_drawn
drawn_fits data_at at word low small =
    let kind : ℕ = lcg_output (lcg_next word) % 6 in
    let one : ℕ = lcg_output (lcg_next (lcg_next word)) in
    let two : ℕ = lcg_output (lcg_next (lcg_next (lcg_next word))) in
    let three : ℕ = lcg_output (lcg_next (lcg_next (lcg_next (lcg_next word)))) in
    let few : one < 2 ^ 31 = given_lt (lcg_next word) in
    one_of data_at at (kind == 0) _ _ (irmovq_fits data_at at (two % 14) one small (omega arith) (omega (arith, few)))
    (one_of data_at at (kind == 1) _ _ (opq_fits data_at at (one % 4) (two % 14) (three % 14) small (omega arith) (omega arith) (omega arith))
    (one_of data_at at (kind == 2) _ _ (rrmovq_fits data_at at (one % 7) (two % 14) (three % 14) small (omega arith) (omega arith) (omega arith))
    (one_of data_at at (kind == 3) _ _ (rmmovq_fits data_at at (one % 14) (data_at + 8 * (two % 256)) small low (omega arith) (omega arith) (omega arith))
    (one_of data_at at (kind == 4) _ _ (mrmovq_fits data_at at (two % 14) (data_at + 8 * (one % 256)) small low (omega arith) (omega arith))
    (jxx_fits data_at at (one % 7) small (omega arith))))))

-- ---- bytes

abbrev IsByte : ℕ → Type 0
IsByte n = n < 256

byte_first : (n : ℕ) (xs : List ℕ) → n < 256 → All IsByte xs → All IsByte (n ∷ xs)
byte_first n xs h rest = All-append IsByte (n ∷ []) xs (All-from_recursion IsByte (n ∷ []) (h, tt)) rest

no_bytes : All IsByte []
no_bytes = All-from_recursion IsByte [] tt

parts : (has constant : Bool) (first second n : ℕ) → first < 256 → second < 256 → All IsByte (first ∷ (cond has (second ∷ []) [] ++ cond constant (to_le_bytes w64 n) []))
parts true true first second n p q = byte_first first (second ∷ to_le_bytes w64 n) p (byte_first second (to_le_bytes w64 n) q (bytes_of_word n))
parts true false first second n p q = byte_first first (second ∷ []) p (byte_first second [] q no_bytes)
parts false true first second n p q = byte_first first (to_le_bytes w64 n) p (bytes_of_word n)
parts false false first second n p q = byte_first first [] p no_bytes

pub bytes_of_encoded : (data_at at : ℕ) (i : Instr) → Fits data_at at i → All IsByte (encoded i)
unfolding encoded
bytes_of_encoded data_at at i fits =
    let r : Row = row widest i.icode in
    let a : i.r_a ≤ 15 = field_most r.uses_a i.r_a fits.valid.fits.field_a in
    let b : i.r_b ≤ 15 = field_most r.uses_b i.r_b fits.valid.fits.field_b in
    parts r.has_byte r.has_const (16 * i.icode + i.ifun) (16 * i.r_a + i.r_b) i.val_c (omega (arith, fits.known, fits.ifun)) (omega (arith, a, b))

-- an instruction has one to ten bytes
length_parts : (has constant : Bool) (first second n : ℕ) →
    (1 ≤ length (first ∷ (cond has (second ∷ []) [] ++ cond constant (to_le_bytes w64 n) [])))
    × (length (first ∷ (cond has (second ∷ []) [] ++ cond constant (to_le_bytes w64 n) [])) ≤ 10)
length_parts true true first second n = (omega arith, omega arith)
length_parts true false first second n = (omega arith, omega arith)
length_parts false true first second n = (omega arith, omega arith)
length_parts false false first second n = (omega arith, omega arith)

pub encoded_size : (i : Instr) → (1 ≤ length (encoded i)) × (length (encoded i) ≤ 10)
unfolding encoded
encoded_size i = length_parts (row widest i.icode).has_byte (row widest i.icode).has_const (16 * i.icode + i.ifun) (16 * i.r_a + i.r_b) i.val_c
