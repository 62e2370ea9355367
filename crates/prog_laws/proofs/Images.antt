-- A generated program as an image: its size, its bytes, and the machine that starts on it.
use Rattle.std.proofs.Common.{◌≡◌, ℕ, zero, suc, ◌+◌, ◌-◌, ◌*◌, ◌<◌, ◌≤◌, List, [], ◌∷◌, ◌++◌, length, take, replicate, All, refl, sym, ap, ◌∙◌, arith, length-append}
use Rattle.std.proofs.lemmas.List.{take-replicate, length-replicate}
use Rattle.std.proofs.Math.Seq.{take-append-add}
use Rattle.std.proofs.lemmas.List.Elements.{All-append, All-from_recursion, All-replicate}
use Rattle.y86_base.specs.Image.{IsSize}
use Rattle.y86_base.specs.Registers.{register}
use Rattle.y86_isa.specs.Encoding.{encoded}
use Rattle.y86_isa.specs.Machine.{start}
use Rattle.y86_isa.specs.Run.{IsImage}
use Rattle.prog_gen.specs.Programs.{code, data_start, next_drawn, program}
use Rattle.prog_laws.specs.Laws.{HasDataArea}
use Rattle.prog_laws.proofs.Doings.{Fits}
use Rattle.prog_laws.proofs.Drawings.{drawn_fits, encoded_size, bytes_of_encoded}
use Rattle.prog_laws.proofs.Walking.{Ready}

-- ---- the code

code_size : (data_at n at word : ℕ) → length (code data_at n at word) ≤ 10 * n
unfolding code
code_size data_at zero at word = omega arith
code_size data_at (suc n) at word =
    let bytes : List ℕ = encoded (next_drawn data_at at word).instr in
    let behind : List ℕ = code data_at n (at + length bytes) (next_drawn data_at at word).word in
    let size : (1 ≤ length bytes) × (length bytes ≤ 10) = encoded_size (next_drawn data_at at word).instr in
    let left : length behind ≤ 10 * n = code_size data_at n (at + length bytes) (next_drawn data_at at word).word in
    omega (arith, length-append bytes behind, size.1, left)

-- the addresses of its instructions stay small
code_bytes : (data_at n at word : ℕ) → data_at < 2000000 → at + 10 * n < 2000000 → All (λ byte. byte < 256) (code data_at n at word)
unfolding code
code_bytes data_at zero at word low small = All-from_recursion (λ byte. byte < 256) [] tt
code_bytes data_at (suc n) at word low small =
    let fits : Fits data_at at (next_drawn data_at at word).instr = drawn_fits data_at at word low (omega (arith, small)) in
    let bytes : List ℕ = encoded (next_drawn data_at at word).instr in
    let size : (1 ≤ length bytes) × (length bytes ≤ 10) = encoded_size (next_drawn data_at at word).instr in
    All-append (λ byte. byte < 256) bytes (code data_at n (at + length bytes) (next_drawn data_at at word).word)
    (bytes_of_encoded data_at at (next_drawn data_at at word).instr fits)
    (code_bytes data_at n (at + length bytes) (next_drawn data_at at word).word low (omega (arith, size.1, small)))

-- ---- the image

abbrev whole_code : ℕ → List ℕ
whole_code n = code (data_start n) n 0 n

start_low : (n : ℕ) → n ≤ 100000 → data_start n < 2000000
start_low n h = omega (arith, h)

-- zeros follow the code, more than one of them below the data area
room : (n : ℕ) → length (whole_code n) + 8 ≤ data_start n
room n = omega (arith, code_size (data_start n) n 0 n)

size_is : (n : ℕ) → length (program n) ≡ data_start n + 2048
unfolding program
size_is n =
    let text : List ℕ = whole_code n in
    omega (arith, length-append text (replicate (data_start n + 2048 - length text) 0), length-replicate {A = ℕ} (data_start n + 2048 - length text) 0, room n)

pub has_data : (n : ℕ) → HasDataArea (program n) n (data_start n)
has_data n = record { words = omega (arith, size_is n); room = omega arith; first = omega arith; aligned = omega arith }

pub sized : (n : ℕ) → n ≤ 100000 → IsSize (length (program n))
sized n h = record { least = omega (arith, size_is n); most = omega (arith, size_is n, h); whole_words = omega (arith, size_is n) }

pub is_image : (n : ℕ) → 1 ≤ n → n ≤ 100000 → IsImage (program n)
unfolding program
is_image n least most =
    record {
      sized = sized n most;
      bytes = All-append (λ byte. byte < 256) (whole_code n) (replicate (data_start n + 2048 - length (whole_code n)) 0)
          (code_bytes (data_start n) n 0 n (start_low n most) (omega (arith, most)))
          (All-replicate (λ byte. byte < 256) (data_start n + 2048 - length (whole_code n)) 0 (omega arith));
    }

-- bytes followed by zeros, up to an address
front_of : (text : List ℕ) (at more : ℕ) → length text + 1 ≤ at →
    take at (text ++ replicate (at + more - length text) 0) ≡ text ++ 0 ∷ replicate (at - length text - 1) 0
front_of text at more h =
    let left : ℕ = at - length text in
    let whole : length text + left ≡ at = omega arith in
    let some : left ≡ suc (left - 1) = omega arith in
    let zero_byte : ℕ = 0 in
    let zeros : List ℕ = replicate (at + more - length text) zero_byte in
    ap (λ (k : ℕ). take k (text ++ zeros)) (sym whole)
    ∙ (take-append-add text zeros left
    ∙ ap (λ (xs : List ℕ). text ++ xs) (take-replicate left (at + more - length text) zero_byte (omega arith) ∙ ap (λ (k : ℕ). replicate k zero_byte) some))

pub ready : (n : ℕ) → n ≤ 100000 → Ready (data_start n) n n (replicate (data_start n - length (whole_code n) - 1) 0) (start (program n))
unfolding program register
ready n h =
    record {
      aok = refl;
      zero = refl;
      registers = refl;
      sized = sized n h;
      long = size_is n;
      room = omega (arith, length-replicate {A = ℕ} (data_start n - length (whole_code n) - 1) 0, room n);
      held = front_of (whole_code n) (data_start n) 2048 (omega (arith, room n));
    }
